-- Which line may come next, and what it adds to what was read.
-- A text is: its first line; enumerations; the number of slots, and so many slots; lines of input; lines of output; bodies, each
-- with its slots and its instructions; the main list; and its last line.
use Rattle.std.specs.Prelude.{◌≡◌, ℕ, ◌-◌, ◌==◌, ◌&&◌, nat_lt, nat_le, not, Bool, true, false, List, [], ◌∷◌, ◌++◌, Option, None, Some, length, map, slice_get, is_some, if◌then◌else◌}
use Rattle.std.specs.List.{list_any}
use Rattle.std.specs.Str.{bytes_eq}
use Rattle.ls_base.specs.declared.Name.{Name}
use Rattle.ls_base.specs.Names.{with_name}
use Rattle.step_code.specs.Shapes.{is_arg}
use Rattle.step_code.specs.declared.draft.Draft.{Draft}
use Rattle.step_code.specs.declared.parts.CodeBody.{CodeBody}
use Rattle.step_code.specs.declared.parts.InLine.{InLine}
use Rattle.step_code.specs.declared.parts.Instr.{Instr}
use Rattle.step_code.specs.declared.parts.OutLine.{OutLine}
use Rattle.step_code.specs.declared.parts.Slot.{Slot}
use Rattle.step_text.specs.declared.entry.Entry.{Entry}
use Rattle.step_text.specs.declared.entry.Entry.TheVariants as entry
use Rattle.step_text.specs.declared.reading.Reading.{Reading}
use Rattle.step_text.specs.declared.reading.Stage.{Stage}
use Rattle.step_text.specs.declared.reading.Stage.TheVariants.{Header, Cases, Slots, Inputs, Outputs, Bodies, BodySlots, BodyLines, Main, Over}

-- a slot line follows where slots are left
abbrev pub slots_left : ℕ → Stage
slots_left left = if left == 0 then Inputs else Slots left

abbrev pub takes_inputs : Stage → Bool
takes_inputs Inputs = true
takes_inputs _ = false

abbrev pub takes_outputs : Stage → Bool
takes_outputs Inputs = true
takes_outputs Outputs = true
takes_outputs _ = false

abbrev pub takes_bodies : Stage → Bool
takes_bodies Inputs = true
takes_bodies Outputs = true
takes_bodies Bodies = true
takes_bodies _ = false

abbrev pub empty_body : CodeBody
empty_body = record { slots = []; list = [] }

-- what was read, with another stage
abbrev pub at_stage : Reading → Stage → Reading
at_stage r stage = record r { stage = stage }

-- a body that lacks so many slots and instructions goes on, or is whole
abbrev pub body_goes_on : Reading → ℕ → ℕ → Reading
body_goes_on r slots lines =
    if nat_lt 0 slots then at_stage r (BodySlots slots lines)
    else (if nat_lt 0 lines then at_stage r (BodyLines lines)
    else record r { stage = Bodies; bodies = r.bodies ++ r.body ∷ []; body = empty_body })

abbrev pub after_header : Stage → Reading → Option Reading
after_header Header r = Some (at_stage r Cases)
after_header _ r = None

abbrev pub after_slots : Stage → Reading → ℕ → Option Reading
after_slots Cases r count = if nat_le count 1000000 then Some (at_stage r (slots_left count)) else None
after_slots _ r count = None

-- slots are numbered from 0, and those of the main list are set by no caller
abbrev pub after_slot : Stage → Reading → ℕ → Slot → Option Reading
after_slot (Slots left) r at slot = if (at == length r.slots) && not (is_arg slot.kind) then Some (record r { slots = r.slots ++ slot ∷ []; stage = slots_left (left - 1) }) else None
after_slot (BodySlots left lines) r at slot =
    if at == length r.body.slots then Some (body_goes_on (record r { body = record { slots = r.body.slots ++ slot ∷ []; list = r.body.list } }) (left - 1) lines) else None
after_slot _ r at slot = None

abbrev pub after_in : Reading → InLine → Option Reading
after_in r line = if takes_inputs r.stage then Some (record r { inputs = r.inputs ++ line ∷ [] }) else None

abbrev pub after_out : Reading → OutLine → Option Reading
after_out r line = if takes_outputs r.stage then Some (record r { stage = Outputs; outputs = r.outputs ++ line ∷ [] }) else None

-- bodies are numbered from 0, and have one slot at least
abbrev pub after_body : Reading → ℕ → ℕ → ℕ → Option Reading
after_body r at slots lines =
    if takes_bodies r.stage && (at == length r.bodies) && nat_lt 0 slots then Some (record r { stage = BodySlots slots lines; body = empty_body }) else None

abbrev pub after_code : Reading → ℕ → Option Reading
after_code r lines = if takes_bodies r.stage then Some (at_stage r (Main lines)) else None

abbrev pub after_instr : Stage → Reading → Instr → Option Reading
after_instr (BodyLines left) r line = Some (body_goes_on (record r { body = record { slots = r.body.slots; list = r.body.list ++ line ∷ [] } }) 0 (left - 1))
after_instr (Main left) r line = if nat_lt 0 left then Some (record r { stage = Main (left - 1); main = r.main ++ line ∷ [] }) else None
after_instr _ r line = None

abbrev pub after_end : Stage → Reading → Option Reading
after_end (Main left) r = if left == 0 then Some (at_stage r Over) else None
after_end _ r = None

-- ---- enumerations

-- the words differ from each other and from those before them
abbrev pub all_new : List (List ℕ) → List (List ℕ) → Bool
all_new before [] = true
all_new before (word ∷ words) = not (list_any (bytes_eq word) before) && all_new (before ++ word ∷ []) words

abbrev pub is_cases : Stage → Bool
is_cases Cases = true
is_cases _ = false

-- one or more constructors, all different
abbrev pub takes_cases : Stage → List (List ℕ) → Bool
takes_cases stage words = is_cases stage && not (length words == 0) && all_new [] words

-- the names with some spellings that are added
abbrev pub with_names : List (List ℕ) → List (List ℕ) → List (List ℕ)
with_names names [] = names
with_names names (word ∷ words) = with_names (with_name names word) words

-- the numbers are those of the spellings
abbrev pub AreNumbered : List (List ℕ) → List (List ℕ) → List Name → Type 0
AreNumbered names words numbers = map (λ (name : Name). slice_get names name.0) numbers ≡ map (λ (word : List ℕ). Some word) words

-- an enumeration more
pub record TakesCases (old : Reading) (words : List (List ℕ)) (new : Reading) : Type 0 where
  pub may : takes_cases old.stage words ≡ true
  pub numbers : List Name
  pub named : AreNumbered new.names words numbers
  pub is : new ≡ record old { names = with_names old.names words; cases = old.cases ++ numbers ∷ [] }

-- ---- any line

-- what was read with one line more, which is no enumeration
abbrev pub next : Reading → Entry → Option Reading
next r entry.Header = after_header r.stage r
next r (entry.Cases words) = None
next r (entry.Slots count) = after_slots r.stage r count
next r (entry.Slot at slot) = after_slot r.stage r at slot
next r (entry.In line) = after_in r line
next r (entry.Out line) = after_out r line
next r (entry.Body at slots lines) = after_body r at slots lines
next r (entry.Code lines) = after_code r lines
next r (entry.Instr line) = after_instr r.stage r line
next r entry.End = after_end r.stage r

-- the line may come next
abbrev pub accepts : Reading → Entry → Bool
accepts r (entry.Cases words) = takes_cases r.stage words
accepts r e = is_some (next r e)

-- the line comes next, and leads from what was read to what is read then
abbrev pub Takes : Reading → Entry → Reading → Type 0
Takes old (entry.Cases words) new = TakesCases old words new
Takes old e new = next old e ≡ Some new

-- before the first line
abbrev pub nothing_read : Reading
nothing_read = record { stage = Header; cases = []; names = []; slots = []; inputs = []; outputs = []; bodies = []; body = empty_body; main = [] }

-- some lines, one after the other, lead from what was read to what is read then
abbrev pub Leads : Reading → List Entry → Reading → Type 0
Leads old [] new = old ≡ new
Leads old (e ∷ entries) new = (more : Reading) × Takes old e more × Leads more entries new

abbrev pub is_over : Stage → Bool
is_over Over = true
is_over _ = false

-- the last line was read, and nothing follows it
abbrev pub is_whole : Reading → List ℕ → Bool
is_whole r rest = (length rest == 0) && is_over r.stage

-- ---- the code as far as it was read: a body that is not whole lacks some instructions, and so does the main list

abbrev pub draft_with : Reading → List CodeBody → ℕ → ℕ → Draft
draft_with r bodies body_lacks main_lacks = record {
  cases = r.cases;
  names = r.names;
  slots = r.slots;
  inputs = r.inputs;
  outputs = r.outputs;
  bodies = bodies;
  main = r.main;
  body_lacks = body_lacks;
  main_lacks = main_lacks;
}

abbrev pub draft_at : Stage → Reading → Draft
draft_at (BodySlots left lines) r = draft_with r (r.bodies ++ r.body ∷ []) lines 0
draft_at (BodyLines lines) r = draft_with r (r.bodies ++ r.body ∷ []) lines 0
draft_at (Main lines) r = draft_with r r.bodies 0 lines
draft_at _ r = draft_with r r.bodies 0 0

abbrev pub draft_of : Reading → Draft
draft_of r = draft_at r.stage r

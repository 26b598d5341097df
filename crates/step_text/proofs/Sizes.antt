-- How many lines were read.
use Rattle.std.proofs.Common.{◌≡◌, ℕ, ◌+◌, ◌-◌, ◌≤◌, ◌==◌, ◌&&◌, not, nat_lt, nat_le, Bool, true, false, List, [], ◌∷◌, ◌++◌, length, Some, refl, sym, ◌∙◌, ap, arith, subst, length-append, if◌then◌else◌}
use Rattle.step_code.specs.Shapes.{is_arg}
use Rattle.step_code.specs.declared.parts.CodeBody.{CodeBody}
use Rattle.step_code.specs.declared.parts.Instr.{Instr}
use Rattle.step_code.specs.declared.parts.Slot.{Slot}
use Rattle.step_text.specs.declared.entry.Entry.{Entry}
use Rattle.step_text.specs.declared.entry.Entry.TheVariants as entry
use Rattle.step_text.specs.declared.reading.Reading.{Reading}
use Rattle.step_text.specs.declared.reading.Stage.{Stage}
use Rattle.step_text.specs.declared.reading.Stage.TheVariants.{Header, Cases, Slots, Inputs, Outputs, Bodies, BodySlots, BodyLines, Main, Over}
use Rattle.step_text.specs.Lines.{body_size, bodies_size, size}
use Rattle.step_text.specs.Next.{slots_left, takes_inputs, takes_outputs, takes_bodies, empty_body, at_stage, body_goes_on, after_header, after_slots, after_slot, after_instr, after_end, Takes, Leads, nothing_read, draft_of, draft_at}
use Rattle.step_text.proofs.Formed.{chosen}

pub bodies_more : (bodies : List CodeBody) (body : CodeBody) → bodies_size (bodies ++ body ∷ []) ≡ bodies_size bodies + body_size body
bodies_more [] body = omega arith
bodies_more (x ∷ bodies) body = ap (λ (n : ℕ). body_size x + n) (bodies_more bodies body) ∙ omega arith

-- the lines of the body that is being read
abbrev begun : Stage → CodeBody → ℕ
begun (BodySlots left lines) body = body_size body
begun (BodyLines left) body = body_size body
begun _ body = 0

abbrev whole : Reading → ℕ
whole r = 2 + length r.cases + length r.slots + length r.inputs + length r.outputs + bodies_size r.bodies + length r.main

abbrev lines_read : Reading → ℕ
lines_read r = whole r + begun r.stage r.body

draft_size : (s : Stage) (r : Reading) → size (draft_at s r) ≡ whole r + begun s r.body
draft_size (BodySlots left lines) r = let h = bodies_more r.bodies r.body in omega arith
draft_size (BodyLines left) r = let h = bodies_more r.bodies r.body in omega arith
draft_size (Main left) r = omega arith
draft_size Header r = omega arith
draft_size Cases r = omega arith
draft_size (Slots left) r = omega arith
draft_size Inputs r = omega arith
draft_size Outputs r = omega arith
draft_size Bodies r = omega arith
draft_size Over r = omega arith

abbrev IsMore : Reading → Reading → Type 0
IsMore old new = lines_read new ≤ lines_read old + 1

left_none : (left : ℕ) (body : CodeBody) → begun (slots_left left) body ≡ 0
left_none left body = by_test (left == 0)
  where
    by_test : (t : Bool) → begun (if t then Inputs else Slots left) body ≡ 0
    by_test true = refl
    by_test false = refl

goes_on_size : (old : Reading) (body : CodeBody) (slots lines : ℕ) → lines_read (body_goes_on (record old { body = body }) slots lines) ≡ whole old + body_size body
goes_on_size old body slots lines = by_slots (nat_lt 0 slots) (nat_lt 0 lines)
  where
    by_slots : (t u : Bool) → lines_read (if t then at_stage (record old { body = body }) (BodySlots slots lines) else (if u then at_stage (record old { body = body }) (BodyLines lines) else record old { stage = Bodies; bodies = old.bodies ++ body ∷ []; body = empty_body })) ≡ whole old + body_size body
    by_slots true u = refl
    by_slots false true = refl
    by_slots false false = let h = bodies_more old.bodies body in omega arith

more_header : (s : Stage) (old new : Reading) → after_header s old ≡ Some new → IsMore old new
more_header Header old new h =
    let is : at_stage old Cases ≡ new = cc in
    subst (IsMore old) is (omega arith)
more_header _ old new h = absurd (cc)

more_slots : (s : Stage) (old new : Reading) (count : ℕ) → after_slots s old count ≡ Some new → IsMore old new
more_slots Cases old new count h =
    let is = chosen (nat_le count 1000000) (at_stage old (slots_left count)) new h in
    let none : begun (slots_left count) old.body ≡ 0 = left_none count old.body in
    subst (IsMore old) is.1 (omega arith)
more_slots _ old new count h = absurd (cc)

more_slot : (s : Stage) (old new : Reading) (at : ℕ) (slot : Slot) → old.stage ≡ s → after_slot s old at slot ≡ Some new → IsMore old new
more_slot (Slots left) old new at slot es h =
    let is = chosen ((at == length old.slots) && not (is_arg slot.kind)) (record old { slots = old.slots ++ slot ∷ []; stage = slots_left (left - 1) }) new h in
    let none : begun (slots_left (left - 1)) old.body ≡ 0 = left_none (left - 1) old.body in
    let long : length (old.slots ++ slot ∷ []) ≡ length old.slots + 1 = length-append old.slots (slot ∷ []) in
    subst (IsMore old) is.1 (omega arith)
more_slot (BodySlots left lines) old new at slot es h =
    let body : CodeBody = record { slots = old.body.slots ++ slot ∷ []; list = old.body.list } in
    let is = chosen (at == length old.body.slots) (body_goes_on (record old { body = record { slots = old.body.slots ++ slot ∷ []; list = old.body.list } }) (left - 1) lines) new h in
    let size_is = goes_on_size old (record { slots = old.body.slots ++ slot ∷ []; list = old.body.list }) (left - 1) lines in
    let before : begun old.stage old.body ≡ body_size old.body = ap (λ (s : Stage). begun s old.body) es in
    let long : length (old.body.slots ++ slot ∷ []) ≡ length old.body.slots + 1 = length-append old.body.slots (slot ∷ []) in
    subst (IsMore old) is.1 (omega arith)
more_slot _ old new at slot es h = absurd (cc)

more_instr : (s : Stage) (old new : Reading) (line : Instr) → old.stage ≡ s → after_instr s old line ≡ Some new → IsMore old new
more_instr (BodyLines left) old new line es h =
    let is : body_goes_on (record old { body = record { slots = old.body.slots; list = old.body.list ++ line ∷ [] } }) 0 (left - 1) ≡ new = cc in
    let size_is = goes_on_size old (record { slots = old.body.slots; list = old.body.list ++ line ∷ [] }) 0 (left - 1) in
    let before : begun old.stage old.body ≡ body_size old.body = ap (λ (s : Stage). begun s old.body) es in
    let long : length (old.body.list ++ line ∷ []) ≡ length old.body.list + 1 = length-append old.body.list (line ∷ []) in
    subst (IsMore old) is (omega arith)
more_instr (Main left) old new line es h =
    let is = chosen (nat_lt 0 left) (record old { stage = Main (left - 1); main = old.main ++ line ∷ [] }) new h in
    let long : length (old.main ++ line ∷ []) ≡ length old.main + 1 = length-append old.main (line ∷ []) in
    subst (IsMore old) is.1 (omega arith)
more_instr _ old new line es h = absurd (cc)

more_end : (s : Stage) (old new : Reading) → after_end s old ≡ Some new → IsMore old new
more_end (Main left) old new h =
    let is = chosen (left == 0) (at_stage old Over) new h in
    subst (IsMore old) is.1 (omega arith)
more_end _ old new h = absurd (cc)

takes_more : (old new : Reading) (e : Entry) → Takes old e new → IsMore old new
takes_more old new entry.Header t = more_header old.stage old new t
takes_more old new (entry.Cases words) t =
    let long : length (old.cases ++ t.numbers ∷ []) ≡ length old.cases + 1 = length-append old.cases (t.numbers ∷ []) in
    subst (IsMore old) (sym t.is) (omega arith)
takes_more old new (entry.Slots count) t = more_slots old.stage old new count t
takes_more old new (entry.Slot at slot) t = more_slot old.stage old new at slot refl t
takes_more old new (entry.In line) t =
    let is = chosen (takes_inputs old.stage) (record old { inputs = old.inputs ++ line ∷ [] }) new t in
    let long : length (old.inputs ++ line ∷ []) ≡ length old.inputs + 1 = length-append old.inputs (line ∷ []) in
    subst (IsMore old) is.1 (omega arith)
takes_more old new (entry.Out line) t =
    let is = chosen (takes_outputs old.stage) (record old { stage = Outputs; outputs = old.outputs ++ line ∷ [] }) new t in
    let long : length (old.outputs ++ line ∷ []) ≡ length old.outputs + 1 = length-append old.outputs (line ∷ []) in
    subst (IsMore old) is.1 (omega arith)
takes_more old new (entry.Body at slots lines) t =
    let is = chosen (takes_bodies old.stage && (at == length old.bodies) && nat_lt 0 slots) (record old { stage = BodySlots slots lines; body = empty_body }) new t in
    subst (IsMore old) is.1 (omega arith)
takes_more old new (entry.Code lines) t =
    let is = chosen (takes_bodies old.stage) (at_stage old (Main lines)) new t in
    subst (IsMore old) is.1 (omega arith)
takes_more old new (entry.Instr line) t = more_instr old.stage old new line refl t
takes_more old new entry.End t = more_end old.stage old new t

leads_size : (old : Reading) (entries : List Entry) (new : Reading) → Leads old entries new → lines_read new ≤ lines_read old + length entries
leads_size old [] new h = subst (λ (r : Reading). lines_read r ≤ lines_read old + 0) h (omega arith)
leads_size old (e ∷ entries) new h =
    let first = takes_more old h.0 e h.1 in
    let more = leads_size h.0 entries new h.2 in
    omega arith

-- what was read has few more lines than were read
pub read_size : (entries : List Entry) (r : Reading) → Leads nothing_read entries r → size (draft_of r) ≤ length entries + 2
read_size entries r h =
    let all = leads_size nothing_read entries r h in
    let is = draft_size r.stage r in
    omega arith

pub leads_more : (old : Reading) (entries : List Entry) (e : Entry) (mid new : Reading) → Leads old entries mid → Takes mid e new → Leads old (entries ++ e ∷ []) new
leads_more old [] e mid new h t = (new, subst (λ (r : Reading). Takes r e new) (sym h) t, refl)
leads_more old (x ∷ entries) e mid new h t = (h.0, h.1, leads_more h.0 entries e mid new h.2 t)

-- The text of step code, and why a text is refused.
use Rattle.std.specs.Prelude.{◌≡◌, ◌≢◌, ℕ, ◌+◌, Bool, true, false, IsTrue, List, [], ◌∷◌, ◌++◌, None, Some, length, map, slice_get, unwrap_or, All}
use Rattle.ls_base.specs.declared.Name.{Name}
use Rattle.line_io.specs.Line.{NoNewline}
use Rattle.step_code.specs.Valid.{first_fault, is_formed}
use Rattle.step_code.specs.declared.draft.Draft.{Draft}
use Rattle.step_code.specs.declared.parts.CodeBody.{CodeBody}
use Rattle.step_code.specs.declared.parts.Instr.{Instr}
use Rattle.step_code.specs.declared.parts.Place.{Place}
use Rattle.step_code.specs.declared.parts.Slot.{Slot}
use Rattle.step_code.specs.declared.parts.Fault.{Fault}
use Rattle.step_code.specs.declared.parts.Fault.TheVariants as fault
use Rattle.step_text.specs.declared.entry.Entry.{Entry}
use Rattle.step_text.specs.declared.entry.Entry.TheVariants.{Header, Cases, Slots, Slot as SlotLine, In, Out, Body, Code, Instr as Line, End}
use Rattle.step_text.specs.declared.fault.CodeFault.{CodeFault}
use Rattle.step_text.specs.declared.fault.CodeFault.TheVariants.{NotCode, BadSlot, BadOrder, BadShape, NoMemory}
use Rattle.step_text.specs.declared.reading.Reading.{Reading}
use Rattle.step_text.specs.Entries.{entry_text, entry_words, text_of}
use Rattle.step_text.specs.Legal.{IsEntry}
use Rattle.step_text.specs.Lines.{line_of}
use Rattle.step_text.specs.Next.{Leads, Takes, accepts, draft_of, is_whole, nothing_read}
use Rattle.step_text.specs.Words.{words_of}

-- ---- the lines of step code

abbrev pub spelling : List (List ℕ) → Name → List ℕ
spelling names name = unwrap_or (slice_get names name.0) []

abbrev pub cases_lines : List (List ℕ) → List (List Name) → List Entry
cases_lines names cases = map (λ (ns : List Name). Cases (map (spelling names) ns)) cases

-- slots, numbered from one on
abbrev pub slot_lines : ℕ → List Slot → List Entry
slot_lines k [] = []
slot_lines k (slot ∷ slots) = SlotLine k slot ∷ slot_lines (k + 1) slots

abbrev pub instr_lines : List Instr → List Entry
instr_lines list = map Line list

-- bodies, numbered from one on
abbrev pub bodies_lines : ℕ → List CodeBody → List Entry
bodies_lines b [] = []
bodies_lines b (body ∷ bodies) = Body b (length body.slots) (length body.list) ∷ (slot_lines 0 body.slots ++ (instr_lines body.list ++ bodies_lines (b + 1) bodies))

abbrev pub code_lines : Draft → List Entry
code_lines d =
    Header ∷ (cases_lines d.names d.cases ++ (Slots (length d.slots) ∷ (slot_lines 0 d.slots ++ (map In d.inputs ++ (map Out d.outputs ++ (bodies_lines 0 d.bodies
    ++ (Code (length d.main) ∷ (instr_lines d.main ++ End ∷ []))))))))

-- the text of step code
abbrev pub code_text : Draft → List ℕ
code_text d = text_of (code_lines d)

-- the fault at a line
abbrev pub fault_at : Fault → ℕ → CodeFault
fault_at fault.Slot line = BadSlot (record { 0 = line })
fault_at fault.Order line = BadOrder (record { 0 = line })
fault_at fault.Shape line = BadShape (record { 0 = line })

-- ---- how far a text is read

-- the line says nothing that may come next
abbrev pub NoWords : Reading → List ℕ → Type 0
NoWords r line = (e : Entry) → IsEntry e → accepts r e ≡ true → words_of line ≢ entry_words e

-- no line stands next that may come next
abbrev pub NoNext : Reading → List ℕ → Type 0
NoNext r rest = (line more : List ℕ) → NoNewline line → rest ≡ line ++ 10 ∷ more → NoWords r line

-- a line is taken from the front of a text, and more is left
pub record IsTaken (old : Reading) (text : List ℕ) (new : Reading) (more : List ℕ) : Type 0 where
  pub line : Entry
  pub legal : IsEntry line
  pub front : text ≡ entry_text line ++ more
  pub takes : Takes old line new

-- the text is read up to its first line that may not come next: these are its lines, and this is what they say
pub record IsRead (bytes : List ℕ) (entries : List Entry) (r : Reading) (rest : List ℕ) : Type 0 where
  pub legal : All IsEntry entries
  pub text : bytes ≡ text_of entries ++ rest
  pub leads : Leads nothing_read entries r
  pub last : NoNext r rest

-- the same with the number of lines, and whether the text is whole
pub record IsReadTo (bytes : List ℕ) (r : Reading) (lines : ℕ) (whole : Bool) : Type 0 where
  pub entries : List Entry
  pub rest : List ℕ
  pub read : IsRead bytes entries r rest
  pub count : lines ≡ length entries
  pub is_all : whole ≡ is_whole r rest

-- a draft that lacks nothing is well formed, and has few slots
pub record IsWhole (d : Draft) : Type 0 where
  pub bodies : d.body_lacks ≡ 0
  pub main : d.main_lacks ≡ 0
  pub formed : IsTrue (is_formed d)

-- Why code is refused of which so many lines were read, and whose text is whole or not: for the first fault of a line, at the
-- place of that line; or, where no line has a fault, at the line that follows, which may not come next or is missing.
abbrev pub IsJudged : Bool → ℕ → Draft → CodeFault → Type 0
IsJudged whole lines d (NotCode line) = (first_fault d ≡ None) × (whole ≡ false) × (line.0 ≡ lines + 1)
IsJudged whole lines d (BadSlot line) = (place : Place) × (first_fault d ≡ Some (place, fault.Slot)) × (line.0 ≡ line_of d place)
IsJudged whole lines d (BadOrder line) = (place : Place) × (first_fault d ≡ Some (place, fault.Order)) × (line.0 ≡ line_of d place)
IsJudged whole lines d (BadShape line) = (place : Place) × (first_fault d ≡ Some (place, fault.Shape)) × (line.0 ≡ line_of d place)
IsJudged whole lines d NoMemory = Unit {0}

-- a text is refused as the code that was read up to its first line that may not come next
pub record IsRefusedText (bytes : List ℕ) (fault : CodeFault) : Type 0 where
  pub entries : List Entry
  pub r : Reading
  pub rest : List ℕ
  pub read : IsRead bytes entries r rest
  pub judged : IsJudged (is_whole r rest) (length entries) (draft_of r) fault

-- want of memory is no fault of the text
abbrev pub IsRefused : List ℕ → CodeFault → Type 0
IsRefused bytes NoMemory = Unit {0}
IsRefused bytes fault = IsRefusedText bytes fault

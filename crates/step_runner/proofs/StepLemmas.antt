-- A whole step.
use Rattle.std.proofs.Common.{◌≡◌, ℕ, zero, suc, ◌<◌, Bool, true, false, List, [], ◌∷◌, length, map, refl, sym, ◌∙◌, ap, subst, arith, Option, Some, None, zero-add, add-zero}
use Rattle.std.specs.Prelude.{◌&&◌, slice_get, slice_index_or, All, MatchOption, if◌then◌else◌, position, nat_lt}
use Rattle.std.specs.Option.{option_map_or, option_and_then}
use Rattle.std.specs.List.{list_all}
use Rattle.std.specs.Prelude.{not, ◌==◌}
use Rattle.std.proofs.lemmas.Bool.{ltb-true, lt-ltb}
use Rattle.std.proofs.lemmas.List.Quantifiers.{position-Some}
use Rattle.ls_base.specs.declared.Name.{Name}
use Rattle.ls_value.specs.declared.leaf.Leaf.{Leaf}
use Rattle.ls_value.specs.declared.leaf.Leaf.TheVariants.{Nil, Int, Bool as Truth, Char, Text, Enum, Unit as Nothing}
use Rattle.ls_value.specs.declared.leaf.Shape.{Shape}
use Rattle.line_io.specs.declared.form.InputForm.{InputForm}
use Rattle.line_io.specs.declared.form.Field.{Field}
use Rattle.line_io.specs.declared.form.Cell.{Cell}
use Rattle.line_io.specs.declared.form.Cell.TheVariants.{Absent, NotEmitted, Leaf as Given}
use Rattle.line_io.specs.declared.form.Reading.{Reading}
use Rattle.line_io.specs.declared.form.Reading.TheVariants.{Leaf as Holding}
use Rattle.line_io.specs.Cells.{CellAt, CellIs, Fits}
use Rattle.line_io.specs.Fields.{ReadsAs, Spells, is_named}
use Rattle.line_io.specs.Rows.{IsWritable}
use Rattle.line_io.specs.Words.{words_of}
use Rattle.step_code.specs.declared.code.Code.{Code}
use Rattle.step_code.specs.declared.parts.CodeBody.{CodeBody}
use Rattle.step_code.specs.declared.parts.InLine.{InLine}
use Rattle.step_code.specs.declared.parts.OutLine.{OutLine}
use Rattle.step_code.specs.declared.parts.Instr.{Instr}
use Rattle.step_code.specs.declared.parts.Slot.{Slot}
use Rattle.step_code.specs.Drafts.{draft_of}
use Rattle.step_code.specs.Shapes.{has_case, is_arg}
use Rattle.step_code.specs.Leaves.{is_true}
use Rattle.step_code.specs.Steps.{Moment, moment, run, body_steps, step, start, with_inputs, first_leaf, first_slots, form_of, out_cell, guarded_cell, row}
use Rattle.step_code.specs.Valid as valid
use Rattle.step_runner.specs.Ranges.{IsWithin, AreWithin, InWithin, OutWithin, IsKnown, window_at}
use Rattle.step_runner.specs.Running.{later}
use Rattle.step_runner.proofs.Validity.{Each, each_all, code_keeps, and-left, and-right}
use Rattle.step_runner.proofs.Known.{run_later, bodies_shift, any_body, run_known, bodies_keep, inputs_known, CellKnown, get_known}

-- ---- what the calls of a step need

pub inputs_need : (code : Code) (size : ℕ) (lines : List InLine) → size ≡ length code.slots → lines ≡ code.inputs → All (InWithin size) lines
inputs_need code size lines n l =
    subst (λ (k : ℕ). All (InWithin k) lines) (sym n) (subst (λ (ls : List InLine). All (InWithin (length code.slots)) ls) (sym l) (code_keeps code).inputs)

pub outputs_need : (code : Code) (size : ℕ) (lines : List OutLine) → size ≡ length code.slots → lines ≡ code.outputs → All (OutWithin size) lines
outputs_need code size lines n l =
    subst (λ (k : ℕ). All (OutWithin k) lines) (sym n) (subst (λ (ls : List OutLine). All (OutWithin (length code.slots)) ls) (sym l) (code_keeps code).outputs)

pub bodies_need : (code : Code) (bodies : List CodeBody) → bodies ≡ code.bodies → AreWithin [] bodies
bodies_need code bodies e = subst (λ (bs : List CodeBody). AreWithin [] bs) (sym e) (code_keeps code).bodies

pub main_need : (code : Code) (bodies : List CodeBody) (size : ℕ) (main : List Instr) → bodies ≡ code.bodies → size ≡ length code.slots → main ≡ code.main
    → All (IsWithin bodies size) main
main_need code bodies size main b n l =
    subst (λ (bs : List CodeBody). All (IsWithin bs size) main) (sym b)
    (subst (λ (k : ℕ). All (IsWithin code.bodies k) main) (sym n) (subst (λ (ls : List Instr). All (IsWithin code.bodies (length code.slots)) ls) (sym l) (code_keeps code).main))

-- ---- what a step comes to

pub step_done : (code : Code) (cells : List Cell) (slots set_slots : List Leaf) (lines : List InLine) (bodies : List CodeBody) (main : List Instr) (steps : ℕ) (m : Moment)
    → lines ≡ code.inputs → bodies ≡ code.bodies → main ≡ code.main → set_slots ≡ with_inputs lines cells slots
    → m ≡ run (body_steps [] bodies) (window_at 0) 0 main (moment set_slots false steps) → m ≡ later steps (step code cells slots)
step_done code cells slots set_slots lines bodies main steps m l b k s made =
    made
    ∙ (λ i. run (body_steps [] (b i)) (λ n. zero-add n i) 0 (k i) (moment ((s ∙ ap (λ ls. with_inputs ls cells slots) l) i) false (sym (add-zero steps) i)))
    ∙ run_later (body_steps [] code.bodies) (bodies_shift code.bodies (any_body code.bodies)) (λ n. n) 0 code.main steps (start code cells slots)

-- ---- constructors in slots

pub first_known : (code : Code) → All (λ leaf. IsKnown code.cases leaf) (first_slots code)
first_known code = each_all (λ leaf. IsKnown code.cases leaf) (first_slots code) (over code.slots (code_keeps code).slots)
  where
    over : (slots : List Slot) → Each (λ (s : Slot). IsKnown code.cases (first_leaf s.kind)) slots → Each (λ leaf. IsKnown code.cases leaf) (map (λ (s : Slot). first_leaf s.kind) slots)
    over [] h = tt
    over (s ∷ rest) h = (h.0, over rest h.1)

found_within : {X : Type 0} (xs : List X) (k : ℕ) (x : X) → slice_get xs k ≡ Some x → k < length xs
found_within [] k x e = absurd (cc e)
found_within (y ∷ ys) zero x e = omega arith
found_within (y ∷ ys) (suc k) x e = let h : k < length ys = found_within ys k x e in omega (arith, h)

slice_get_in : {X : Type 0} (xs : List X) (k : ℕ) → k < length xs → (x : X) × (slice_get xs k ≡ Some x)
slice_get_in [] k lt = absurd (omega (arith, lt))
slice_get_in (x ∷ xs) zero lt = (x, refl)
slice_get_in (x ∷ xs) (suc k) lt = slice_get_in xs k (omega (arith, lt))

list_all_get : {X : Type 0} (p : X → Bool) (xs : List X) (k : ℕ) (x : X) → list_all p xs ≡ true → slice_get xs k ≡ Some x → p x ≡ true
list_all_get p [] k x h e = absurd (cc e)
list_all_get p (y ∷ ys) zero x h e = let is : y ≡ x = cc e in ap p (sym is) ∙ and-left (p y) (list_all p ys) h
list_all_get p (y ∷ ys) (suc k) x h e = list_all_get p ys k x (and-right (p y) (list_all p ys) h) e

each_from : {X : Type 0} (P : X → Type 0) (xs : List X) → ((k : ℕ) (x : X) → slice_get xs k ≡ Some x → P x) → Each P xs
each_from P [] h = tt
each_from P (x ∷ xs) h = (h zero x refl, each_from P xs (λ k. h (suc k)))

module _ (form : InputForm) where
  case_known : (k : ℕ) (word : List ℕ) (o : Option (List Name)) → MatchOption o ⊥ (λ names. position (is_named form.names word) names ≡ Some k)
      → option_map_or (λ names. nat_lt k (length names)) o false ≡ true
  case_known k word None h = absurd h
  case_known k word (Some names) h = lt-ltb k (length names) (position-Some (is_named form.names word) names k (record { 0 = 0 }) h).0

  spelled_known : (shape : Shape) (word : List ℕ) (leaf : Leaf) → Spells form shape word leaf → IsKnown form.cases leaf
  spelled_known shape word Nil h = absurd h
  spelled_known shape word (Int n) h = refl
  spelled_known shape word (Truth b) h = refl
  spelled_known shape word (Char c) h = refl
  spelled_known shape word (Text t) h = refl
  spelled_known shape word (Enum t k) h = case_known k word (slice_get form.cases t) h.1
  spelled_known shape word Nothing h = refl

  word_known : (shape : Shape) (leaf : Leaf) (ow : Option (List ℕ)) → ReadsAs form shape ow (Holding leaf) → IsKnown form.cases leaf
  word_known shape leaf None h = absurd h
  word_known shape leaf (Some w) h = spelled_known shape w leaf h.1

  at_known : (field : Option Field) (reading : Option Reading) (ow : Option (List ℕ)) (fields : List Field) (readings : List Reading) (cell : Cell)
      → MatchOption field ⊥ (λ f. MatchOption reading ⊥ (λ r. CellIs fields readings f r cell))
      → MatchOption field (Unit {0}) (λ f. MatchOption reading ⊥ (λ r. ReadsAs form f.shape ow r)) → CellKnown form.cases cell
  at_known None reading ow fields readings cell h r = absurd h
  at_known (Some f) None ow fields readings cell h r = absurd h
  at_known (Some f) (Some reading) ow fields readings Absent h r = tt
  at_known (Some f) (Some reading) ow fields readings NotEmitted h r = tt
  at_known (Some f) (Some reading) ow fields readings (Given leaf) h r =
      word_known f.shape leaf ow (subst (λ (q : Reading). ReadsAs form f.shape ow q) h.2 r)

  pub fits_known : (cells : List Cell) → Fits form cells → Each (CellKnown form.cases) cells
  fits_known cells fits =
      each_from (CellKnown form.cases) cells
      (λ k cell found. at_known (slice_get form.fields k) (slice_get fits.1.readings k) (slice_get (words_of fits.0) k) form.fields fits.1.readings cell
      (subst (λ (o : Option Cell). MatchOption o (Unit {0}) (λ c. CellAt form.fields fits.1.readings k c)) found (fits.1.each k)) (fits.1.reads.each k))

pub step_known : (code : Code) (cells : List Cell) (slots : List Leaf) → Fits (form_of code) cells → All (λ leaf. IsKnown code.cases leaf) slots
    → All (λ leaf. IsKnown code.cases leaf) (step code cells slots).slots
step_known code cells slots fits h =
    run_known code.cases (body_steps [] code.bodies) (bodies_keep code.cases code.bodies (code_keeps code).bodies_known) (λ k. k) 0 code.main (code_keeps code).main_known (start code cells slots)
    (inputs_known code.cases code.inputs cells slots (fits_known (form_of code) cells fits) h)

-- ---- rows

module _ (names : List (List ℕ)) (cases : List (List Name)) (formed : list_all (valid.is_enumeration names) cases ≡ true) where
  name_there : (name : Name) → valid.is_case names name ≡ true → name.0 < length names
  name_there name h = by_found (slice_get names name.0) refl h
    where
      by_found : (o : Option (List ℕ)) → o ≡ slice_get names name.0 → option_map_or valid.is_constructor o false ≡ true → name.0 < length names
      by_found None e h' = absurd (cc h')
      by_found (Some text) e h' = found_within names name.0 text (sym e)

  in_cases : (own : List Name) (k : ℕ) → valid.is_enumeration names own ≡ true → nat_lt k (length own) ≡ true → MatchOption (slice_get own k) ⊥ (λ name. name.0 < length names)
  in_cases own k e lt =
      let found = slice_get_in own k (ltb-true k (length own) lt) in
      let all = and-right (not (length own == 0)) (list_all (valid.is_case names) own) (and-left (not (length own == 0) && list_all (valid.is_case names) own) (valid.are_different own) e) in
      subst (λ (o : Option Name). MatchOption o ⊥ (λ name. name.0 < length names)) (sym found.1)
      (name_there found.0 (list_all_get (valid.is_case names) own k found.0 all found.1))

  has_name : (t k : ℕ) → has_case cases t k ≡ true → MatchOption (option_and_then (λ own. slice_get own k) (slice_get cases t)) ⊥ (λ name. name.0 < length names)
  has_name t k h = by_found (slice_get cases t) refl h
    where
      by_found : (o : Option (List Name)) → o ≡ slice_get cases t → option_map_or (λ own. nat_lt k (length own)) o false ≡ true
          → MatchOption (option_and_then (λ own. slice_get own k) (slice_get cases t)) ⊥ (λ name. name.0 < length names)
      by_found None e h' = absurd (cc h')
      by_found (Some own) e h' =
          subst (λ (o : Option (List Name)). MatchOption (option_and_then (λ list. slice_get list k) o) ⊥ (λ name. name.0 < length names)) e
          (in_cases own k (list_all_get (valid.is_enumeration names) cases t own formed (sym e)) h')

code_named : (code : Code) → list_all (valid.is_enumeration code.names) code.cases ≡ true
code_named code =
    let d = draft_of code in
    let all = list_all (valid.is_enumeration d.names) d.cases in
    let no_args = list_all (λ (s : Slot). not (is_arg s.kind)) d.slots in
    let bodies = list_all valid.is_formed_body d.bodies in
    and-left all no_args (and-left (all && no_args) bodies (and-left (all && no_args && bodies) (list_all valid.has_arity d.main) code.formed))

leaf_writable : (code : Code) (leaf : Leaf) → IsKnown code.cases leaf → IsWritable (form_of code) (Given leaf)
leaf_writable code Nil h = tt
leaf_writable code (Int n) h = tt
leaf_writable code (Truth b) h = tt
leaf_writable code (Char c) h = tt
leaf_writable code (Text t) h = tt
leaf_writable code (Enum t k) h = has_name code.names code.cases (code_named code) t k h
leaf_writable code Nothing h = tt

cell_writable : (code : Code) (slots : List Leaf) (guard : Option ℕ) (leaf : Leaf) → IsKnown code.cases leaf → IsWritable (form_of code) (guarded_cell slots guard leaf)
cell_writable code slots None leaf h = leaf_writable code leaf h
cell_writable code slots (Some g) leaf h = by_test (is_true (slice_index_or slots g Nil))
  where
    by_test : (b : Bool) → IsWritable (form_of code) (if b then Given leaf else Absent)
    by_test true = leaf_writable code leaf h
    by_test false = tt

pub row_writable : (code : Code) (slots : List Leaf) → All (λ leaf. IsKnown code.cases leaf) slots → All (IsWritable (form_of code)) (row code slots)
row_writable code slots h = each_all (IsWritable (form_of code)) (row code slots) (over code.outputs)
  where
    over : (outs : List OutLine) → Each (IsWritable (form_of code)) (map (out_cell slots) outs)
    over [] = tt
    over (out ∷ rest) = (cell_writable code slots out.guard (slice_index_or slots out.slot Nil) (get_known code.cases slots out.slot h), over rest)

pub row_of_outputs : (code : Code) (slots leaves : List Leaf) (outs : List OutLine) (cells : List Cell) → All (λ leaf. IsKnown code.cases leaf) slots → leaves ≡ slots → outs ≡ code.outputs
    → cells ≡ map (out_cell leaves) outs → All (IsWritable (form_of code)) cells
row_of_outputs code slots leaves outs cells known l o made =
    subst (λ (cs : List Cell). All (IsWritable (form_of code)) cs) (sym (made ∙ (λ i. map (out_cell (l i)) (o i)))) (row_writable code slots known)

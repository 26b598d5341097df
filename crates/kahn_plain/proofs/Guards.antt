-- Guards by the rows of their conditions, one after the other.
use Rattle.std.specs.Prelude.{◌≡◌, refl, ℕ, zero, suc, ◌+◌, ◌-◌, ◌<◌, ◌≤◌, false, length, List, [], ◌∷◌, Option, Some, None}
use Rattle.std.proofs.Common.{ap, arith, drop, get_or, sym, take, ◌∙◌}
use Rattle.ls_places.specs.Places.{Place}
use Rattle.ls_places.specs.Search.{nth, state_of}
use Rattle.ls_places.specs.declared.places.Transition.{Transition}
use Rattle.kahn_model.specs.declared.cell.Cell.{Cell}
use Rattle.kahn_model.specs.declared.cell.Cell.TheVariants.{Chosen}
use Rattle.kahn_model.specs.Cells.{is_yes}
use Rattle.kahn_model.specs.Choices.{yes_or}
use Rattle.kahn_model.specs.Rows.{know}
use Rattle.kahn_model.specs.Table.{cell_in}
use Rattle.kahn_exprs.specs.declared.body.Body.{Body}
use Rattle.kahn_exprs.specs.Body as spec
use Rattle.kahn_plain.specs.Equations as own

-- a `present` without signals
pub none_tested : (b : Body) (all : List ℕ) (p : Place) (i : ℕ) → length all < 1 → spec.active b p i ≡ spec.present_here b all p i
none_tested b [] p i l = refl
none_tested b (x ∷ all) p i l = absurd (omega (arith, l))

abbrev one_row : List own.Standing → Option (List own.Standing) → List own.Standing
one_row d None = d
one_row d (Some r) = r

pub rows_none : (all : List (List own.Standing)) (k : ℕ) → None ≡ nth all k → [] ≡ own.rows_at all k
rows_none [] k e = refl
rows_none (x ∷ all) zero e = absurd (cc)
rows_none (x ∷ all) (suc k) e = rows_none all k e

pub rows_some : (all : List (List own.Standing)) (k : ℕ) (r : List own.Standing) → Some r ≡ nth all k → r ≡ own.rows_at all k
rows_some [] k r e = absurd (cc)
rows_some (x ∷ all) zero r e = ap (one_row r) e
rows_some (x ∷ all) (suc k) r e = rows_some all k r e

take_all : (rows : List own.Standing) → take (length rows) rows ≡ rows
take_all [] = refl
take_all (r ∷ rows) = ap (λ z. r ∷ z) (take_all rows)

-- the first row, and those after it
rows_on : (rows : List own.Standing) (r : own.Standing) → 1 ≤ length rows → r ≡ get_or rows 0 r → rows ≡ r ∷ take (length rows - 1) (drop 1 rows)
rows_on [] r l e = absurd (omega (arith, l))
rows_on (x ∷ rows) r l e =
    let less : length rows ≡ suc (length rows) - 1 = omega arith in
    ap (λ z. z ∷ rows) (sym e) ∙ ap (λ z. r ∷ z) (sym (take_all rows)) ∙ ap (λ z. r ∷ take z rows) less

module _ (states : own.States) (kept : Option Cell) (i : ℕ) where
  short_here : (g : Transition) (gs : List Transition) (rows : List own.Standing) → length rows < 1 → None ≡ own.by_guards states kept (g ∷ gs) rows i
  short_here g gs [] l = refl
  short_here g gs (r ∷ rows) l = absurd (omega (arith, l))

  empty_at : (all : List Transition) (k : ℕ) (rows : List own.Standing) → length rows < 1 → k < length all → None ≡ own.by_guards states kept (drop k all) rows i
  empty_at [] k rows l m = absurd (omega (arith, m))
  empty_at (g ∷ all) zero rows l m = short_here g all rows l
  empty_at (g ∷ all) (suc k) rows l m = empty_at all k rows l (omega (arith, m))

  unknown_at : (all : List Transition) (k : ℕ) (rows : List own.Standing) (r : own.Standing) → k < length all → 1 ≤ length rows → r ≡ get_or rows 0 r → None ≡ cell_in r i
      → None ≡ own.by_guards states kept (drop k all) rows i
  unknown_at [] k rows r m l first e = absurd (omega (arith, m))
  unknown_at (g ∷ all) zero rows r m l first e =
      ap (λ z. know z (λ c. yes_or (Some (Chosen (Some (state_of g.target states 0)) g.restart)) (own.by_guards states kept all (take (length rows - 1) (drop 1 rows)) i) (is_yes c))) e
      ∙ sym (ap (λ z. own.by_guards states kept (g ∷ all) z i) (rows_on rows r l first))
  unknown_at (g ∷ all) (suc k) rows r m l first e = unknown_at all k rows r (omega (arith, m)) l first e

  more_at : (all : List Transition) (k : ℕ) (rows : List own.Standing) (r : own.Standing) (c : Cell) → k < length all → 1 ≤ length rows → r ≡ get_or rows 0 r → Some c ≡ cell_in r i → false ≡ is_yes c
      → own.by_guards states kept (drop (k + 1) all) (take (length rows - 1) (drop 1 rows)) i ≡ own.by_guards states kept (drop k all) rows i
  more_at [] k rows r c m l first e off = absurd (omega (arith, m))
  more_at (g ∷ all) zero rows r c m l first e off =
      let rest : List own.Standing = take (length rows - 1) (drop 1 rows) in
      let one : zero + 1 ≡ suc zero = omega arith in
      ap (λ z. own.by_guards states kept (drop z (g ∷ all)) rest i) one
      ∙ ap (λ z. yes_or (Some (Chosen (Some (state_of g.target states 0)) g.restart)) (own.by_guards states kept all rest i) z) off
      ∙ ap (λ z. know z (λ v. yes_or (Some (Chosen (Some (state_of g.target states 0)) g.restart)) (own.by_guards states kept all rest i) (is_yes v))) e
      ∙ sym (ap (λ z. own.by_guards states kept (g ∷ all) z i) (rows_on rows r l first))
  more_at (g ∷ all) (suc k) rows r c m l first e off =
      let past : suc k + 1 ≡ suc (k + 1) = omega arith in
      ap (λ z. own.by_guards states kept (drop z (g ∷ all)) (take (length rows - 1) (drop 1 rows)) i) past ∙ more_at all k rows r c (omega (arith, m)) l first e off

  -- where the rows end before the guards
  pub guards_empty : (all : List Transition) (k : ℕ) (rows : List own.Standing) (whole : Option Cell) → length rows < 1 → k < length all
      → own.by_guards states kept (drop k all) rows i ≡ whole → None ≡ whole
  guards_empty all k rows whole l m so_far = empty_at all k rows l m ∙ so_far

  pub guards_unknown : (all : List Transition) (k : ℕ) (rows : List own.Standing) (r s : own.Standing) (whole : Option Cell) → k < length all → 1 ≤ length rows → r ≡ get_or rows 0 r → s ≡ r → None ≡ cell_in s i
      → own.by_guards states kept (drop k all) rows i ≡ whole → None ≡ whole
  guards_unknown all k rows r s whole m l first same e so_far = unknown_at all k rows r m l first (e ∙ ap (λ z. cell_in z i) same) ∙ so_far

  pub guards_more : (all : List Transition) (k : ℕ) (rows : List own.Standing) (r s : own.Standing) (c : Cell) (whole : Option Cell) → k < length all → 1 ≤ length rows → r ≡ get_or rows 0 r → s ≡ r
      → Some c ≡ cell_in s i → false ≡ is_yes c → own.by_guards states kept (drop k all) rows i ≡ whole
      → own.by_guards states kept (drop (k + 1) all) (take (length rows - 1) (drop 1 rows)) i ≡ whole
  guards_more all k rows r s c whole m l first same e off so_far = more_at all k rows r c m l first (e ∙ ap (λ z. cell_in z i) same) off ∙ so_far

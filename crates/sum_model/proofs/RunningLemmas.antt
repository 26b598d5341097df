-- What a machine answers before its first step is what its node does.
use Rattle.std.proofs.Common.{◌≡◌, List, [], ◌∷◌, ◌++◌, None, length, map, set, refl, sym, ◌∙◌, ap, subst, arith, append_assoc}
use Rattle.std.specs.Prelude.{ℤ}
use Rattle.std.proofs.lemmas.List.{append-nil, length-map}
use Rattle.ls_value.specs.declared.leaf.Leaf.TheVariants.{Int}
use Rattle.line_io.specs.declared.form.Cell.{Cell}
use Rattle.line_io.specs.declared.form.Cell.TheVariants.{Leaf as Given}
use Rattle.line_io.specs.Rows.{row_text}
use Rattle.sum_model.specs.declared.running_sum.RunningSum.{RunningSum}
use Rattle.sum_model.specs.RunningSum.{Remembers, network}
use Rattle.sum_model.specs.Running.{int_form, int_in, int_row, network_row, node_of, node_on, memory_from, memory_next, result_at}
use Rattle.sum_model.proofs.NextInstant.{network-next, remembers-next}

-- what the delay remembers after several more inputs
remembers-from : (body : RunningSum) (given more : List ℤ) (memory : ℤ) → Remembers body given memory → Remembers body (given ++ more) (memory_from body memory more)
remembers-from body given [] memory is = subst (λ xs. Remembers body xs memory) (sym (append-nil given)) is
remembers-from body given (x ∷ more) memory is =
    subst (λ xs. Remembers body xs (memory_from body (memory_next body memory x) more)) (append_assoc given (x ∷ []) more)
    (remembers-from body (given ++ x ∷ []) more (memory_next body memory x) (remembers-next body given x memory is))

row_same : (body : RunningSum) (before : List ℤ) (x : ℤ)
    → network_row (network body (before ++ x ∷ []) (length before)) ≡ int_row (result_at body (memory_from body body.first before) x)
row_same body before x = ap network_row (network-next body before x (memory_from body body.first before) (remembers-from body [] before body.first refl))

row_after : (body : RunningSum) (before : List (List Cell)) (cells : List Cell)
    → int_row (result_at body (memory_from body body.first (map int_in before)) (int_in cells))
    ≡ network_row (network body (map int_in before ++ int_in cells ∷ []) (length before))
row_after body before cells =
    sym (row_same body (map int_in before) (int_in cells))
    ∙ ap (λ n. network_row (network body (map int_in before ++ int_in cells ∷ []) n)) (length-map before int_in)

pub at_start : (body : RunningSum) → node_on body body.first ≡ node_of body
at_start body = λ i. record {
  form = int_form;
  row_at = λ before cells. row_text int_form (row_after body before cells i);
  alarm_at = λ before cells. None;
}

-- a row of one cell that is set
set_one : (row : List Cell) (cell : Cell) → length row ≡ 1 → set row 0 cell ≡ cell ∷ []
set_one [] cell one = absurd (omega arith)
set_one (c ∷ []) cell one = refl
set_one (c ∷ d ∷ row) cell one = absurd (omega arith)

pub row_made : (row made : List Cell) (v w : ℤ) → length row ≡ 1 → made ≡ set row 0 (Given (Int v)) → v ≡ w → made ≡ int_row w
row_made row made v w one is same = is ∙ ap (λ n. set row 0 (Given (Int n))) same ∙ set_one row (Given (Int w)) one

-- Rows that are written down.
use Rattle.std.specs.Prelude.{◌≡◌, ℕ, zero, suc, ◌+◌, [], ◌∷◌, ◌++◌}
use Rattle.std.proofs.Common.{ap, sym, ◌∙◌, arith}
use Rattle.kahn_model.specs.Rows.{Row}
use Rattle.kahn_model.specs.Table.{written_row}

from_there : (k n : ℕ) → suc k + n ≡ k + suc n
from_there k n = omega arith

-- a row with one more cell
more : {A : Type 0} (n k : ℕ) (row : Row A) → written_row (suc n) k row ≡ written_row n k row ++ row (k + n) ∷ []
more zero k row = ap (λ z. row z ∷ []) (omega arith)
more (suc n) k row = ap (λ z. row k ∷ z) (more n (suc k) row ∙ ap (λ z. written_row n (suc k) row ++ row z ∷ []) (from_there k n))

none_more : (i : ℕ) → 0 + i ≡ i
none_more i = omega arith

one_less : (i : ℕ) → suc i ≡ i + 1
one_less i = omega arith

pub one_more : {A : Type 0} (i : ℕ) (row : Row A) → written_row (i + 1) 0 row ≡ written_row i 0 row ++ row i ∷ []
one_more i row = ap (λ z. written_row z 0 row) (sym (one_less i)) ∙ more i 0 row ∙ ap (λ z. written_row i 0 row ++ row z ∷ []) (none_more i)

-- Rows that stand, with a cell for each line.
use Rattle.std.specs.Prelude.{◌≡◌, refl, ℕ, zero, suc, ◌+◌, ◌<◌, List, [], ◌∷◌, ◌++◌, Option, Result, Ok, Err, IfOk, OnOk}
use Rattle.std.proofs.Common.{ap, ap₂, append_assoc, sym, ◌∙◌, arith}
use Rattle.kahn_model.specs.Rows.{Row}
use Rattle.kahn_model.specs.Table.{cell_in, written_row}

from_there : (k n : ℕ) → suc k + n ≡ k + suc n
from_there k n = omega arith

-- a row with one more cell
more : {A : Type 0} (n k : ℕ) (row : Row A) → written_row (suc n) k row ≡ written_row n k row ++ row (k + n) ∷ []
more zero k row = ap (λ z. row z ∷ []) (omega arith)
more (suc n) k row = ap (λ z. row k ∷ z) (more n (suc k) row ∙ ap (λ z. written_row n (suc k) row ++ row z ∷ []) (from_there k n))

next_is : (i : ℕ) → suc i ≡ i + 1
next_is i = omega arith

from_zero : (i : ℕ) → 0 + i ≡ i
from_zero i = omega arith

pub one_more : {A : Type 0} (i : ℕ) (row : Row A) → written_row (i + 1) 0 row ≡ written_row i 0 row ++ row i ∷ []
one_more i row = ap (λ z. written_row z 0 row) (sym (next_is i)) ∙ more i 0 row ∙ ap (λ z. written_row i 0 row ++ row z ∷ []) (from_zero i)

-- a row that stands says what was written
cell_from : {A : Type 0} (n k i m : ℕ) (row : Row A) → i < n → m ≡ k + i → cell_in (written_row n k row) i ≡ row m
cell_from zero k i m row p e = absurd (omega arith)
cell_from (suc n) k zero m row p e = ap row (omega arith)
cell_from (suc n) k (suc i) m row p e = cell_from n (suc k) i m row (omega arith) (omega arith)

pub cell_is : {A : Type 0} (n i : ℕ) (row : Row A) → i < n → cell_in (written_row n 0 row) i ≡ row i
cell_is n i row p = cell_from n 0 i i row p (omega arith)

same_from : {A : Type 0} (n k m : ℕ) (r s : Row A) → k + n ≡ m → ((i : ℕ) → i < m → r i ≡ s i) → written_row n k r ≡ written_row n k s
same_from zero k m r s e f = refl
same_from (suc n) k m r s e f = ap₂ (λ c cs. c ∷ cs) (f k (omega arith)) (same_from n (suc k) m r s (omega arith) f)

-- rows with the same cells on the lines stand as the same
pub same_on : {A : Type 0} (n : ℕ) (r s : Row A) → ((i : ℕ) → i < n → r i ≡ s i) → written_row n 0 r ≡ written_row n 0 s
same_on n r s f = same_from n 0 n r s (omega arith) f

-- a row that goes, cell by cell, by one that stands
pub by_cells : {A B : Type 0} (n : ℕ) (f : ℕ → Option A → Option B) (row : Row A) (cells : List (Option A)) → cells ≡ written_row n 0 row
    → written_row n 0 (λ i. f i (cell_in cells i)) ≡ written_row n 0 (λ i. f i (row i))
by_cells n f row cells e = same_on n (λ i. f i (cell_in cells i)) (λ i. f i (row i)) (λ i p. ap (f i) (ap (λ z. cell_in z i) e ∙ cell_is n i row p))

pub ok_same : {T E : Type 0} (r : Result T E) (x y : T) → x ≡ y → IfOk r (λ v. v ≡ x) → IfOk r (λ v. v ≡ y)
ok_same (Ok v) x y e h = h ∙ e
ok_same (Err f) x y e h = h

-- a list with one more item, and then more
pub pushed : {T E X : Type 0} (r : Result T E) (new longer done : List X) (x : X) (ys zs : List X) → OnOk r (new ≡ longer ++ ys) → longer ≡ done ++ x ∷ [] → x ∷ ys ≡ zs → OnOk r (new ≡ done ++ zs)
pushed (Ok v) new longer done x ys zs h e f = h ∙ ap (λ z. z ++ ys) e ∙ append_assoc done (x ∷ []) ys ∙ ap (λ z. done ++ z) f
pushed (Err v) new longer done x ys zs h e f = h

-- The table of a running sum, as data and turn by turn.
use Rattle.std.proofs.Common.{◌≡◌, ℕ, zero, suc, ◌<◌, ◌≤◌, List, [], ◌∷◌, ◌⊎◌, inl, inr, Option, Some, None, length, get_or, map, refl, sym, ◌∙◌, ap, arith}
use Rattle.std.specs.Prelude.{ℤ, replicate, option_and_then}
use Rattle.std.specs.Option.{option_map}
use Rattle.std.specs.Int.{int_wrapping_add, w64}
use Rattle.std.proofs.lemmas.Option.{slice_get_past}
use Rattle.std.proofs.lemmas.List.{get_or_past}
use Rattle.sum_model.specs.declared.running_sum.RunningSum.{RunningSum}
use Rattle.sum_model.specs.RunningSum.{Row, given, row_in, turn, fby, row_of}

known_at : (xs : List ℤ) (i : ℕ) → row_in (map Some xs) i ≡ given xs i
known_at [] i = refl
known_at (x ∷ xs) zero = refl
known_at (x ∷ xs) (suc i) = known_at xs i

-- the parameter's row as data
pub row_in-known : (xs : List ℤ) → row_in (map Some xs) ≡ given xs
row_in-known xs = λ i k. known_at xs k i

unknown_at : (n i : ℕ) → row_in (replicate n None) i ≡ None
unknown_at zero i = refl
unknown_at (suc n) zero = refl
unknown_at (suc n) (suc i) = unknown_at n i

-- before the first turn
pub row_in-unknown : (n : ℕ) → row_in (replicate n None) ≡ (λ i. None)
row_in-unknown n = λ i k. unknown_at n k i

-- past the inputs a turn knows nothing
pub turn-past : (body : RunningSum) (xs : List ℤ) (t : Row) (i : ℕ) → length xs ≤ i → turn body xs t i ≡ None
turn-past body xs t i past =
    ap (λ (x : Option ℤ). option_and_then (λ a. option_map (λ b. int_wrapping_add w64 a b) (fby body.first (row_of body.delayed (given xs) t) i)) x) (slice_get_past xs i past)

below_or : (i n : ℕ) → (i < n) ⊎ (n ≤ i)
below_or i n = grind arith

made_at : (body : RunningSum) (xs : List ℤ) (t : Row) (cells : List (Option ℤ)) → length cells ≡ length xs
    → ((k : ℕ) → k < length xs → get_or cells k None ≡ turn body xs t k) → (i : ℕ) → row_in cells i ≡ turn body xs t i
made_at body xs t cells count each i =
    elim (below_or i (length xs)) [ inl below ↦ each i below | inr past ↦ get_or_past cells i None (omega arith) ∙ sym (turn-past body xs t i past) ]

-- a table whose cells within are those of a turn is that turn
pub row_in-made : (body : RunningSum) (xs : List ℤ) (t : Row) (cells : List (Option ℤ)) → length cells ≡ length xs
    → ((k : ℕ) → k < length xs → get_or cells k None ≡ turn body xs t k) → row_in cells ≡ turn body xs t
row_in-made body xs t cells count each = λ i k. made_at body xs t cells count each k i

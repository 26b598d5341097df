-- One more place in an order, from its end on.
use Rattle.std.specs.Prelude.{◌≡◌, ℕ, ◌+◌, ◌-◌, ◌<◌, ◌≤◌, List, length, slice_set}
use Rattle.std.proofs.Common.{arith, get_or, subst, sym, ap, ◌∙◌}
use Rattle.place_tables.proofs.Lists.{get_any}
use Rattle.causality.proofs.Tabled.{From, from_next, from_skip}

index_is : (n k : ℕ) → k < n → n - 1 - k ≡ n - (k + 1)
index_is n k l = omega (arith, l)

before_is : (n k : ℕ) → k < n → n - k ≡ n - (k + 1) + 1
before_is n k l = omega (arith, l)

below_is : (n k : ℕ) → k < n → n - (k + 1) < n
below_is n k l = omega (arith, l)

pub place_next : (at new order : List ℕ) (k i y : ℕ) → k < length order → i ≡ length order - 1 - k → y ≡ get_or order i 0 → y < length at → new ≡ slice_set at y i
    → From at order (length order - k) → From new order (length order - (k + 1))
place_next at new order k i y l e is below w f =
    let j = length order - (k + 1) in
    let same : i ≡ j = e ∙ index_is (length order) k l in
    let here : y ≡ get_or order j 0 = is ∙ ap (λ z. get_or order z 0) same in
    let got : get_or order j y ≡ y = subst (λ z. get_or order j z ≡ z) (sym here) (get_any order j 0 (below_is (length order) k l)) in
    from_next at new order j y (below_is (length order) k l) got below (w ∙ ap (slice_set at y) same) (subst (From at order) (before_is (length order) k l) f)

pub place_skip : (at order : List ℕ) (k i y : ℕ) → k < length order → i ≡ length order - 1 - k → y ≡ get_or order i 0 → length at ≤ y
    → From at order (length order - k) → From at order (length order - (k + 1))
place_skip at order k i y l e is past f =
    let j = length order - (k + 1) in
    let same : i ≡ j = e ∙ index_is (length order) k l in
    let here : y ≡ get_or order j 0 = is ∙ ap (λ z. get_or order z 0) same in
    let got : get_or order j y ≡ y = subst (λ z. get_or order j z ≡ z) (sym here) (get_any order j 0 (below_is (length order) k l)) in
    from_skip at order j y (below_is (length order) k l) got past (subst (From at order) (before_is (length order) k l) f)

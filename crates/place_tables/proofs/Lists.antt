-- Lists, item by item.
use Rattle.std.specs.Prelude.{◌≡◌, refl, ℕ, zero, suc, ◌+◌, ◌-◌, ◌<◌, Bool, false, List, [], ◌∷◌, ◌++◌, length, map, slice_get, Some}
use Rattle.std.proofs.Common.{ap, ◌∙◌, sym, append_assoc, arith, drop, get_or}
use Rattle.std.proofs.lemmas.Grind.{common_steps}
use Rattle.ls_places.specs.Patterns.{joined}
use Rattle.ls_places.specs.Places.{InnerArm}
use Rattle.ls_places.specs.Search.{count_up, nth, starts_with}

pub one_on : {A : Type 0} → (all : List A) (i : ℕ) (p : A) → i < length all → get_or all i p ≡ p → drop i all ≡ p ∷ drop (i + 1) all
one_on all i p below is = grind (arith, common_steps)

pub joined_append : {A : Type 0} → (xs ys : List (List A)) → joined (xs ++ ys) ≡ joined xs ++ joined ys
joined_append [] ys = refl
joined_append (x ∷ xs) ys = ap (λ z. x ++ z) (joined_append xs ys) ∙ sym (append_assoc x (joined xs) (joined ys))

pub slice_get_nth : {A : Type 0} (xs : List A) (k : ℕ) → slice_get xs k ≡ nth xs k
slice_get_nth [] k = refl
slice_get_nth (x ∷ xs) zero = refl
slice_get_nth (x ∷ xs) (suc k) = slice_get_nth xs k

-- arms that end before those that are asked for
starts_here : (rest : List InnerArm) (a : InnerArm) (q : List InnerArm) → length rest < 1 → false ≡ starts_with rest (a ∷ q)
starts_here [] a q l = refl
starts_here (c ∷ rest) a q l = absurd (omega (arith, l))

starts_at : (rest q : List InnerArm) (i : ℕ) → length rest < 1 → i < length q → false ≡ starts_with rest (drop i q)
starts_at rest [] i l m = absurd (omega (arith, m))
starts_at rest (a ∷ q) zero l m = starts_here rest a q l
starts_at rest (a ∷ q) (suc i) l m = starts_at rest q i l (omega (arith, m))

pub starts_empty : (rest q : List InnerArm) (i : ℕ) (whole : Bool) → length rest < 1 → i < length q → starts_with rest (drop i q) ≡ whole → false ≡ whole
starts_empty rest q i whole l m e = starts_at rest q i l m ∙ e

-- the same item, whatever stands beyond the end
pub get_any : {A : Type 0} (all : List A) (i : ℕ) (d : A) → i < length all → get_or all i (get_or all i d) ≡ get_or all i d
get_any [] i d l = absurd (omega (arith, l))
get_any (x ∷ all) zero d l = refl
get_any (x ∷ all) (suc i) d l = get_any all i d (omega (arith, l))

one_less : (n x : ℕ) → x < n → n - x ≡ suc (n - (x + 1))
one_less n x l = omega (arith, l)

one_more : (x : ℕ) → suc x ≡ x + 1
one_more x = omega arith

pub counted : (n x : ℕ) → x < n → count_up (n - x) x ≡ x ∷ count_up (n - (x + 1)) (x + 1)
counted n x l = ap (λ z. count_up z x) (one_less n x l) ∙ ap (λ z. x ∷ count_up (n - (x + 1)) z) (one_more x)

none_more : (k : ℕ) → k + 0 ≡ k
none_more k = omega arith

next_more : (k j : ℕ) → suc k + j ≡ k + suc j
next_more k j = omega arith

pub listed_at : {A : Type 0} (f : ℕ → A) (n k j : ℕ) → j < n → slice_get (map f (count_up n k)) j ≡ Some (f (k + j))
listed_at f zero k j l = absurd (omega (arith, l))
listed_at f (suc n) k zero l = ap (λ z. Some (f z)) (sym (none_more k))
listed_at f (suc n) k (suc j) l = listed_at f n (suc k) j (omega (arith, l)) ∙ ap (λ z. Some (f z)) (next_more k j)

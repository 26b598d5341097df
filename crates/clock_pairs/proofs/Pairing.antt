-- Lists as they grow.
use Rattle.std.specs.Prelude.{◌≡◌, refl, ℕ, zero, suc, ◌<◌, ◌≤◌, List, [], ◌∷◌, ◌++◌, length, map, slice_get, Option, Some, None, option_map, IfSome, MatchOption, OnOk}
use Rattle.std.proofs.Common.{ap, sym, ◌∙◌, get_or, Bor, Result, Ok, Err}
use Rattle.std.proofs.lemmas.Option.{slice_get_past, slice_get_read}
use Rattle.std.specs.List.{HoldsAt}
use Rattle.std.specs.Option.{option_copied}
use Rattle.ls_places.specs.Search.{nth}

pub grouped : {A : Type 0} (xs ys zs : List A) → (xs ++ ys) ++ zs ≡ xs ++ (ys ++ zs)
grouped [] ys zs = refl
grouped (x ∷ xs) ys zs = ap (λ z. x ∷ z) (grouped xs ys zs)

-- after one part another
pub both_parts : {A : Type 0} (out out' out'' xs ys : List A) → out' ≡ out ++ xs → out'' ≡ out' ++ ys → out'' ≡ out ++ (xs ++ ys)
both_parts out out' out'' xs ys a c = c ∙ ap (λ z. z ++ ys) a ∙ grouped out xs ys

pub then_more : {A X E : Type 0} (r : Result X E) (out out' out'' xs ys whole : List A) → out' ≡ out ++ xs → OnOk r (out'' ≡ out' ++ ys) → whole ≡ xs ++ ys → OnOk r (out'' ≡ out ++ whole)
then_more (Ok x) out out' out'' xs ys whole a c is = both_parts out out' out'' xs ys a c ∙ ap (λ z. out ++ z) (sym is)
then_more (Err x) out out' out'' xs ys whole a c is = tt

-- one more turn of a loop
pub more_part : {A : Type 0} (out out' xs rest rest' whole : List A) → out' ≡ out ++ xs → rest ≡ xs ++ rest' → out ++ rest ≡ whole → out' ++ rest' ≡ whole
more_part out out' xs rest rest' whole a is before = ap (λ z. z ++ rest') a ∙ grouped out xs rest' ∙ ap (λ z. out ++ z) (sym is) ∙ before

pub nth_is : {A : Type 0} (xs : List A) (k : ℕ) → nth xs k ≡ slice_get xs k
nth_is [] k = refl
nth_is (x ∷ xs) zero = refl
nth_is (x ∷ xs) (suc k) = nth_is xs k

pub nth_map : {A B : Type 0} (f : A → B) (xs : List A) (k : ℕ) → nth (map f xs) k ≡ option_map f (nth xs k)
nth_map f [] k = refl
nth_map f (x ∷ xs) zero = refl
nth_map f (x ∷ xs) (suc k) = nth_map f xs k

-- what is found at a place of a slice
pub looked_up : {A : Type 0} (r : Option (Bor A)) (xs : List A) (k : ℕ) → MatchOption r (length xs ≤ k) (λ x. (k < length xs) × HoldsAt (λ y. x.now ≡ y) xs k) → IfSome r (λ x. x.now ≡ get_or xs k x.now)
    → option_copied r ≡ nth xs k
looked_up None xs k past here = sym (slice_get_past xs k past) ∙ sym (nth_is xs k)
looked_up (Some x) xs k within here = sym (slice_get_read xs (length xs) k x.now refl within.0 here) ∙ sym (nth_is xs k)

-- three parts behind one another
pub all_parts : {A : Type 0} (l0 l1 l2 l3 xs ys zs : List A) → l1 ≡ l0 ++ xs → l2 ≡ l1 ++ ys → l3 ≡ l2 ++ zs → l3 ≡ l0 ++ (xs ++ (ys ++ zs))
all_parts l0 l1 l2 l3 xs ys zs a b c = both_parts l0 l1 l3 xs (ys ++ zs) a (both_parts l1 l2 l3 ys zs b c)

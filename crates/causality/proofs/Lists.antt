-- Items of lists.
use Rattle.std.specs.Prelude.{◌≡◌, ℕ, zero, suc, ◌+◌, ◌<◌, List, [], ◌∷◌, map}
use Rattle.std.proofs.Common.{subst, arith, inl, inr}
use Rattle.ls_places.specs.Patterns.{joined}
use Rattle.ls_places.specs.Search.{count_up}
use Rattle.digraph.specs.Graph.{In, first, later}
use Rattle.digraph.proofs.Marks.{none_in, in_left, in_right, in_cons}

pub in_map : {A B : Type 0} (f : A → B) (x : A) (xs : List A) → In x xs → In (f x) (map f xs)
in_map f x _ (first xs) = first (map f xs)
in_map f x _ (later y xs h) = later (f y) (map f xs) (in_map f x xs h)

pub of_map : {A B : Type 0} (f : A → B) (z : B) (xs : List A) → In z (map f xs) → (x : A) × In x xs × (z ≡ f x)
of_map f z [] h = absurd (none_in h)
of_map f z (x ∷ xs) h = elim (in_cons z (f x) (map f xs) h) [
  | inl e ↦ (x, first xs, e)
  | inr i ↦ let r = of_map f z xs i in (r.0, later x xs r.1, r.2)
]

pub in_joined : {A B : Type 0} (f : A → List B) (x : A) (y : B) (xs : List A) → In x xs → In y (f x) → In y (joined (map f xs))
in_joined f x y _ (first xs) h = in_left y (f x) (joined (map f xs)) h
in_joined f x y _ (later z xs i) h = in_right y (f z) (joined (map f xs)) (in_joined f x y xs i h)

counted : (k n j : ℕ) → j < n → In (k + j) (count_up n k)
counted k zero j l = absurd (omega (arith, l))
counted k (suc n) zero l = let e : k ≡ k + 0 = omega arith in subst (λ z. In z (k ∷ count_up n (suc k))) e (first (count_up n (suc k)))
counted k (suc n) (suc j) l = let e : suc k + j ≡ k + suc j = omega arith in
    later k (count_up n (suc k)) (subst (λ z. In z (count_up n (suc k))) e (counted (suc k) n j (omega (arith, l))))

pub in_count : (n j : ℕ) → j < n → In j (count_up n 0)
in_count n j l = let e : 0 + j ≡ j = omega arith in subst (λ z. In z (count_up n 0)) e (counted 0 n j l)

-- Keys in lists.
use Rattle.std.specs.Prelude.{◌≡◌, refl, ◌⊎◌, List, [], ◌∷◌, ◌++◌}
use Rattle.std.proofs.Common.{subst, inl, inr}
use Rattle.ls_places.specs.declared.definition.Key.{Key}
use Rattle.digraph.specs.Graph.{In, first, later}

-- ---- lists

pub none_in : {A : Type 0} {x : A} → In x [] → ⊥
none_in h = elim h [ ]

pub in_cons : {A : Type 0} (x z : A) (zs : List A) → In x (z ∷ zs) → (z ≡ x) ⊎ In x zs
in_cons x _ _ (first zs) = inl refl
in_cons x _ _ (later z zs h) = inr h

pub in_left : {A : Type 0} (x : A) (xs ys : List A) → In x xs → In x (xs ++ ys)
in_left x _ ys (first xs) = first (xs ++ ys)
in_left x _ ys (later z xs h) = later z (xs ++ ys) (in_left x xs ys h)

pub in_right : {A : Type 0} (x : A) (xs ys : List A) → In x ys → In x (xs ++ ys)
in_right x [] ys h = h
in_right x (z ∷ xs) ys h = later z (xs ++ ys) (in_right x xs ys h)

split_cons : {A : Type 0} (x z : A) (xs ys : List A) → (z ≡ x) ⊎ In x (xs ++ ys) → (In x (xs ++ ys) → In x xs ⊎ In x ys) → In x (z ∷ xs) ⊎ In x ys
split_cons x z xs ys (inl e) f = inl (subst (λ w. In w (z ∷ xs)) e (first xs))
split_cons x z xs ys (inr h) f = elim (f h) [ inl g ↦ inl (later z xs g) | inr g ↦ inr g ]

pub in_split : {A : Type 0} (x : A) (xs ys : List A) → In x (xs ++ ys) → In x xs ⊎ In x ys
in_split x [] ys h = inr h
in_split x (z ∷ xs) ys h = split_cons x z xs ys (in_cons x z (xs ++ ys) h) (λ g. in_split x xs ys g)

-- among the first or the second
abbrev pub Or : List Key → List Key → List Key → Type 0
Or xs ys zs = (l : Key) → In l xs → In l ys ⊎ In l zs

pub or_none : (ys zs : List Key) → Or [] ys zs
or_none ys zs l h = absurd (none_in h)

pub or_append : (xs ys zs xs' ys' zs' : List Key) → Or xs ys zs → Or xs' ys' zs' → Or (xs ++ xs') (ys ++ ys') (zs ++ zs')
or_append xs ys zs xs' ys' zs' f g l h = elim (in_split l xs xs' h) [
  | inl a ↦ elim (f l a) [ inl c ↦ inl (in_left l ys ys' c) | inr c ↦ inr (in_left l zs zs' c) ]
  | inr a ↦ elim (g l a) [ inl c ↦ inl (in_right l ys ys' c) | inr c ↦ inr (in_right l zs zs' c) ]
]

pub or_right : (xs ys ws zs : List Key) → Or xs ys zs → Or xs (ws ++ ys) zs
or_right xs ys ws zs f l h = elim (f l h) [ inl c ↦ inl (in_right l ws ys c) | inr c ↦ inr c ]

pub or_both : (xs xs' ys zs : List Key) → Or xs ys zs → Or xs' ys zs → Or (xs ++ xs') ys zs
or_both xs xs' ys zs f g l h = elim (in_split l xs xs' h) [ inl a ↦ f l a | inr a ↦ g l a ]

pub or_same : (xs : List Key) → Or xs xs []
or_same xs l h = inl h

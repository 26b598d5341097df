-- Lists, and what stands in them.
use Rattle.std.specs.Prelude.{◌≡◌, refl, ℕ, suc, ◌+◌, ◌==◌, ◌||◌, not, Bool, true, false, List, [], ◌∷◌, ◌++◌, map, length, slice_set, ◌⊎◌}
use Rattle.std.specs.List.{list_any}
use Rattle.std.proofs.Common.{ap, ap₂, sym, ◌∙◌, inl, inr, arith}
use Rattle.std.proofs.lemmas.Bool.{eq-eqb}
use Rattle.tree_notes.specs.Each.{Each}

pub either : {A B C : Type 0} → (A → C) → (B → C) → A ⊎ B → C
either f g (inl a) = f a
either f g (inr b) = g b

pub differ : (a : Bool) → a ≡ false → a ≡ true → ⊥
differ a n p = let d = sym n ∙ p in cc

pub or_cases : (a b : Bool) → a || b ≡ true → (a ≡ true) ⊎ (b ≡ true)
or_cases true b h = inl refl
or_cases false b h = inr h

pub or_parts : (a b : Bool) → a || b ≡ false → (a ≡ false) × (b ≡ false)
or_parts true b h = absurd (cc)
or_parts false b h = (refl, h)

pub or_left : (a b : Bool) → a ≡ true → a || b ≡ true
or_left true b h = refl
or_left false b h = absurd (cc)

pub or_right : (a b : Bool) → b ≡ true → a || b ≡ true
or_right true b h = refl
or_right false b h = h

pub is_true : (a : Bool) → (a ≡ false → ⊥) → a ≡ true
is_true true h = refl
is_true false h = absurd (h refl)

pub not_false : (a : Bool) → not a ≡ false → a ≡ true
not_false true h = refl
not_false false h = absurd (cc)

pub end_nil : {A : Type 0} (xs : List A) → xs ++ [] ≡ xs
end_nil [] = refl
end_nil (x ∷ xs) = ap (λ z. x ∷ z) (end_nil xs)

pub map_on : {A B : Type 0} (f : A → B) (xs ys : List A) → map f (xs ++ ys) ≡ map f xs ++ map f ys
map_on f [] ys = refl
map_on f (x ∷ xs) ys = ap (λ z. f x ∷ z) (map_on f xs ys)

pub each_both : {A : Type 0} (Q : A → Type 0) (xs ys : List A) → Each Q xs → Each Q ys → Each Q (xs ++ ys)
each_both Q [] ys a b = b
each_both Q (x ∷ xs) ys a b = (a.0, each_both Q xs ys a.1 b)

pub each_left : {A : Type 0} (Q : A → Type 0) (xs ys : List A) → Each Q (xs ++ ys) → Each Q xs
each_left Q [] ys a = tt
each_left Q (x ∷ xs) ys a = (a.0, each_left Q xs ys a.1)

pub each_right : {A : Type 0} (Q : A → Type 0) (xs ys : List A) → Each Q (xs ++ ys) → Each Q ys
each_right Q [] ys a = a
each_right Q (x ∷ xs) ys a = each_right Q xs ys a.1

pub each_weaker : {A : Type 0} (Q Q' : A → Type 0) (xs : List A) → ((x : A) → Q x → Q' x) → Each Q xs → Each Q' xs
each_weaker Q Q' [] f h = tt
each_weaker Q Q' (x ∷ xs) f h = (f x h.0, each_weaker Q Q' xs f h.1)

module _ {A : Type 0} (f : A → Bool) where
  pub any_on : (xs ys : List A) → list_any f xs ≡ true → list_any f (xs ++ ys) ≡ true
  any_on [] ys h = absurd (cc)
  any_on (x ∷ xs) ys h = either (λ e. or_left (f x) (list_any f (xs ++ ys)) e) (λ e. or_right (f x) (list_any f (xs ++ ys)) (any_on xs ys e)) (or_cases (f x) (list_any f xs) h)

  pub any_end : (xs : List A) (y : A) (ys : List A) → f y ≡ true → list_any f (xs ++ y ∷ ys) ≡ true
  any_end [] y ys h = or_left (f y) (list_any f ys) h
  any_end (x ∷ xs) y ys h = or_right (f x) (list_any f (xs ++ y ∷ ys)) (any_end xs y ys h)

  pub none_left : (xs ys : List A) → list_any f (xs ++ ys) ≡ false → list_any f xs ≡ false
  none_left [] ys h = refl
  none_left (x ∷ xs) ys h = let p = or_parts (f x) (list_any f (xs ++ ys)) h in ap₂ (λ a b. a || b) p.0 (none_left xs ys p.1)

  pub none_right : (xs ys : List A) → list_any f (xs ++ ys) ≡ false → list_any f ys ≡ false
  none_right [] ys h = h
  none_right (x ∷ xs) ys h = none_right xs ys (or_parts (f x) (list_any f (xs ++ ys)) h).1

pub set_at : {A : Type 0} (xs : List A) (y z : A) (ys : List A) → slice_set (xs ++ y ∷ ys) (length xs) z ≡ xs ++ z ∷ ys
set_at [] y z ys = refl
set_at (x ∷ xs) y z ys = ap (λ l. x ∷ l) (set_at xs y z ys)

one_on : (n : ℕ) → suc n + 1 ≡ suc (n + 1)
one_on n = omega arith

pub set_next : {A : Type 0} (xs : List A) (x y z : A) (ys : List A) → slice_set (xs ++ x ∷ y ∷ ys) (length xs + 1) z ≡ xs ++ x ∷ z ∷ ys
set_next [] x y z ys = let e : 0 + 1 ≡ 1 = omega arith in ap (λ i. slice_set (x ∷ y ∷ ys) i z) e
set_next (w ∷ xs) x y z ys = ap (λ i. slice_set (w ∷ xs ++ x ∷ y ∷ ys) i z) (one_on (length xs)) ∙ ap (λ l. w ∷ l) (set_next xs x y z ys)

pub length_end : {A : Type 0} (xs : List A) (x : A) → length (xs ++ x ∷ []) ≡ length xs + 1
length_end [] x = let e : 1 ≡ 0 + 1 = omega arith in e
length_end (y ∷ xs) x = let h = length_end xs x in omega (arith, h)

pub same_number : (x : ℕ) → x == x ≡ true
same_number x = eq-eqb x x refl

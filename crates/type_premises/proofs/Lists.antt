-- Lists and choices.
use Rattle.std.specs.Prelude.{◌≡◌, refl, ◌&&◌, ◌||◌, Bool, true, false, List, [], ◌∷◌, ◌++◌, map, ◌⊎◌}
use Rattle.std.specs.List.{list_any}
use Rattle.std.proofs.Common.{ap, sym, ◌∙◌, inl, inr, append_assoc}
use Rattle.tree_notes.specs.Each.{Each}

pub either : {A B C : Type 0} → (A → C) → (B → C) → A ⊎ B → C
either f g (inl a) = f a
either f g (inr b) = g b

pub differ : (a : Bool) → a ≡ false → a ≡ true → ⊥
differ a n p = let d = sym n ∙ p in cc

pub not_true : (a : Bool) → (a ≡ true → ⊥) → a ≡ false
not_true true h = absurd (h refl)
not_true false h = refl

pub or_cases : (a b : Bool) → a || b ≡ true → (a ≡ true) ⊎ (b ≡ true)
or_cases true b h = inl refl
or_cases false b h = inr h

pub and_false : (a : Bool) → a && false ≡ false
and_false true = refl
and_false false = refl

abbrev pub rest : {A : Type 0} → List A → List A
rest [] = []
rest (x ∷ xs) = xs

abbrev pub first_or : {A : Type 0} → A → List A → A
first_or a [] = a
first_or a (x ∷ xs) = x

or_left : (a b : Bool) → a ≡ true → a || b ≡ true
or_left true b h = refl
or_left false b h = absurd (cc)

or_right : (a b : Bool) → b ≡ true → a || b ≡ true
or_right true b h = refl
or_right false b h = h

module _ {A : Type 0} (f : A → Bool) where
  pub any_split : (xs ys : List A) → list_any f (xs ++ ys) ≡ true → (list_any f xs ≡ true) ⊎ (list_any f ys ≡ true)
  any_split [] ys h = inr h
  any_split (x ∷ xs) ys h =
      either (λ e. inl (or_left (f x) (list_any f xs) e)) (λ e. either (λ l. inl (or_right (f x) (list_any f xs) l)) (λ r. inr r) (any_split xs ys e))
      (or_cases (f x) (list_any f (xs ++ ys)) h)

pub map_on : {A B : Type 0} (f : A → B) (xs ys : List A) → map f (xs ++ ys) ≡ map f xs ++ map f ys
map_on f [] ys = refl
map_on f (x ∷ xs) ys = ap (λ z. f x ∷ z) (map_on f xs ys)

-- two parts, each before what follows it
pub regroup : {A B : Type 0} (f : A → B) (xs ys : List A) (us vs r r' : List B) → map f (xs ++ ys) ++ r ≡ (us ++ vs) ++ r' → map f xs ++ (map f ys ++ r) ≡ us ++ (vs ++ r')
regroup f xs ys us vs r r' e = sym (append_assoc (map f xs) (map f ys) r) ∙ ap (λ z. z ++ r) (sym (map_on f xs ys)) ∙ e ∙ append_assoc us vs r'

pub each_weaker : {A : Type 0} (Q Q' : A → Type 0) (xs : List A) → ((x : A) → Q x → Q' x) → Each Q xs → Each Q' xs
each_weaker Q Q' [] f h = tt
each_weaker Q Q' (x ∷ xs) f h = (f x h.0, each_weaker Q Q' xs f h.1)

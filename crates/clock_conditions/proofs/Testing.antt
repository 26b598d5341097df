-- Tests of all items of a list.
use Rattle.std.specs.Prelude.{◌≡◌, refl, ℕ, zero, suc, ◌<◌, ◌≤◌, ◌&&◌, Bool, true, false, List, [], ◌∷◌, ◌++◌, drop, length, IfOk}
use Rattle.std.proofs.Common.{ap, ap₂, sym, ◌∙◌, arith, Result, Ok, Err}
use Rattle.std.proofs.lemmas.Bool.{and_parts}
use Rattle.ls_places.specs.Places.{InnerArm}
use Rattle.ls_places.specs.Search.{starts_with}
use Rattle.tree_notes.specs.Each.{Each}
use Rattle.clock_conditions.specs.Every.{every}

pub both : (a c : Bool) → a ≡ true → c ≡ true → (a && c) ≡ true
both a c p q = ap₂ (λ x y. x && y) p q

pub to_each : {A : Type 0} (p q : A → Bool) → ((x : A) → p x ≡ q x) → (xs : List A) → every p xs ≡ true → Each (λ x. q x ≡ true) xs
to_each p q same [] e = tt
to_each p q same (x ∷ xs) e = let h = and_parts (p x) (every p xs) e in (sym (same x) ∙ h.0, to_each p q same xs h.1)

pub from_each : {A : Type 0} (p q : A → Bool) → ((x : A) → p x ≡ q x) → (xs : List A) → Each (λ x. q x ≡ true) xs → every p xs ≡ true
from_each p q same [] h = refl
from_each p q same (x ∷ xs) h = both (p x) (every p xs) (same x ∙ h.0) (from_each p q same xs h.1)

pub and_assoc : (a b c : Bool) → ((a && b) && c) ≡ (a && (b && c))
and_assoc true b c = refl
and_assoc false b c = refl

pub every_more : {A : Type 0} (p : A → Bool) (xs ys : List A) → every p (xs ++ ys) ≡ (every p xs && every p ys)
every_more p [] ys = refl
every_more p (x ∷ xs) ys = ap (λ z. p x && z) (every_more p xs ys) ∙ sym (and_assoc (p x) (every p xs) (every p ys))

-- ---- answers of tests

pub both_ways : (x : Bool) → x ≡ true → x ≡ false → ⊥
both_ways x e f = absurd (let d : true ≡ false = sym e ∙ f in cc)

pub if_true : {E P Q : Type 0} (r : Result Bool E) → (P → Q) → IfOk r (λ b. b ≡ true → P) → IfOk r (λ b. b ≡ true → Q)
if_true (Ok b) f h = λ e. f (h e)
if_true (Err x) f h = tt

-- ---- arms

drop_none : (n : ℕ) → drop {A = InnerArm} n [] ≡ []
drop_none zero = refl
drop_none (suc n) = refl

pub past_end : (p q : List InnerArm) (n : ℕ) → n < length q → length p ≤ n → false ≡ starts_with (drop n p) (drop n q)
past_end p [] n l h = absurd (omega (arith, l))
past_end [] (b ∷ q) zero l h = refl
past_end [] (b ∷ q) (suc n) l h = past_end [] q n (omega (arith, l)) (omega arith) ∙ ap (λ z. starts_with z (drop n q)) (drop_none n)
past_end (a ∷ p) (b ∷ q) zero l h = absurd (omega (arith, h))
past_end (a ∷ p) (b ∷ q) (suc n) l h = past_end p q n (omega (arith, l)) (omega (arith, h))

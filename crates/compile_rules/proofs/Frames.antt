-- What acts leave as it was.
use Rattle.std.specs.Prelude.{◌≡◌, refl, ℕ, ◌==◌, ◌&&◌, Bool as Truth, true, false, List, [], ◌∷◌, ◌++◌, Some, None, unwrap_or, map, if◌then◌else◌}
use Rattle.std.proofs.Common.{ap, ap₂, sym, ◌∙◌, arith}
use Rattle.std.proofs.lemmas.Bool.{false≢true}
use Rattle.std.proofs.lemmas.Bool.Decides.{nat_tests, Decides-int_eq}
use Rattle.std.proofs.lemmas.Slice.Eq.{bytes_eq-Decides}
use Rattle.ls_value.specs.declared.leaf.Leaf.{Leaf}
use Rattle.ls_value.specs.declared.leaf.Leaf.TheVariants.{Nil, Int, Bool, Char, Text, Enum, Unit as Nothing}
use Rattle.step_code.specs.Leaves.{is_true, tested}
use Rattle.ls_ops.specs.Values.{value_of}
use Rattle.compile_rules.specs.declared.places.Place.{Place}
use Rattle.compile_rules.specs.declared.places.Place.TheVariants.{Value as value, Memory as memory, First as first, Guard as guard, Present as present, Emitted as emitted}
use Rattle.compile_rules.specs.declared.places.Act.{Act}
use Rattle.compile_rules.specs.declared.places.Act.TheVariants.{Put as put, Copy as copy, Operate as operate, Test as test}
use Rattle.step_code.specs.Leaves.{leaf_eq}
use Rattle.compile_rules.specs.Scheme.{dest, same_place, Guarded, Slots, place_put, do_act, all_true, act_on, after_acts}

pub eqb_same : (x y : ℕ) → (x == y) ≡ true → x ≡ y
eqb_same x y e = grind (arith, e)

pub eqb_refl : (x : ℕ) → (x == x) ≡ true
eqb_refl x = grind (arith, nat_tests)

and_left : (a b : Truth) → (a && b) ≡ true → a ≡ true
and_left true b e = refl
and_left false b e = e

and_right : (a b : Truth) → (a && b) ≡ true → b ≡ true
and_right true b e = e
and_right false b e = absurd (false≢true e)

pub leaf_same : (a b : Leaf) → leaf_eq a b ≡ true → a ≡ b
leaf_same Nil Nil e = refl
leaf_same (Int a) (Int b) e = ap Int ((Decides-int_eq a b).0 e)
leaf_same (Bool true) (Bool true) e = refl
leaf_same (Bool false) (Bool false) e = refl
leaf_same (Char a) (Char b) e = ap Char (eqb_same a b e)
leaf_same (Text a) (Text b) e = ap Text ((bytes_eq-Decides a b).0 e)
leaf_same (Enum t a) (Enum u b) e = by_name (t == u) refl e
  where
    by_name : (s : Truth) → (t == u) ≡ s → unwrap_or (if s then Some (a == b) else None) false ≡ true → Enum t a ≡ Enum u b
    by_name true same e' = ap₂ Enum (eqb_same t u same) (eqb_same a b e')
    by_name false same e' = absurd (false≢true e')
leaf_same Nothing Nothing e = refl
leaf_same _ _ e = absurd (false≢true e)

leaf_refl : (a : Leaf) → leaf_eq a a ≡ true
leaf_refl Nil = refl
leaf_refl (Int a) = (Decides-int_eq a a).1 refl
leaf_refl (Bool true) = refl
leaf_refl (Bool false) = refl
leaf_refl (Char a) = eqb_refl a
leaf_refl (Text a) = (bytes_eq-Decides a a).1 refl
leaf_refl (Enum t a) = ap (λ s. unwrap_or (if s then Some (a == a) else None) false) (eqb_refl t) ∙ eqb_refl a
leaf_refl Nothing = refl

pub place_same : (p q : Place) → same_place p q ≡ true → p ≡ q
place_same (value v) (value w) e = ap value (eqb_same v w e)
place_same (memory v) (memory w) e = ap memory (eqb_same v w e)
place_same (first v) (first w) e = ap first (eqb_same v w e)
place_same (guard v a) (guard w b) e = ap₂ guard (eqb_same v w (and_left (v == w) (leaf_eq a b) e)) (leaf_same a b (and_right (v == w) (leaf_eq a b) e))
place_same (present v) (present w) e = ap present (eqb_same v w e)
place_same (emitted v) (emitted w) e = ap emitted (eqb_same v w e)
place_same _ _ e = absurd (false≢true e)

pub place_refl : (p : Place) → same_place p p ≡ true
place_refl (value v) = eqb_refl v
place_refl (memory v) = eqb_refl v
place_refl (first v) = eqb_refl v
place_refl (guard v a) = ap₂ (λ x y. x && y) (eqb_refl v) (leaf_refl a)
place_refl (present v) = eqb_refl v
place_refl (emitted v) = eqb_refl v

-- the variable that a place belongs to
abbrev pub owner : Place → ℕ
owner (value v) = v
owner (memory v) = v
owner (first v) = v
owner (guard v a) = v
owner (present v) = v
owner (emitted v) = v

pub put_there : (s : Slots) (d : Place) (leaf : Leaf) → place_put s d leaf d ≡ leaf
put_there s d leaf = ap (λ t. if t then leaf else s d) (place_refl d)

pub other_place : (d p : Place) → ¬ (owner p ≡ owner d) → same_place d p ≡ false
other_place d p other = go (same_place d p) refl
  where
    go : (t : Truth) → same_place d p ≡ t → t ≡ false
    go true e = absurd (other (sym (ap owner (place_same d p e))))
    go false e = refl

pub do_else : (act : Act) (s : Slots) (p : Place) → same_place (dest act) p ≡ false → do_act act s p ≡ s p
do_else (put d leaf) s p e = ap (λ t. if t then leaf else s p) e
do_else (copy d a) s p e = ap (λ t. if t then s a else s p) e
do_else (operate d op args) s p e = ap (λ t. if t then value_of op (map s args) else s p) e
do_else (test d a leaf) s p e = ap (λ t. if t then tested (s a) leaf else s p) e

pub act_else : (act : Guarded) (s : Slots) (p : Place) → same_place (dest act.1) p ≡ false → act_on act s p ≡ s p
act_else act s p e = go (all_true s act.0)
  where
    go : (t : Truth) → (if t then do_act act.1 s else s) p ≡ s p
    go true = do_else act.1 s p e
    go false = refl

-- no act writes the place
abbrev pub Spares : Place → List Guarded → Type 0
Spares p [] = Unit {0}
Spares p (act ∷ rest) = (same_place (dest act.1) p ≡ false) × Spares p rest

pub spares_append : (p : Place) (xs ys : List Guarded) → Spares p xs → Spares p ys → Spares p (xs ++ ys)
spares_append p [] ys h k = k
spares_append p (x ∷ xs) ys h k = (h.0, spares_append p xs ys h.1 k)

pub acts_else : (acts : List Guarded) (s : Slots) (p : Place) → Spares p acts → after_acts acts s p ≡ s p
acts_else [] s p h = refl
acts_else (act ∷ rest) s p h = acts_else rest (act_on act s) p h.1 ∙ act_else act s p h.0

-- each act writes a place of the variable
abbrev pub OwnedBy : ℕ → List Guarded → Type 0
OwnedBy v [] = Unit {0}
OwnedBy v (act ∷ rest) = (owner (dest act.1) ≡ v) × OwnedBy v rest

pub owned_append : (v : ℕ) (xs ys : List Guarded) → OwnedBy v xs → OwnedBy v ys → OwnedBy v (xs ++ ys)
owned_append v [] ys h k = k
owned_append v (x ∷ xs) ys h k = (h.0, owned_append v xs ys h.1 k)

pub owned_spares : (v : ℕ) (acts : List Guarded) (p : Place) → OwnedBy v acts → ¬ (owner p ≡ v) → Spares p acts
owned_spares v [] p h other = tt
owned_spares v (act ∷ rest) p h other = (other_place (dest act.1) p (λ e. other (e ∙ h.0)), owned_spares v rest p h.1 other)

pub after_append : (xs ys : List Guarded) (s : Slots) → after_acts (xs ++ ys) s ≡ after_acts ys (after_acts xs s)
after_append [] ys s = refl
after_append (x ∷ xs) ys s = after_append xs ys (act_on x s)

pub all_true_append : (s : Slots) (gs hs : List Place) → all_true s (gs ++ hs) ≡ (if all_true s gs then all_true s hs else false)
all_true_append s [] hs = refl
all_true_append s (g ∷ gs) hs = go (is_true (s g)) (all_true_append s gs hs)
  where
    go : (t : Truth) → all_true s (gs ++ hs) ≡ (if all_true s gs then all_true s hs else false)
        → (if t then all_true s (gs ++ hs) else false) ≡ (if (if t then all_true s gs else false) then all_true s hs else false)
    go true e = e
    go false e = refl

-- an act whose guards hold, and one whose guards don't
pub acts : (s : Slots) (path : List Place) (act : Act) → all_true s path ≡ true → act_on (path, act) s ≡ do_act act s
acts s path act e = ap (λ t. if t then do_act act s else s) e

pub idles : (s : Slots) (path : List Place) (act : Act) → all_true s path ≡ false → act_on (path, act) s ≡ s
idles s path act e = ap (λ t. if t then do_act act s else s) e

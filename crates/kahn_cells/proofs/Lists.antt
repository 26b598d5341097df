-- Lists, end to end.
use Rattle.std.specs.Prelude.{◌≡◌, refl, ℕ, zero, suc, ◌<◌, ◌≤◌, length, ◌==◌, ◌||◌, Bool, true, false, List, [], ◌∷◌, ◌++◌, slice_get}
use Rattle.std.proofs.Common.{ap, ◌∙◌, sym, append_assoc, arith, drop, get_or}
use Rattle.ls_places.specs.Patterns.{joined}
use Rattle.ls_value.specs.declared.leaf.Leaf.{Leaf}
use Rattle.ls_places.specs.Places.{InnerArm}
use Rattle.ls_places.specs.Search.{guards_of, nth, starts_with}
use Rattle.ls_places.specs.declared.places.Transition.{Transition}
use Rattle.kahn_model.specs.Values.{any_nil, nil_leaf}
use Rattle.ls_places.specs.Patterns.{has_name}

pub or_assoc : (a b c : Bool) → (a || b) || c ≡ a || (b || c)
or_assoc true b c = refl
or_assoc false b c = refl

pub joined_append : {A : Type 0} → (xs ys : List (List A)) → joined (xs ++ ys) ≡ joined xs ++ joined ys
joined_append [] ys = refl
joined_append (x ∷ xs) ys = ap (λ z. x ++ z) (joined_append xs ys) ∙ sym (append_assoc x (joined xs) (joined ys))

pub any_nil_append : (xs ys : List Leaf) → any_nil (xs ++ ys) ≡ any_nil xs || any_nil ys
any_nil_append [] ys = refl
any_nil_append (x ∷ xs) ys = ap (λ z. nil_leaf x || z) (any_nil_append xs ys) ∙ sym (or_assoc (nil_leaf x) (any_nil xs) (any_nil ys))

pub has_name_append : (x : ℕ) (ys zs : List ℕ) → has_name x (ys ++ zs) ≡ has_name x ys || has_name x zs
has_name_append x [] zs = refl
has_name_append x (y ∷ ys) zs = ap (λ z. x == y || z) (has_name_append x ys zs) ∙ sym (or_assoc (x == y) (has_name x ys) (has_name x zs))

pub slice_get_nth : {A : Type 0} (xs : List A) (k : ℕ) → slice_get xs k ≡ nth xs k
slice_get_nth [] k = refl
slice_get_nth (x ∷ xs) zero = refl
slice_get_nth (x ∷ xs) (suc k) = slice_get_nth xs k

pub guards_past : (all : List (ℕ × List Transition)) (k : ℕ) → length all ≤ k → [] ≡ guards_of all k
guards_past [] k l = refl
guards_past (s ∷ all) zero l = absurd (omega (arith, l))
guards_past (s ∷ all) (suc k) l = guards_past all k (omega (arith, l))

pub guards_within : (all : List (ℕ × List Transition)) (k : ℕ) (s : ℕ × List Transition) → k < length all → s ≡ get_or all k s → s.1 ≡ guards_of all k
guards_within [] k s l e = absurd (omega (arith, l))
guards_within (x ∷ all) zero s l e = ap (λ (z : ℕ × List Transition). z.1) e
guards_within (x ∷ all) (suc k) s l e = guards_within all k s (omega (arith, l)) e

-- arms that end before those that are asked for
starts_here : (rest : List InnerArm) (a : InnerArm) (q : List InnerArm) → length rest < 1 → false ≡ starts_with rest (a ∷ q)
starts_here [] a q l = refl
starts_here (c ∷ rest) a q l = absurd (omega (arith, l))

starts_at : (rest q : List InnerArm) (i : ℕ) → length rest < 1 → i < length q → false ≡ starts_with rest (drop i q)
starts_at rest [] i l m = absurd (omega (arith, m))
starts_at rest (a ∷ q) zero l m = starts_here rest a q l
starts_at rest (a ∷ q) (suc i) l m = starts_at rest q i l (omega (arith, m))

pub starts_empty : (rest q : List InnerArm) (i : ℕ) (whole : Bool) → length rest < 1 → i < length q → starts_with rest (drop i q) ≡ whole → false ≡ whole
starts_empty rest q i whole l m e = starts_at rest q i l m ∙ e

-- the same item, whatever stands beyond the end
pub get_any : {A : Type 0} (all : List A) (i : ℕ) (d : A) → i < length all → get_or all i (get_or all i d) ≡ get_or all i d
get_any [] i d l = absurd (omega (arith, l))
get_any (x ∷ all) zero d l = refl
get_any (x ∷ all) (suc i) d l = get_any all i d (omega (arith, l))

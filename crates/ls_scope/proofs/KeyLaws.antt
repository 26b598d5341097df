-- A variable is found by its key where the definition finds it by its name and its list.
use Rattle.std.specs.Prelude.{◌≡◌, ℕ, suc, ◌+◌, ◌==◌, ◌&&◌, ◌||◌, Bool, true, false, List, [], ◌∷◌, ◌++◌, map, length, Option, Some, None, is_some, if◌then◌else◌, nat_eq, refl, position}
use Rattle.std.proofs.Common.{ap, ap₂, sym, ◌∙◌, add-one, append_assoc}
use Rattle.std.specs.List.{position_from, list_any}
use Rattle.std.specs.Cmp.{IsEquivalence}
use Rattle.std.specs.Cmp.Lexicographic.{pointwise}
use Rattle.std.proofs.lemmas.Cmp.{nat_list_eq_equiv}
use Rattle.std.proofs.lemmas.Iterator.Adapters.{position_from-zero}
use Rattle.scope_rules.specs.declared.places.Site.{Site}
use Rattle.scope_rules.specs.Places.{OneArm, Place, same_place, holds}
use Rattle.scope_rules.specs.Faults.{place_from, place_where, of_list, seen_at, with_site}
use Rattle.ls_scope.specs.Keys.{flat, key, key_of, earlier, place_in, along, first_seen, with_key}
use Rattle.ls_scope.proofs.Lists.{place_same_test, place_mapped, earlier_or, any_found, any_mapped, any_same_test}

flat_same : (p q : Place) → pointwise nat_eq (flat p) (flat q) ≡ same_place p q
flat_same [] [] = refl
flat_same [] (b ∷ q) = refl
flat_same (a ∷ p) [] = refl
flat_same (a ∷ p) (b ∷ q) = ap (λ z. a.0 == b.0 && (a.1 == b.1 && z)) (flat_same p q)

-- whether a key is that of a variable
pub key_matches : (x : ℕ) (l : Place) (v : Site) → pointwise nat_eq (key x l) (key_of v) ≡ of_list x l v
key_matches x l v =
    let e : IsEquivalence (pointwise nat_eq) = nat_list_eq_equiv in
    e.symm (key x l) (key_of v) ∙ ap (λ z. v.var == x && z) (flat_same v.list l)

-- the place of a key among those of variables
pub placed : (x : ℕ) (l : Place) (vars : List Site) → place_in (map key_of vars) (key x l) ≡ place_where (of_list x l) vars
placed x l vars = place_mapped (pointwise nat_eq (key x l)) key_of vars 0 ∙ place_same_test (λ v. pointwise nat_eq (key x l) (key_of v)) (of_list x l) vars 0 (key_matches x l)

-- the first place in a set of keys
position_steps : {A : Type 0} (f : A → Bool) (xs : List A) (i : ℕ) → position_from f i xs ≡ place_from f xs i
position_steps f [] i = refl
position_steps f (x ∷ xs) i = (λ t. if f x then Some i else position_from f (add-one i t) xs) ∙ ap (λ o. if f x then Some i else o) (position_steps f xs (suc i))

pub found_key : {X : Type 0} (f : X → List ℕ) (ks : List X) (k : List ℕ) → position (λ y. pointwise nat_eq k (f y)) ks ≡ place_in (map f ks) k
found_key f ks k =
    position_from-zero (λ y. pointwise nat_eq k (f y)) ks ∙ position_steps (λ y. pointwise nat_eq k (f y)) ks 0 ∙ sym (place_mapped (pointwise nat_eq k) f ks 0)

-- a list holds a place that goes one arm further

holds_nil : (l : Place) → holds l [] ≡ same_place l []
holds_nil [] = refl
holds_nil (b ∷ l) = refl

either : (e f h s : Bool) → e && (f && (h || s)) ≡ (e && (f && h)) || (e && (f && s))
either true true h s = refl
either true false h s = refl
either false f h s = refl

pub holds_more : (l q : Place) (a : OneArm) → holds l (q ++ a ∷ []) ≡ holds l q || same_place l (q ++ a ∷ [])
holds_more [] q a = refl
holds_more (b ∷ l) [] a = ap (λ z. b.0 == a.0 && (b.1 == a.1 && z)) (holds_nil l)
holds_more (b ∷ l) (c ∷ q) a =
    ap (λ z. b.0 == c.0 && (b.1 == c.1 && z)) (holds_more l q a) ∙ either (b.0 == c.0) (b.1 == c.1) (holds l q) (same_place l (q ++ a ∷ []))

part : (e h s : Bool) → (e && h) || (e && s) ≡ e && (h || s)
part true h s = refl
part false h s = refl

seen_more : (x : ℕ) (q : Place) (a : OneArm) (v : Site) → seen_at x q v || of_list x (q ++ a ∷ []) v ≡ seen_at x (q ++ a ∷ []) v
seen_more x q a v = part (v.var == x) (holds v.list q) (same_place v.list (q ++ a ∷ [])) ∙ ap (λ z. v.var == x && z) (sym (holds_more v.list q a))

flat_more : (q : Place) (a : OneArm) → flat q ++ flat (a ∷ []) ≡ flat (q ++ a ∷ [])
flat_more [] a = refl
flat_more (b ∷ q) a = ap (λ z. b.0 ∷ b.1 ∷ z) (flat_more q a)

key_more : (x : ℕ) (q : Place) (a : OneArm) → key x q ++ flat (a ∷ []) ≡ key x (q ++ a ∷ [])
key_more x q a = ap (λ z. x ∷ z) (flat_more q a)

nil_right : (q : Place) → q ≡ q ++ []
nil_right [] = refl
nil_right (a ∷ q) = ap (λ z. a ∷ z) (nil_right q)

one_further : (q : Place) (a : OneArm) (p : Place) → (q ++ a ∷ []) ++ p ≡ q ++ a ∷ p
one_further [] a p = refl
one_further (b ∷ q) a p = ap (λ z. b ∷ z) (one_further q a p)

-- one key further
further : (x : ℕ) (vars : List Site) (q : Place) (a : OneArm)
    → earlier (place_where (seen_at x q) vars) (place_in (map key_of vars) (key x q ++ flat (a ∷ []))) ≡ place_where (seen_at x (q ++ a ∷ [])) vars
further x vars q a =
    ap (λ k. earlier (place_where (seen_at x q) vars) (place_in (map key_of vars) k)) (key_more x q a)
    ∙ ap (λ o. earlier (place_where (seen_at x q) vars) o) (placed x (q ++ a ∷ []) vars)
    ∙ earlier_or (seen_at x q) (of_list x (q ++ a ∷ [])) vars 0
    ∙ place_same_test (λ v. seen_at x q v || of_list x (q ++ a ∷ []) v) (seen_at x (q ++ a ∷ [])) vars 0 (seen_more x q a)

along_seen : (x : ℕ) (vars : List Site) (q p : Place) → along (map key_of vars) (key x q) p (place_where (seen_at x q) vars) ≡ place_where (seen_at x (q ++ p)) vars
along_seen x vars q [] = ap (λ z. place_where (seen_at x z) vars) (nil_right q)
along_seen x vars q (a ∷ p) =
    ap₂ (λ k o. along (map key_of vars) k p o) (key_more x q a) (further x vars q a)
    ∙ along_seen x vars (q ++ a ∷ []) p
    ∙ ap (λ z. place_where (seen_at x z) vars) (one_further q a p)

top_seen : (x : ℕ) (v : Site) → of_list x [] v ≡ seen_at x [] v
top_seen x v = ap (λ z. v.var == x && z) (sym (holds_nil v.list))

-- the variable of a name that is seen at a place
pub seen : (x : ℕ) (p : Place) (vars : List Site) → first_seen (map key_of vars) x p ≡ place_where (seen_at x p) vars
seen x p vars =
    ap (λ o. along (map key_of vars) (x ∷ []) p o) (placed x [] vars ∙ place_same_test (of_list x []) (seen_at x []) vars 0 (top_seen x))
    ∙ along_seen x vars [] p

-- one more variable, or none

pub kept_site : (vars : List Site) (s : Site) (k : List ℕ) → k ≡ key_of s → is_some (place_in (map key_of vars) k) ≡ true → vars ≡ with_site vars s
kept_site vars s k is h = sym (ap (λ b. if b then vars else vars ++ s ∷ []) (ap is_some (sym (placed s.var s.list vars)) ∙ ap (λ z. is_some (place_in (map key_of vars) z)) (sym is) ∙ h))

pub new_site : (vars : List Site) (s : Site) (k : List ℕ) → k ≡ key_of s → is_some (place_in (map key_of vars) k) ≡ false → vars ++ s ∷ [] ≡ with_site vars s
new_site vars s k is h = sym (ap (λ b. if b then vars else vars ++ s ∷ []) (ap is_some (sym (placed s.var s.list vars)) ∙ ap (λ z. is_some (place_in (map key_of vars) z)) (sym is) ∙ h))

keys_end : (vars : List Site) (s : Site) → map key_of vars ++ key_of s ∷ [] ≡ map key_of (vars ++ s ∷ [])
keys_end [] s = refl
keys_end (v ∷ vars) s = ap (λ z. key_of v ∷ z) (keys_end vars s)

pub new_key : (vars more : List Site) (s : Site) (keys : List (List ℕ)) (k : List ℕ) → keys ≡ map key_of vars → k ≡ key_of s → is_some (place_in keys k) ≡ false → more ≡ vars ++ s ∷ []
    → with_key keys k ≡ map key_of more
new_key vars more s keys k same is h added =
    ap (λ b. if b then keys else keys ++ k ∷ []) (any_found (pointwise nat_eq k) keys 0 ∙ h)
    ∙ ap₂ (λ a b. a ++ b ∷ []) same is ∙ keys_end vars s ∙ ap (map key_of) (sym added)

-- a key that is added to a set
map_end : {X : Type 0} (f : X → List ℕ) (xs : List X) (k : X) → map f (xs ++ k ∷ []) ≡ map f xs ++ f k ∷ []
map_end f [] k = refl
map_end f (x ∷ xs) k = ap (λ z. f x ∷ z) (map_end f xs k)

pub key_put : {X : Type 0} (f : X → List ℕ) (ks : List X) (k : X)
    → map f (if list_any (λ y. pointwise nat_eq (f k) (f y)) ks then ks else ks ++ k ∷ []) ≡ with_key (map f ks) (f k)
key_put f ks k = by_test (list_any (λ y. pointwise nat_eq (f k) (f y)) ks) (any_mapped (pointwise nat_eq (f k)) f ks)
  where
    by_test : (b : Bool) → list_any (pointwise nat_eq (f k)) (map f ks) ≡ b → map f (if b then ks else ks ++ k ∷ []) ≡ with_key (map f ks) (f k)
    by_test true e = sym (ap (λ b. if b then map f ks else map f ks ++ f k ∷ []) e)
    by_test false e = map_end f ks k ∙ sym (ap (λ b. if b then map f ks else map f ks ++ f k ∷ []) e)

-- A variable is found by its key where the definition finds it by its name and its list.
use Rattle.std.specs.Prelude.{◌≡◌, ℕ, suc, ◌+◌, ◌==◌, ◌&&◌, ◌||◌, Bool, true, false, List, [], ◌∷◌, ◌++◌, map, length, Option, Some, None, Result, Ok, Err, IsOk, IfOk, if◌then◌else◌, nat_eq, refl}
use Rattle.std.proofs.Common.{ap, sym, ◌∙◌, add-one}
use Rattle.std.specs.List.{position, position_from, list_any}
use Rattle.std.specs.Cmp.{IsEquivalence}
use Rattle.std.specs.Cmp.Lexicographic.{pointwise}
use Rattle.std.proofs.lemmas.Cmp.{nat_list_eq_equiv}
use Rattle.std.proofs.lemmas.Iterator.Adapters.{position_from-zero}
use Rattle.std.proofs.lemmas.List.{map-append, length-map}
use Rattle.ls_places.specs.declared.places.Variable.{Variable}
use Rattle.ls_places.specs.Keys.{flat, key, key_of}
use Rattle.ls_places.specs.Places.{InnerArm, same_arms, place_of}

flat_same : (p q : List InnerArm) → pointwise nat_eq (flat p) (flat q) ≡ same_arms p q
flat_same [] [] = refl
flat_same [] (b ∷ q) = refl
flat_same (a ∷ p) [] = refl
flat_same (a ∷ p) (b ∷ q) = ap (λ z. a.0 == b.0 && (a.1 == b.1 && z)) (flat_same p q)

-- whether a key is that of a variable
key_matches : (x : ℕ) (l : List InnerArm) (v : Variable) → pointwise nat_eq (key x l) (key_of v) ≡ v.name == x && same_arms v.list l
key_matches x l v =
    let e : IsEquivalence (pointwise nat_eq) = nat_list_eq_equiv in
    e.symm (key x l) (key_of v) ∙ ap (λ z. v.name == x && z) (flat_same v.list l)

pub placed : (x : ℕ) (l : List InnerArm) (vars : List Variable) (i : ℕ) → position_from (pointwise nat_eq (key x l)) i (map key_of vars) ≡ place_of x l vars i
placed x l [] i = refl
placed x l (v ∷ vars) i =
    (λ t. if key_matches x l v t then Some i else position_from (pointwise nat_eq (key x l)) (add-one i t) (map key_of vars))
    ∙ ap (λ z. if v.name == x && same_arms v.list l then Some i else z) (placed x l vars (suc i))

mapped : {X Y : Type 0} (t : Y → Bool) (f : X → Y) (xs : List X) (i : ℕ) → position_from (λ x. t (f x)) i xs ≡ position_from t i (map f xs)
mapped t f [] i = refl
mapped t f (x ∷ xs) i = ap (λ z. if t (f x) then Some i else z) (mapped t f xs (i + 1))

-- the first key that is sought has the number of the variable
pub found_at : {X : Type 0} (f : X → List ℕ) (ks : List X) (vars : List Variable) (x : ℕ) (l : List InnerArm) (k : List ℕ)
    → map f ks ≡ map key_of vars → k ≡ key x l → position (λ y. pointwise nat_eq k (f y)) ks ≡ place_of x l vars 0
found_at f ks vars x l k same is =
    position_from-zero (λ y. pointwise nat_eq k (f y)) ks ∙ mapped (pointwise nat_eq k) f ks 0
    ∙ (λ t. position_from (pointwise nat_eq (is t)) 0 (same t)) ∙ placed x l vars 0

any_mapped : {X Y : Type 0} (t : Y → Bool) (f : X → Y) (xs : List X) → list_any (λ x. t (f x)) xs ≡ list_any t (map f xs)
any_mapped t f [] = refl
any_mapped t f (x ∷ xs) = ap (λ z. t (f x) || z) (any_mapped t f xs)

absent_step : (b : Bool) (i : ℕ) (rest : Option ℕ) (more : Bool) → (if b then Some i else rest) ≡ None → (rest ≡ None → more ≡ false) → b || more ≡ false
absent_step true i rest more e h = absurd (cc)
absent_step false i rest more e h = h e

absent_key : (x : ℕ) (l : List InnerArm) (vars : List Variable) (i : ℕ) → place_of x l vars i ≡ None → list_any (pointwise nat_eq (key x l)) (map key_of vars) ≡ false
absent_key x l [] i e = refl
absent_key x l (v ∷ vars) i e =
    ap (λ z. z || list_any (pointwise nat_eq (key x l)) (map key_of vars)) (key_matches x l v)
    ∙ absent_step (v.name == x && same_arms v.list l) i (place_of x l vars (suc i)) (list_any (pointwise nat_eq (key x l)) (map key_of vars)) e (absent_key x l vars (suc i))

-- a new variable brings its key
pub key_added : {X : Type 0} (f : X → List ℕ) (ks kept new : List X) (k : X) (vars more : List Variable) (v : Variable)
    → map f ks ≡ map key_of vars → f k ≡ key v.name v.list → place_of v.name v.list vars 0 ≡ None → more ≡ vars ++ v ∷ []
    → kept ≡ ks → new ≡ (if list_any (λ y. pointwise nat_eq (f k) (f y)) kept then kept else kept ++ k ∷ []) → map f new ≡ map key_of more
key_added f ks kept new k vars more v same is none added stays put =
    let absent : list_any (λ y. pointwise nat_eq (f k) (f y)) ks ≡ false = any_mapped (pointwise nat_eq (f k)) f ks ∙ (λ t. list_any (pointwise nat_eq (is t)) (same t)) ∙ absent_key v.name v.list vars 0 none in
    ap (map f) (put ∙ ap (λ z. if list_any (λ y. pointwise nat_eq (f k) (f y)) z then z else z ++ k ∷ []) stays ∙ ap (λ b. if b then ks else ks ++ k ∷ []) absent) ∙ map-append f ks (k ∷ []) ∙ (λ t. same t ++ is t ∷ []) ∙ sym (map-append key_of vars (v ∷ [])) ∙ ap (map key_of) (sym added)

pub as_many : {X : Type 0} (f : X → List ℕ) (ks : List X) (vars : List Variable) → map f ks ≡ map key_of vars → length ks ≡ length vars
as_many f ks vars same = sym (length-map ks f) ∙ ap length same ∙ length-map vars key_of

pub if_ok : {A E : Type 0} (r : Result A E) (Q : Type 0) → IsOk r → IfOk r (λ x. Q) → Q
if_ok (Ok a) Q o h = h
if_ok (Err e) Q o h = absurd (cc)

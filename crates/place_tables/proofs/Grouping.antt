-- Items by their keys.
use Rattle.std.specs.Prelude.{◌≡◌, refl, ℕ, zero, suc, ◌+◌, ◌-◌, ◌<◌, ◌==◌, ◌&&◌, ◌||◌, Bool, true, false, List, [], ◌∷◌, ◌++◌, length, map, slice_get, Option, Some, None, if◌then◌else◌}
use Rattle.std.proofs.Common.{ap, sym, ◌∙◌, subst, arith, drop, take, get_or}
use Rattle.std.proofs.lemmas.Grind.{common_steps}
use Rattle.std.specs.Option.{option_map_or}
use Rattle.ls_places.specs.Patterns.{has_name}
use Rattle.ls_places.specs.Places.{option_list}
use Rattle.ls_places.specs.Search.{nth, sites_of, start_of, starts_with}
use Rattle.ls_places.specs.declared.places.Site.{Site}
use Rattle.ls_places.specs.declared.places.Start.{Start}
use Rattle.ls_places.specs.declared.places.Variable.{Variable}
use Rattle.place_tables.specs.Groups.{ends_with, keyed, numbers, picked, with_item}
use Rattle.place_tables.specs.Tables.{site_keys, start_keys}
use Rattle.place_tables.proofs.Lists.{one_on}

swapped : (x y : ℕ) → (x == y) ≡ (y == x)
swapped x y = grind arith

-- ---- one more item

last_at : (ks : List ℕ) (k : ℕ) → slice_get (ks ++ k ∷ []) (length ks) ≡ Some k
last_at [] k = refl
last_at (j ∷ ks) k = last_at ks k

length_more : (ks : List ℕ) (k : ℕ) → length (ks ++ k ∷ []) ≡ suc (length ks)
length_more [] k = refl
length_more (j ∷ ks) k = ap suc (length_more ks k)

one_off : (n : ℕ) → suc n - 1 ≡ n
one_off n = omega arith

last_is : (ks : List ℕ) (k : ℕ) → slice_get (ks ++ k ∷ []) (length (ks ++ k ∷ []) - 1) ≡ Some k
last_is ks k = ap (λ n. slice_get (ks ++ k ∷ []) (n - 1)) (length_more ks k) ∙ ap (slice_get (ks ++ k ∷ [])) (one_off (length ks)) ∙ last_at ks k

same_true : (k : ℕ) → (k == k) ≡ true
same_true k = grind arith

ends_more : (k : ℕ) (ks : List ℕ) → ends_with k (ks ++ k ∷ []) ≡ true
ends_more k ks = ap (λ z. option_map_or (λ j. j == k) z false) (last_is ks k) ∙ same_true k

ends_with_item : (k : ℕ) (ks : List ℕ) (t : Bool) → ends_with k ks ≡ t → ends_with k (if t then ks else ks ++ k ∷ []) ≡ true
ends_with_item k ks true e = e
ends_with_item k ks false e = ends_more k ks

pub with_twice : (k : ℕ) (ks : List ℕ) → with_item k (with_item k ks) ≡ with_item k ks
with_twice k ks = ap (λ z. if z then with_item k ks else with_item k ks ++ k ∷ []) (ends_with_item k ks (ends_with k ks) refl)

if_same : {A : Type 0} (t : Bool) (a : A) → (if t then a else a) ≡ a
if_same true a = refl
if_same false a = refl

key_step : (k y : ℕ) (rest ks : List ℕ) (t : Bool) → keyed k y rest (if t then with_item k ks else ks) ≡ (if t || has_name y rest then with_item k ks else ks)
key_step k y rest ks true = ap (λ z. if has_name y rest then z else with_item k ks) (with_twice k ks) ∙ if_same (has_name y rest) (with_item k ks)
key_step k y rest ks false = refl

pub keys_next : (keys : List ℕ) (i x k : ℕ) (old new whole : ℕ → List ℕ) → i < length keys → get_or keys i x ≡ x
    → ((y : ℕ) → new y ≡ (if x == y then with_item k (old y) else old y)) → ((y : ℕ) → keyed k y (drop i keys) (old y) ≡ whole y)
    → (y : ℕ) → keyed k y (drop (i + 1) keys) (new y) ≡ whole y
keys_next keys i x k old new whole below is more so_far y =
    ap (keyed k y (drop (i + 1) keys)) (more y ∙ ap (λ z. if z then with_item k (old y) else old y) (swapped x y))
    ∙ key_step k y (drop (i + 1) keys) (old y) (y == x)
    ∙ sym (ap (λ z. keyed k y z (old y)) (one_on keys i x below is)) ∙ so_far y

-- ---- the numbers of items

one_number : (t : Bool) → (if t then 0 ∷ map suc [] else map suc []) ≡ (if t then 0 ∷ [] else [])
one_number true = refl
one_number false = refl

mapped_append : (xs ys : List ℕ) → map suc (xs ++ ys) ≡ map suc xs ++ map suc ys
mapped_append [] ys = refl
mapped_append (x ∷ xs) ys = ap (λ z. suc x ∷ z) (mapped_append xs ys)

mapped_if : (t : Bool) (n : ℕ) → map suc (if t then n ∷ [] else []) ≡ (if t then suc n ∷ [] else [])
mapped_if true n = refl
mapped_if false n = refl

if_append : (t : Bool) (a b c : List ℕ) → (if t then 0 ∷ (a ++ c) else a ++ c) ≡ (if t then 0 ∷ a else a) ++ c
if_append true a b c = refl
if_append false a b c = refl

numbers_append : (x : ℕ) (all : List (List ℕ)) (keys : List ℕ) → numbers x (all ++ keys ∷ []) ≡ numbers x all ++ (if has_name x keys then length all ∷ [] else [])
numbers_append x [] keys = one_number (has_name x keys)
numbers_append x (ks ∷ all) keys =
    ap (λ z. if has_name x ks then 0 ∷ z else z)
    (ap (map suc) (numbers_append x all keys) ∙ mapped_append (numbers x all) (if has_name x keys then length all ∷ [] else [])
    ∙ ap (λ z. map suc (numbers x all) ++ z) (mapped_if (has_name x keys) (length all)))
    ∙ if_append (has_name x ks) (map suc (numbers x all)) [] (if has_name x keys then suc (length all) ∷ [] else [])

abbrev Below : ℕ → List ℕ → Type 0
Below n [] = Unit {0}
Below n (k ∷ ks) = (k < n) × Below n ks

below_suc : (n : ℕ) (ks : List ℕ) → Below n ks → Below (suc n) (map suc ks)
below_suc n [] p = tt
below_suc n (k ∷ ks) p = (omega (arith, p.0), below_suc n ks p.1)

numbered : (n : ℕ) (t : Bool) (ks : List ℕ) → Below (suc n) ks → Below (suc n) (if t then 0 ∷ ks else ks)
numbered n true ks p = (omega arith, p)
numbered n false ks p = p

numbers_below : (x : ℕ) (all : List (List ℕ)) → Below (length all) (numbers x all)
numbers_below x [] = tt
numbers_below x (keys ∷ all) = numbered (length all) (has_name x keys) (map suc (numbers x all)) (below_suc (length all) (numbers x all) (numbers_below x all))

one_below : (n : ℕ) (ks : List ℕ) (j v : ℕ) → Below n ks → slice_get ks j ≡ Some v → v < n
one_below n [] j v p e = absurd (cc)
one_below n (k ∷ ks) zero v p e = subst (λ z. z < n) (the_same k v e) p.0
  where
    value : ℕ → Option ℕ → ℕ
    value d None = d
    value d (Some a) = a

    the_same : (k v : ℕ) → Some k ≡ Some v → k ≡ v
    the_same k v e = ap (value k) e
one_below n (k ∷ ks) (suc j) v p e = one_below n ks j v p.1 e

not_same : (n v : ℕ) → v < n → (v == n) ≡ false
not_same n v l = grind (arith, l)

ends_not : (n : ℕ) (ks : List ℕ) (o : Option ℕ) → Below n ks → slice_get ks (length ks - 1) ≡ o → option_map_or (λ j. j == n) o false ≡ false
ends_not n ks None p e = refl
ends_not n ks (Some v) p e = not_same n v (one_below n ks (length ks - 1) v p e)

not_last : (x : ℕ) (all : List (List ℕ)) → ends_with (length all) (numbers x all) ≡ false
not_last x all = ends_not (length all) (numbers x all) (slice_get (numbers x all) (length (numbers x all) - 1)) (numbers_below x all) refl

keyed_append : (t : Bool) (n : ℕ) (ks : List ℕ) → ends_with n ks ≡ false → (if t then with_item n ks else ks) ≡ ks ++ (if t then n ∷ [] else [])
keyed_append true n ks e = ap (λ z. if z then ks else ks ++ n ∷ []) e
keyed_append false n ks e = no_more ks
  where
    no_more : (ks : List ℕ) → ks ≡ ks ++ []
    no_more [] = refl
    no_more (k ∷ ks) = ap (λ z. k ∷ z) (no_more ks)

taken : {A : Type 0} (all : List A) (i : ℕ) (x : A) → i < length all → get_or all i x ≡ x → take (i + 1) all ≡ take i all ++ x ∷ []
taken all i x below is = grind (arith, common_steps)

length_taken : {A : Type 0} (all : List A) (i : ℕ) → i < length all → length (take i all) ≡ i
length_taken all i below = grind (arith, common_steps)

pub groups_next : (all : List (List ℕ)) (i : ℕ) (keys : List ℕ) (old new : ℕ → List ℕ) → i < length all → get_or all i keys ≡ keys
    → ((x : ℕ) → new x ≡ keyed i x keys (old x)) → ((x : ℕ) → old x ≡ numbers x (take i all)) → (x : ℕ) → new x ≡ numbers x (take (i + 1) all)
groups_next all i keys old new below is more so_far x =
    let n = length_taken all i below in
    more x ∙ ap (keyed i x keys) (so_far x) ∙ keyed_append (has_name x keys) i (numbers x (take i all)) (subst (λ z. ends_with z (numbers x (take i all)) ≡ false) n (not_last x (take i all)))
    ∙ ap (λ z. numbers x (take i all) ++ (if has_name x keys then z ∷ [] else [])) (sym n)
    ∙ sym (numbers_append x (take i all) keys) ∙ sym (ap (numbers x) (taken all i keys below is))

-- ---- the items of some numbers

picked_suc : {A : Type 0} (x : A) (all : List A) (ks : List ℕ) → picked (x ∷ all) (map suc ks) ≡ picked all ks
picked_suc x all [] = refl
picked_suc x all (k ∷ ks) = ap (λ z. option_list (nth all k) ++ z) (picked_suc x all ks)

picked_if : {A : Type 0} (t : Bool) (x : A) (all : List A) (ks : List ℕ) → picked (x ∷ all) (if t then 0 ∷ map suc ks else map suc ks) ≡ (if t then x ∷ picked all ks else picked all ks)
picked_if true x all ks = ap (λ z. x ∷ z) (picked_suc x all ks)
picked_if false x all ks = picked_suc x all ks

pub sites_picked : (x : ℕ) (all : List Site) → picked all (numbers x (site_keys all)) ≡ sites_of x all
sites_picked x [] = refl
sites_picked x (s ∷ all) = picked_if (has_name x s.vars) s all (numbers x (site_keys all)) ∙ ap (λ z. if has_name x s.vars then s ∷ z else z) (sites_picked x all)

or_false : (t : Bool) → (t || false) ≡ t
or_false true = refl
or_false false = refl

start_if : (w : Variable) (s : Start) (all : List Start) (t : Bool) → (s.name == w.name) ≡ t → start_of w (if t then s ∷ all else all) ≡ start_of w (s ∷ all)
start_if w s all true e = refl
start_if w s all false e = sym (ap (λ z. if z && (starts_with s.list w.list && starts_with w.list s.list) then Some s else start_of w all) e)

start_step : (w : Variable) (s : Start) (xs ys : List Start) → start_of w xs ≡ start_of w ys → start_of w (s ∷ xs) ≡ start_of w (s ∷ ys)
start_step w s xs ys e = ap (λ z. if s.name == w.name && (starts_with s.list w.list && starts_with w.list s.list) then Some s else z) e

pub starts_picked : (w : Variable) (all : List Start) → start_of w (picked all (numbers w.name (start_keys all))) ≡ start_of w all
starts_picked w [] = refl
starts_picked w (s ∷ all) =
    ap (start_of w) (picked_if (w.name == s.name || false) s all (numbers w.name (start_keys all)))
    ∙ start_if w s (picked all (numbers w.name (start_keys all))) (w.name == s.name || false) (swapped s.name w.name ∙ sym (or_false (w.name == s.name)))
    ∙ start_step w s (picked all (numbers w.name (start_keys all))) all (starts_picked w all)

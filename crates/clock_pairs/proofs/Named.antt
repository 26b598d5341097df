-- What the maps of a definition answer is what the rules look for.
use Rattle.std.specs.Prelude.{◌≡◌, refl, ℕ, zero, suc, ◌+◌, ◌<◌, ◌==◌, ◌||◌, Bool, true, false, List, [], ◌∷◌, ◌++◌, length, map, Option, Some, option_map, if◌then◌else◌}
use Rattle.std.proofs.Common.{ap, ap₂, sym, ◌∙◌, drop, get_or}
use Rattle.std.proofs.lemmas.Bool.{eqb-true, eq-eqb}
use Rattle.ls_ast.specs.declared.tree.Pat.{Pat}
use Rattle.ls_places.specs.Patterns.{joined, has_name, names_of}
use Rattle.ls_places.specs.Search.{nth}
use Rattle.ls_places.specs.declared.places.Named.{Named}
use Rattle.ls_places.specs.declared.places.Named.TheVariants as named
use Rattle.term_unify.specs.Terms.{first}
use Rattle.clock_rules.specs.Rules.{after_names, clock_name, param_at, param_here, param_named}
use Rattle.ls_base.proofs.Built.{rest}
use Rattle.clock_pairs.proofs.Pairing.{more_part}
use Rattle.clock_pairs.specs.Entries.{owned, owners, brought}

-- ---- equal numbers

same_back : (x y : ℕ) → (x == y) ≡ (y == x)
same_back x y = go (x == y) refl (y == x) refl
  where
    go : (a : Bool) → (x == y) ≡ a → (c : Bool) → (y == x) ≡ c → (x == y) ≡ (y == x)
    go true e true f = e ∙ sym f
    go false e false f = e ∙ sym f
    go true e false f = let g = eq-eqb y x (sym (eqb-true x y e)) in absurd (cc)
    go false e true f = let g = eq-eqb x y (sym (eqb-true y x f)) in absurd (cc)

-- ---- names of patterns

pub owned_more : (i : ℕ) (xs ys : List ℕ) → owned i (xs ++ ys) ≡ owned i xs ++ owned i ys
owned_more i [] ys = refl
owned_more i (x ∷ xs) ys = ap (λ z. (x, i) ∷ z) (owned_more i xs ys)

-- one more pattern
pub owned_turn : (i : ℕ) (all : List Pat) (k : ℕ) (p : Pat) (l l' whole : List (ℕ × ℕ)) → k < length all → get_or all k p ≡ p → l' ≡ l ++ owned i (names_of p)
    → l ++ owned i (joined (map names_of (drop k all))) ≡ whole → l' ++ owned i (joined (map names_of (drop (k + 1) all))) ≡ whole
owned_turn i all k p l l' whole below is now before =
    more_part l l' (owned i (names_of p)) (owned i (joined (map names_of (drop k all)))) (owned i (joined (map names_of (drop (k + 1) all)))) whole now
    (ap (λ ps. owned i (joined (map names_of ps))) (rest all k p below is) ∙ owned_more i (names_of p) (joined (map names_of (drop (k + 1) all)))) before

-- ---- parameters

abbrev pub owner : ℕ × ℕ → ℕ
owner e = e.1

owned_at : (i : ℕ) (xs : List ℕ) (rest : List (ℕ × ℕ)) (k : ℕ) (further : ℕ → Option ℕ) → ((r : ℕ) → option_map owner (nth rest r) ≡ further r)
    → option_map owner (nth (owned i xs ++ rest) k) ≡ param_here i further (after_names xs k)
owned_at i [] rest k further h = h k
owned_at i (x ∷ xs) rest zero further h = refl
owned_at i (x ∷ xs) rest (suc k) further h = owned_at i xs rest k further h

pub owner_at : (ps : List Pat) (k i : ℕ) → option_map owner (nth (owners ps i) k) ≡ param_at k ps i
owner_at [] k i = refl
owner_at (p ∷ ps) k i = owned_at i (names_of p) (owners ps (suc i)) k (λ r. param_at r ps (suc i)) (λ r. owner_at ps r (suc i))

if_or : {A : Type 0} (a b : Bool) (x y : A) → (if a then x else (if b then x else y)) ≡ (if a || b then x else y)
if_or true b x y = refl
if_or false b x y = refl

owned_first : (i : ℕ) (xs : List ℕ) (rest : List (ℕ × ℕ)) (x : ℕ) → first (owned i xs ++ rest) x ≡ (if has_name x xs then Some i else first rest x)
owned_first i [] rest x = refl
owned_first i (y ∷ ys) rest x =
    ap₂ (λ c o. if c then Some i else o) (same_back y x) (owned_first i ys rest x)
    ∙ if_or (x == y) (has_name x ys) (Some i) (first rest x)

pub owner_named : (ps : List Pat) (x i : ℕ) → first (owners ps i) x ≡ param_named x ps i
owner_named [] x i = refl
owner_named (p ∷ ps) x i = owned_first i (names_of p) (owners ps (suc i)) x ∙ ap (λ z. if has_name x (names_of p) then Some i else z) (owner_named ps x (suc i))

-- ---- clock names

pub brought_first : (ns : List Named) (x m : ℕ) → first (brought ns m) x ≡ clock_name x ns m
brought_first [] x m = refl
brought_first (named.Clock y ∷ ns) x m = ap₂ (λ c o. if c then Some m else o) (same_back y x) (brought_first ns x (suc m))
brought_first (named.Match k all p ∷ ns) x m = brought_first ns x (suc m)
brought_first (named.Present xs p ∷ ns) x m = brought_first ns x (suc m)
brought_first (named.Active all p ∷ ns) x m = brought_first ns x (suc m)
brought_first (named.Tested all p ∷ ns) x m = brought_first ns x (suc m)

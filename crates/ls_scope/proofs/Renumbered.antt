-- The number that a name of an environment has among joint names.
use Rattle.std.specs.Prelude.{◌≡◌, ℕ, suc, zero, ◌+◌, ◌<◌, ◌||◌, Bool, true, false, List, [], ◌∷◌, ◌++◌, map, length, Option, Some, None, slice_get, if◌then◌else◌, refl}
use Rattle.std.proofs.Common.{ap, sym, ◌∙◌, take, arith}
use Rattle.scope_rules.specs.Claims.{Known}
use Rattle.std.specs.List.{Contains, list_any}
use Rattle.std.specs.Str.{bytes_eq}
use Rattle.std.specs.Prelude.{slice_index_or}
use Rattle.std.proofs.lemmas.Slice.Eq.{bytes_eq-Decides}
use Rattle.ls_base.specs.Names.{Distinct}
use Rattle.scope_rules.specs.Places.{option_list}
use Rattle.scope_rules.specs.Faults.{place_from}
use Rattle.scope_rules.specs.After.{spelled_as, renumbered, number_or}

or_end : (b : Bool) → b || false ≡ true → b ≡ true
or_end true h = refl
or_end false h = h

to_end : (b : Bool) → b ≡ true → b || false ≡ true
to_end true h = refl
to_end false h = h

abbrev item_or : List ℕ → Option (List ℕ) → List ℕ
item_or d (Some x) = x
item_or d None = d

-- what is nowhere, and what is at one place alone

nowhere : (f : List ℕ → Bool) (names : List (List ℕ)) (i : ℕ) → ((k : ℕ) (t : List ℕ) → slice_get names k ≡ Some t → f t ≡ false) → place_from f names i ≡ None
nowhere f [] i h = refl
nowhere f (n ∷ ns) i h = ap (λ b. if b then Some i else place_from f ns (suc i)) (h 0 n refl) ∙ nowhere f ns (suc i) (λ k t e. h (suc k) t e)

not_true : (a b : Bool) → a ≡ b → (a ≡ true → ⊥) → a ≡ false
not_true a true e h = absurd (h e)
not_true a false e h = e

first_at : (f : List ℕ → Bool) (names : List (List ℕ)) (i k : ℕ) (text : List ℕ) → slice_get names k ≡ Some text → f text ≡ true
    → ((j : ℕ) (t : List ℕ) → slice_get names j ≡ Some t → f t ≡ true → j ≡ k) → place_from f names i ≡ Some (i + k)
first_at f [] i k text e h u = absurd (cc)
first_at f (n ∷ ns) i zero text e h u =
    ap (λ b. if b then Some i else place_from f ns (suc i)) (ap f (ap (item_or n) e) ∙ h) ∙ ap (λ m. Some m) (omega arith)
first_at f (n ∷ ns) i (suc k) text e h u =
    let later : f n ≡ false = not_true (f n) (f n) refl (λ q. let z = u 0 n refl q in absurd (omega (arith, z))) in
    let further : suc i + k ≡ i + suc k = omega arith in
    ap (λ b. if b then Some i else place_from f ns (suc i)) later
    ∙ first_at f ns (suc i) k text e h (λ j t q r. let z = u (suc j) t q r in omega (arith, z)) ∙ ap (λ m. Some m) further

below : (names : List (List ℕ)) (k : ℕ) (t : List ℕ) → slice_get names k ≡ Some t → k < length names
below [] k t e = absurd (cc)
below (n ∷ ns) zero t e = omega arith
below (n ∷ ns) (suc k) t e = let h = below ns k t e in omega (arith, h)

item : (names : List (List ℕ)) (k : ℕ) (t d : List ℕ) → slice_get names k ≡ Some t → slice_index_or names k d ≡ t
item [] k t d e = absurd (cc)
item (n ∷ ns) zero t d e = ap (item_or n) e
item (n ∷ ns) (suc k) t d e = item ns k t d e

module _ (names theirs : List (List ℕ)) (x : ℕ) where
  pub renumbered_none : None ≡ slice_get theirs x → length names ≡ renumbered names theirs x
  renumbered_none h = sym (ap (λ o. number_or o (length names)) (nowhere (spelled_as theirs x) names 0 (λ k t e. ap (λ o. list_any (bytes_eq t) (option_list o)) (sym h))))

  module _ (text : List ℕ) (h : Some text ≡ slice_get theirs x) where
    same : (t : List ℕ) → spelled_as theirs x t ≡ true → t ≡ text
    same t q = (bytes_eq-Decides t text).0 (or_end (bytes_eq t text) (ap (λ o. list_any (bytes_eq t) (option_list o)) h ∙ q))

    matches : spelled_as theirs x text ≡ true
    matches = ap (λ o. list_any (bytes_eq text) (option_list o)) (sym h) ∙ to_end (bytes_eq text text) ((bytes_eq-Decides text text).1 refl)

    pub renumbered_absent : (Contains names text → ⊥) → length names ≡ renumbered names theirs x
    renumbered_absent absent = sym (ap (λ o. number_or o (length names)) (nowhere (spelled_as theirs x) names 0 (λ k t e.
        not_true (spelled_as theirs x t) (spelled_as theirs x t) refl (λ q. absent (k, below names k t e, item names k t text e ∙ same t q)))))

    pub renumbered_found : (k : ℕ) → Distinct names → slice_get names k ≡ Some text → k ≡ renumbered names theirs x
    renumbered_found k distinct e =
        let from : 0 + k ≡ k = omega arith in
        sym (ap (λ o. number_or o (length names)) (first_at (spelled_as theirs x) names 0 k text e matches (λ j t q r. distinct j k text (q ∙ ap (λ z. Some z) (same t r)) e) ∙ ap (λ m. Some m) from))

-- what an environment stands for, item by item

map_end : {X Y : Type 0} (g : X → Y) (xs : List X) (x : X) → map g xs ++ g x ∷ [] ≡ map g (xs ++ x ∷ [])
map_end g [] x = refl
map_end g (y ∷ xs) x = ap (λ z. g y ∷ z) (map_end g xs x)

pub enums_next : {X : Type 0} (g : X → ℕ × List ℕ) (all : List X) (i : ℕ) (e : X) (known new : Known) → take (i + 1) all ≡ take i all ++ e ∷ []
    → known ≡ record { enums = map g (take i all); defs = [] } → new ≡ record { enums = known.enums ++ g e ∷ []; defs = known.defs } → new ≡ record { enums = map g (take (i + 1) all); defs = [] }
enums_next g all i e known new more before now =
    now ∙ (λ j. record { enums = (before j).enums ++ g e ∷ []; defs = (before j).defs })
    ∙ (λ j. record { enums = (map_end g (take i all) e ∙ ap (map g) (sym more)) j; defs = [] })

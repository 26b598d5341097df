-- The numbers of items by their keys.
use Rattle.std.specs.Prelude.{◌≡◌, ℕ, suc, ◌-◌, ◌==◌, Bool, false, List, length, slice_get, [], ◌∷◌, ◌++◌, map, nat_eq, unwrap_or, if◌then◌else◌}
use Rattle.std.specs.Option.{option_map_or}
use Rattle.indexmap.specs.IndexMap.{IndexMap, get}
use Rattle.ls_places.specs.Patterns.{has_name}
use Rattle.ls_places.specs.Places.{option_list}
use Rattle.ls_places.specs.Search.{nth}

-- the numbers of the items that have a key, counted from 0
abbrev pub numbers : ℕ → List (List ℕ) → List ℕ
numbers x [] = []
numbers x (keys ∷ rest) = if has_name x keys then 0 ∷ map suc (numbers x rest) else map suc (numbers x rest)

-- the items of these numbers
abbrev pub picked : {A : Type 0} → List A → List ℕ → List A
picked all [] = []
picked all (k ∷ ks) = option_list (nth all k) ++ picked all ks

-- whether the last number is `k`
abbrev pub ends_with : ℕ → List ℕ → Bool
ends_with k ks = option_map_or (λ j. j == k) (slice_get ks (length ks - 1)) false

abbrev pub with_item : ℕ → List ℕ → List ℕ
with_item k ks = if ends_with k ks then ks else ks ++ k ∷ []

-- the numbers of the items with the key `y`, with one more that has these keys
abbrev pub keyed : ℕ → ℕ → List ℕ → List ℕ → List ℕ
keyed k y keys ks = if has_name y keys then with_item k ks else ks

module _ {S : Type 0} where
  -- the numbers that a map has for a key
  abbrev pub group : IndexMap ℕ (List ℕ) S → ℕ → List ℕ
  group m x = unwrap_or (get nat_eq m x) []

  abbrev pub AddsItem : IndexMap ℕ (List ℕ) S → ℕ → ℕ → IndexMap ℕ (List ℕ) S → Type 0
  AddsItem old x k new = (y : ℕ) → group new y ≡ (if x == y then with_item k (group old y) else group old y)

  abbrev pub AddsKeys : IndexMap ℕ (List ℕ) S → List ℕ → ℕ → IndexMap ℕ (List ℕ) S → Type 0
  AddsKeys old keys k new = (y : ℕ) → group new y ≡ keyed k y keys (group old y)

  abbrev pub AreGroups : IndexMap ℕ (List ℕ) S → List (List ℕ) → Type 0
  AreGroups m keys = (x : ℕ) → group m x ≡ numbers x keys

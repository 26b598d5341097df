-- Names in order of first appearance.
use Rattle.std.specs.Prelude.{◌≡◌, ℕ, List, [], ◌∷◌, ◌++◌, Some, slice_get, if◌then◌else◌}
use Rattle.std.specs.List.{list_any}
use Rattle.std.specs.Str.{bytes_eq}

-- No spelling stands at two places.
abbrev pub Distinct : List (List ℕ) → Type 0
Distinct names = (i j : ℕ) (spelling : List ℕ) → slice_get names i ≡ Some spelling → slice_get names j ≡ Some spelling → i ≡ j

-- The names with a spelling that is added: it goes last, unless it is there.
abbrev pub with_name : List (List ℕ) → List ℕ → List (List ℕ)
with_name names spelling = if list_any (bytes_eq spelling) names then names else names ++ spelling ∷ []

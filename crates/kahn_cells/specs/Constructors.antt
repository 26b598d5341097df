-- The places of constructors, as a map that is filled step by step.
use Rattle.std.specs.Prelude.{◌≡◌, ℕ, ◌==◌, List, [], ◌∷◌, nat_eq, Option, Some, None, if◌then◌else◌}
use Rattle.indexmap.specs.IndexMap.{IndexMap, get}
use Rattle.ls_ast.specs.declared.tree.DefOf.{DefOf}
use Rattle.ls_base.specs.declared.Name.{Name}
use Rattle.ls_places.specs.Clocks.{or_else}
use Rattle.ls_places.specs.Definitions.{constructor_place, place_in}
use Rattle.ls_sig.specs.declared.binder.Note.{Note}

abbrev pub place_here : ℕ → ℕ → ℕ → Option ℕ
place_here x k y = if x == y then Some k else None

abbrev pub places_in : List Name → ℕ → Option ℕ
places_in all x = place_in x all 0

abbrev pub places_of : DefOf Note → ℕ → Option ℕ
places_of item x = constructor_place (item ∷ []) x

module _ {S : Type 0} where
  -- some more constructors, of which a name's first counts
  abbrev pub AddsPlaces : IndexMap ℕ ℕ S → (ℕ → Option ℕ) → IndexMap ℕ ℕ S → Type 0
  AddsPlaces old more new = (x : ℕ) → get nat_eq new x ≡ or_else (get nat_eq old x) (more x)

  abbrev pub ArePlaces : IndexMap ℕ ℕ S → List (DefOf Note) → Type 0
  ArePlaces found file = (x : ℕ) → get nat_eq found x ≡ constructor_place file x

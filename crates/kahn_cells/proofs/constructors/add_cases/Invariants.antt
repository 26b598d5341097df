use Rattle.std.proofs.Common.{◌≡◌, ℕ, drop}
use Rattle.std.specs.Prelude.{nat_eq}
use Rattle.indexmap.specs.IndexMap.{get}
use Rattle.kahn_cells.specs.Constructors as own
use Rattle.ls_places.specs.Definitions as spec
use Rattle.ls_places.specs.Clocks.{or_else}
use Rattle.kahn_cells.proofs.constructors.add_cases.Given as goal

abbrev pub invariant-loop-name : goal.invariant-loop-name
invariant-loop-name l = record { counted : l.k ≡ l.name-index; so_far : (x : ℕ) → or_else (get nat_eq l.places x) (spec.place_in x (drop l.name-index l.all) l.k) ≡ or_else (get nat_eq l.initial.places x) (own.places_in l.all x) }

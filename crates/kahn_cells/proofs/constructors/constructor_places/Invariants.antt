use Rattle.std.proofs.Common.{◌≡◌, ℕ, drop}
use Rattle.std.specs.Prelude.{nat_eq}
use Rattle.indexmap.specs.IndexMap.{get}
use Rattle.ls_places.specs.Definitions as spec
use Rattle.ls_places.specs.Clocks.{or_else}
use Rattle.kahn_cells.proofs.constructors.constructor_places.Given as goal

abbrev pub invariant-loop-item : goal.invariant-loop-item
invariant-loop-item l = (x : ℕ) → or_else (get nat_eq l.done x) (spec.constructor_place (drop l.item-index l.file) x) ≡ spec.constructor_place l.file x

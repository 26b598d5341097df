use Rattle.std.proofs.Common.{◌≡◌, ℕ, None, drop}
use Rattle.std.specs.Prelude.{nat_eq}
use Rattle.indexmap.specs.IndexMap.{get}
use Rattle.kahn_cells.specs.Homes as own
use Rattle.ls_places.specs.Search as spec
use Rattle.kahn_cells.proofs.homes.homes.Given as goal

abbrev pub invariant-loop-whole : goal.invariant-loop-whole
invariant-loop-whole l = (w : ℕ) → own.meet (get nat_eq l.done w) (spec.places_of w (drop l.whole-index l.all)) ≡ own.meet None (spec.places_of w l.all)

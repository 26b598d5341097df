use Rattle.std.proofs.Common.{◌≡◌, ◌++◌, drop}
use Rattle.ls_places.specs.Places as places
use Rattle.place_tables.proofs.search.arms.Given as goal

abbrev pub invariant-loop-frame : goal.invariant-loop-frame
invariant-loop-frame l = l.done ++ places.arms (drop l.frame-index l.place) ≡ places.arms l.place

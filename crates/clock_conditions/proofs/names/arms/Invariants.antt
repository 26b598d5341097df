use Rattle.std.proofs.Common.{◌≡◌, ◌++◌, drop}
use Rattle.ls_places.specs.Places as places
use Rattle.clock_conditions.proofs.names.arms.Given as goal

abbrev pub invariant-loop-frame : goal.invariant-loop-frame
invariant-loop-frame l =
    l.done ++ places.arms (drop l.frame-index l.place) ≡ places.arms l.place

use Rattle.std.proofs.Common.{◌≡◌, ◌++◌, drop}
use Rattle.ls_places.specs.Places as spec
use Rattle.ls_places.proofs.around.arms.Given as goal

abbrev pub invariant-loop-frame : goal.invariant-loop-frame
invariant-loop-frame l = l.done ++ spec.arms (drop l.frame-index l.place) ≡ spec.arms l.place

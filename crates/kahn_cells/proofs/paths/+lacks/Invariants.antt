use Rattle.std.proofs.Common.{◌≡◌, ◌+◌, ◌-◌, ◌*◌}
use Rattle.kahn_cells.specs.Paths as own
use Rattle.ls_places.specs.Search as spec
use Rattle.kahn_cells.proofs.paths.+lacks.Given as goal

abbrev pub decreases-any_arm_lacks : goal.decreases-any_arm_lacks
decreases-any_arm_lacks l = 2 * l.depth + 1

abbrev pub decreases-lacks_within : goal.decreases-lacks_within
decreases-lacks_within l = 2 * l.depth

abbrev pub invariant-any_arm_lacks-loop-j : goal.invariant-any_arm_lacks-loop-j
invariant-any_arm_lacks-loop-j l = own.any_arm_lacks l.d l.depth l.m l.paths (spec.count_up (l.count - l.j) l.j) ≡ own.any_arm_lacks l.d l.depth l.m l.paths (spec.count_up l.count 0)

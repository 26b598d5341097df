use Rattle.std.proofs.Common.{◌≡◌, ◌+◌, ◌-◌, ◌*◌}
use Rattle.place_tables.specs.Lacks as own
use Rattle.ls_places.specs.Search as spec
use Rattle.place_tables.proofs.lacks.+lacks.Given as goal

abbrev pub decreases-any_arm_lacks : goal.decreases-any_arm_lacks
decreases-any_arm_lacks l = 2 * l.depth + 1

abbrev pub decreases-lacks_within : goal.decreases-lacks_within
decreases-lacks_within l = 2 * l.depth

abbrev pub invariant-any_arm_lacks-loop-j : goal.invariant-any_arm_lacks-loop-j
invariant-any_arm_lacks-loop-j l =
    own.any_arm_lacks l.d l.depth l.m (own.paths l.d.places.sites l.skip l.numbers) (spec.count_up (own.count_arms l.d l.m - l.j) l.j)
    ≡ own.any_arm_lacks l.d l.depth l.m (own.paths l.d.places.sites l.skip l.numbers) (spec.count_up (own.count_arms l.d l.m) 0)

use Rattle.std.proofs.Common.{length}
use Rattle.step_code.specs.Marks.{AreRegions}
use Rattle.step_code.proofs.regions.close_before.Given as goal

abbrev pub invariant-loop-end : goal.invariant-loop-end
invariant-loop-end l = AreRegions l.earlier l.ends.items

abbrev pub decreases-loop-end : goal.decreases-loop-end
decreases-loop-end l = length l.ends.items

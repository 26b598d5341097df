use Rattle.std.specs.Prelude.{◌*◌, ◌-◌}
use Rattle.kahn_plain.proofs.alarmed.+alarms+fn-alarms-below.Given as goal

abbrev pub decreases-below : goal.decreases-below
decreases-below l = 2 * l.depth - 1

abbrev pub decreases-alarms : goal.decreases-alarms
decreases-alarms l = 2 * l.depth

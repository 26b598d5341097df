use Rattle.std.proofs.Common.{◌≡◌, drop}
use Rattle.type_rules.specs.Expressions as ex
use Rattle.type_readings.proofs.expressions.are_streams.Given as goal

abbrev pub invariant-loop-mark : goal.invariant-loop-mark
invariant-loop-mark l = ex.all_streams (drop l.mark-index l.rest) ≡ ex.all_streams l.rest

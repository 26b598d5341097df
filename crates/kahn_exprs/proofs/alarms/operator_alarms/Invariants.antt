use Rattle.std.proofs.Common.{◌≡◌}
use Rattle.kahn_exprs.specs.Alarms as own
use Rattle.kahn_model.specs.Table.{written_row}
use Rattle.kahn_exprs.proofs.alarms.operator_alarms.Given as goal

abbrev pub invariant-loop-i : goal.invariant-loop-i
invariant-loop-i l = l.done ≡ written_row l.i 0 (own.operator_alarm l.body l.note l.op l.all)

use Rattle.std.proofs.Common.{◌≡◌, ◌-◌, drop, length}
use Rattle.kahn_plain.specs.Alarms as heard
use Rattle.kahn_model.specs.Table.{written_row}
use Rattle.kahn_plain.proofs.alarmed.any_alarm.Given as goal

abbrev pub invariant-loop-back : goal.invariant-loop-back
invariant-loop-back g l = l.done ≡ written_row l.body.lines 0 (heard.any_alarm l.body (drop (length l.all - l.back) l.all))

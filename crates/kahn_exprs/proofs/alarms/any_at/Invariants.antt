use Rattle.std.proofs.Common.{◌≡◌, drop}
use Rattle.kahn_exprs.specs.Alarms as own
use Rattle.kahn_model.specs.Alarm as alarm
use Rattle.kahn_model.specs.Rows.{either}
use Rattle.kahn_exprs.proofs.alarms.any_at.Given as goal

abbrev pub invariant-loop-row : goal.invariant-loop-row
invariant-loop-row l = either l.now (alarm.any_of (own.truths_at l.i (drop l.row-index l.parts))) ≡ alarm.any_of (own.truths_at l.i l.parts)

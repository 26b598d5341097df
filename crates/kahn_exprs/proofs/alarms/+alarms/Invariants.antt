use Rattle.std.proofs.Common.{take, ◌≡◌, ◌++◌}
use Rattle.kahn_exprs.specs.Alarms as own
use Rattle.kahn_exprs.proofs.alarms.+alarms.Given as goal

abbrev pub invariant-add_alarms-loop-e : goal.invariant-add_alarms-loop-e
invariant-add_alarms-loop-e g l = l.done ≡ l.initial.done ++ own.alarm_rows l.body l.place (take l.e-index l.all)

abbrev pub invariant-add_branch_alarms-loop-choice : goal.invariant-add_branch_alarms-loop-choice
invariant-add_branch_alarms-loop-choice g l = l.done ≡ l.initial.done ++ own.branch_alarms l.body l.place (take l.choice-index l.all)

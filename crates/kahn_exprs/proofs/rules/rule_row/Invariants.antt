use Rattle.std.proofs.Common.{◌≡◌}
use Rattle.kahn_exprs.specs.Rules as own
use Rattle.kahn_model.specs.Table.{written_row}
use Rattle.kahn_exprs.proofs.rules.rule_row.Given as goal

abbrev pub invariant-loop-i : goal.invariant-loop-i
invariant-loop-i l = l.done ≡ written_row l.i 0 (own.rule_cell l.body l.place l.note l.rule)

use Rattle.std.proofs.Common.{◌≡◌}
use Rattle.kahn_exprs.specs.Body as spec
use Rattle.kahn_model.specs.Table.{written_row}
use Rattle.kahn_plain.proofs.equations.otherwise_row.Given as goal

abbrev pub invariant-loop-i : goal.invariant-loop-i
invariant-loop-i l = l.done ≡ written_row l.i 0 (spec.otherwise l.body l.x l.w)

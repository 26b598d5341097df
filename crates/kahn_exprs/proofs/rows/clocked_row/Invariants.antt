use Rattle.std.proofs.Common.{◌≡◌}
use Rattle.kahn_exprs.specs.Rules as own
use Rattle.kahn_model.specs.Table.{written_row}
use Rattle.kahn_exprs.proofs.rows.clocked_row.Given as goal

abbrev pub invariant-loop-i : goal.invariant-loop-i
invariant-loop-i l = l.done ≡ written_row l.i 0 (own.clocked l.body l.ck l.cells)

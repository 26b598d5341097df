use Rattle.std.proofs.Common.{◌≡◌}
use Rattle.kahn_exprs.specs.Context as around
use Rattle.kahn_model.specs.Functions.{row_of}
use Rattle.kahn_model.specs.Table.{written_row}
use Rattle.kahn_exprs.proofs.rows.stream_row.Given as goal

abbrev pub invariant-loop-i : goal.invariant-loop-i
invariant-loop-i l = l.done ≡ written_row l.i 0 (row_of (around.arg_of l.arg))

use Rattle.std.proofs.Common.{◌≡◌}
use Rattle.kahn_plain.specs.Equations as own
use Rattle.kahn_model.specs.Table.{written_row}
use Rattle.kahn_plain.proofs.equations.on_variable.Given as goal

abbrev pub invariant-loop-i : goal.invariant-loop-i
invariant-loop-i l = l.done ≡ written_row l.i 0 (own.on_variable l.body l.x l.cells)

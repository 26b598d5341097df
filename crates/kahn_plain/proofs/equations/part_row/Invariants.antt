use Rattle.std.proofs.Common.{◌≡◌}
use Rattle.kahn_plain.specs.Equations as own
use Rattle.kahn_model.specs.Table.{cell_in, written_row}
use Rattle.kahn_plain.proofs.equations.part_row.Given as goal

abbrev pub invariant-loop-i : goal.invariant-loop-i
invariant-loop-i l = l.done ≡ written_row l.i 0 (λ i. own.part_of l.p l.x (cell_in l.cells i))

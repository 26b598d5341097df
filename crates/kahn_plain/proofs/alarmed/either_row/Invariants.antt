use Rattle.std.proofs.Common.{◌≡◌}
use Rattle.kahn_model.specs.Rows.{either}
use Rattle.kahn_model.specs.Table.{cell_in}
use Rattle.kahn_model.specs.Table.{written_row}
use Rattle.kahn_plain.proofs.alarmed.either_row.Given as goal

abbrev pub invariant-loop-i : goal.invariant-loop-i
invariant-loop-i l = l.done ≡ written_row l.i 0 (λ i. either (cell_in l.a i) (cell_in l.b i))

use Rattle.std.proofs.Common.{◌≡◌}
use Rattle.kahn_plain.specs.Equations as own
use Rattle.kahn_model.specs.Table.{written_row}
use Rattle.kahn_plain.proofs.blocks.present_row.Given as goal

abbrev pub invariant-loop-i : goal.invariant-loop-i
invariant-loop-i l = l.done ≡ written_row l.i 0 (own.present_cell l.body l.all l.place)

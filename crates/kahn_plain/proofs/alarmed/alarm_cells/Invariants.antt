use Rattle.std.proofs.Common.{◌≡◌}
use Rattle.kahn_model.specs.Alarm.{yes_cell}
use Rattle.kahn_model.specs.Rows.{know}
use Rattle.kahn_model.specs.Table.{cell_in}
use Rattle.kahn_model.specs.Table.{written_row}
use Rattle.kahn_plain.proofs.alarmed.alarm_cells.Given as goal

abbrev pub invariant-loop-i : goal.invariant-loop-i
invariant-loop-i l = l.done ≡ written_row l.i 0 (λ i. know (cell_in l.alarms i) yes_cell)

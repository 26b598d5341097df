use Rattle.std.proofs.Common.{◌≡◌, ℕ, None, length}
use Rattle.kahn_model.specs.Table.{cell_in}
use Rattle.kahn_exprs.proofs.table.unknown_row.Given as goal

abbrev pub invariant-loop-i : goal.invariant-loop-i
invariant-loop-i l = record { unknown : (i : ℕ) → cell_in l.row.items i ≡ None; length : length l.row.items ≡ l._i }

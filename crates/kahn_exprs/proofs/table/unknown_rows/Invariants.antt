use Rattle.std.proofs.Common.{◌≡◌, ◌<◌, ℕ, None, length}
use Rattle.kahn_model.specs.Table.{cell_in}
use Rattle.kahn_exprs.specs.Standing as own
use Rattle.kahn_exprs.proofs.table.unknown_rows.Given as goal

abbrev pub invariant-loop-k : goal.invariant-loop-k
invariant-loop-k l = record {
  unknown : (k i : ℕ) → cell_in (own.row_at l.all.items k) i ≡ None;
  count : length l.all.items ≡ l._k;
  lengths : (k : ℕ) → k < l._k → length (own.row_at l.all.items k) ≡ l.lines;
}

use Rattle.std.proofs.Common.{◌≡◌, ◌<◌, ℕ, length, get_or, None}
use Rattle.sum_model.specs.RunningSum.{turn, row_in}
use Rattle.sum_model.proofs.plain.next_table.Given as goal

abbrev pub invariant-loop-i : goal.invariant-loop-i
invariant-loop-i l = record {
  count : length l.next.items ≡ l.i;
  cells : (k : ℕ) → k < l.i → get_or l.next.items k None ≡ turn l.body l.inputs (row_in l.table) k;
}

use Rattle.std.proofs.Common.{◌≡◌, length}
use Rattle.sum_model.specs.RunningSum.{after, row_in}
use Rattle.sum_model.proofs.plain.rows.Given as goal

abbrev pub invariant-loop-turn : goal.invariant-loop-turn
invariant-loop-turn l = record {
  count : length l.table.items ≡ length l.inputs;
  cells : row_in l.table.items ≡ after l._turn l.body l.inputs;
}

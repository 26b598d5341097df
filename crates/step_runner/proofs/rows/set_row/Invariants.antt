use Rattle.std.proofs.Common.{◌≡◌, take, map, length}
use Rattle.step_code.specs.Steps.{out_cell}
use Rattle.step_runner.proofs.rows.set_row.Given as goal

abbrev pub invariant-loop-i : goal.invariant-loop-i
invariant-loop-i l = record {
  size : length l.row ≡ length l.outputs;
  made : take l.i l.row ≡ map (out_cell l.slots) (take l.i l.outputs);
}

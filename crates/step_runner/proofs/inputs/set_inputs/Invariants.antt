use Rattle.std.proofs.Common.{◌≡◌, drop, length}
use Rattle.step_code.specs.Steps.{with_inputs}
use Rattle.step_runner.proofs.inputs.set_inputs.Given as goal

abbrev pub invariant-loop-i : goal.invariant-loop-i
invariant-loop-i l = record {
  size : length l.slots ≡ length l.initial.slots;
  so_far : with_inputs l.lines l.inputs l.initial.slots ≡ with_inputs (drop l.i l.lines) (drop l.i l.inputs) l.slots;
}

use Rattle.std.proofs.Common.{◌≡◌, take}
use Rattle.step_runner.proofs.machine.copy_clock.Given as goal

abbrev pub invariant-loop-at : goal.invariant-loop-at
invariant-loop-at l = l.done ≡ take l.at-index l.on

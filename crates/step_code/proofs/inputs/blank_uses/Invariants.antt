use Rattle.std.proofs.Common.{◌≡◌, replicate}
use Rattle.step_code.specs.Marks.{no_use}
use Rattle.step_code.proofs.inputs.blank_uses.Given as goal

abbrev pub invariant-loop-slot : goal.invariant-loop-slot
invariant-loop-slot l = l.uses.items ≡ replicate l._slot-index no_use

use Rattle.std.proofs.Common.{◌≡◌, take, drop}
use Rattle.step_code.specs.Valid as valid
use Rattle.step_code.proofs.inputs.outputs_fault.Given as goal

abbrev pub invariant-loop-i : goal.invariant-loop-i
invariant-loop-i l = valid.outputs_fault l.slots l.outputs ≡ valid.fault_after (λ earlier later line. valid.out_fault l.slots line) (take l.i l.outputs) (drop l.i l.outputs)

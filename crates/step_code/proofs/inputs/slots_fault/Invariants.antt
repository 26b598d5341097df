use Rattle.std.proofs.Common.{◌≡◌, take, drop}
use Rattle.step_code.specs.Valid as valid
use Rattle.step_code.proofs.inputs.slots_fault.Given as goal

abbrev pub invariant-loop-i : goal.invariant-loop-i
invariant-loop-i l = valid.slots_fault l.cases l.slots ≡ valid.fault_after (λ earlier later s. valid.slot_fault l.cases s) (take l.i l.slots) (drop l.i l.slots)

use Rattle.std.proofs.Common.{◌≡◌, take, map}
use Rattle.step_code.specs.declared.parts.Slot.{Slot}
use Rattle.step_code.specs.Steps.{first_leaf}
use Rattle.step_runner.proofs.machine.first_slots.Given as goal

abbrev pub invariant-loop-slot : goal.invariant-loop-slot
invariant-loop-slot l = l.leaves.items ≡ map (λ (s : Slot). first_leaf s.kind) (take l.slot-index l.slots)

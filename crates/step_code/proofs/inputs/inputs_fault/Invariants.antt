use Rattle.std.proofs.Common.{◌≡◌, take, drop, length}
use Rattle.step_code.specs.Marks.{AreUses}
use Rattle.step_code.specs.Valid as valid
use Rattle.step_code.proofs.inputs.inputs_fault.Given as goal

abbrev pub invariant-loop-i : goal.invariant-loop-i
invariant-loop-i l = record {
  so_far : valid.inputs_fault l.cases l.slots l.inputs ≡ valid.fault_after (λ earlier later line. valid.in_fault l.cases l.slots l.inputs earlier line) (take l.i l.inputs) (drop l.i l.inputs);
  uses : AreUses (take l.i l.inputs) (length l.slots) l.uses.items;
}

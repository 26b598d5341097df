use Rattle.std.proofs.Common.{◌≡◌, [], take, drop, length}
use Rattle.step_code.specs.Marks.{AreShallow}
use Rattle.step_code.specs.Valid as valid
use Rattle.step_code.proofs.bodies.bodies_fault.Given as goal

abbrev pub invariant-loop-i : goal.invariant-loop-i
invariant-loop-i l = record {
  so_far : valid.bodies_fault l.cases l.lacks [] [] l.bodies ≡ valid.bodies_fault l.cases l.lacks (take l.i l.bodies) l.depths.items (drop l.i l.bodies);
  depths : valid.depths_of l.cases [] [] l.bodies ≡ valid.depths_of l.cases (take l.i l.bodies) l.depths.items (drop l.i l.bodies);
  count : length l.depths.items ≡ l.i;
  shallow : AreShallow l.i l.depths.items;
}

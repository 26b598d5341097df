use Rattle.std.proofs.Common.{◌≡◌, drop}
use Rattle.clock_conditions.specs.Bounds as spec
use Rattle.clock_conditions.proofs.conditions.vars_meet.Given as goal

abbrev pub invariant-loop-x : goal.invariant-loop-x
invariant-loop-x l =
    spec.vars_met l.first l.lists (drop l.x l.vars) (drop l.x l.clocks) ≡ spec.vars_met l.first l.lists l.vars l.clocks

use Rattle.std.proofs.Common.{◌≡◌, drop}
use Rattle.clock_conditions.specs.Bounds as spec
use Rattle.clock_conditions.proofs.conditions.blocks_meet.Given as goal

abbrev pub invariant-loop-j : goal.invariant-loop-j
invariant-loop-j l =
    spec.blocks_met l.first l.lists (drop l.j l.lists) (drop l.j l.clocks) ≡ spec.blocks_met l.first l.lists l.lists l.clocks

use Rattle.std.proofs.Common.{◌≡◌, drop}
use Rattle.clock_conditions.specs.Bounds as spec
use Rattle.clock_conditions.specs.Every.{every}
use Rattle.clock_conditions.proofs.names.are_around.Given as goal

abbrev pub invariant-loop-m : goal.invariant-loop-m
invariant-loop-m l =
    every (spec.is_around l.arms l.first l.lists) (drop l.m-index l.names) ≡ every (spec.is_around l.arms l.first l.lists) l.names

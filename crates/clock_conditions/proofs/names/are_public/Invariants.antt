use Rattle.std.proofs.Common.{◌≡◌, drop}
use Rattle.clock_conditions.specs.Bounds as spec
use Rattle.clock_conditions.specs.Every.{every}
use Rattle.clock_conditions.proofs.names.are_public.Given as goal

abbrev pub invariant-loop-m : goal.invariant-loop-m
invariant-loop-m l =
    every (spec.is_clock_parameter l.marks) (drop l.m-index l.names) ≡ every (spec.is_clock_parameter l.marks) l.names

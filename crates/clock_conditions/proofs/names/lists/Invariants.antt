use Rattle.std.proofs.Common.{◌≡◌, ◌++◌, drop, map}
use Rattle.clock_conditions.specs.Bounds as spec
use Rattle.clock_conditions.proofs.names.lists.Given as goal

abbrev pub invariant-loop-named : goal.invariant-loop-named
invariant-loop-named l =
    l.done ++ map (spec.list_of l.vars) (drop l.named-index l.names) ≡ map (spec.list_of l.vars) l.names

use Rattle.std.proofs.Common.{◌≡◌, ◌-◌, ◌++◌}
use Rattle.clock_rules.specs.Fresh as spec
use Rattle.clock_fresh.proofs.shapes.some_vars.Given as goal

abbrev pub invariant-loop-k : goal.invariant-loop-k
invariant-loop-k l = (l.done ++ (spec.some_vars (l.count - l.k) l.next).0 ≡ (spec.some_vars l.count l.initial.next).0) × ((spec.some_vars (l.count - l.k) l.next).1 ≡ (spec.some_vars l.count l.initial.next).1)

use Rattle.std.proofs.Common.{◌≡◌, ◌++◌, ◌-◌}
use Rattle.type_rules.specs.Expressions as spec
use Rattle.type_readings.proofs.operators.variables.Given as goal

abbrev pub invariant-loop-k : goal.invariant-loop-k
invariant-loop-k l = l.list ++ spec.vars_from l.k (l.count - l.k) ≡ spec.vars_from 0 l.count

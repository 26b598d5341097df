use Rattle.std.proofs.Common.{◌≡◌, ◌++◌, drop}
use Rattle.type_readings.specs.Readings as spec
use Rattle.type_readings.proofs.expressions.places.Given as goal

abbrev pub invariant-loop-e : goal.invariant-loop-e
invariant-loop-e l = l.list ++ spec.places (drop l.e-index l.all) ≡ spec.places l.all

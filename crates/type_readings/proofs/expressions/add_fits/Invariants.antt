use Rattle.std.proofs.Common.{◌≡◌, ◌++◌, drop}
use Rattle.type_readings.specs.Readings as spec
use Rattle.type_readings.proofs.expressions.add_fits.Given as goal

abbrev pub invariant-loop-at : goal.invariant-loop-at
invariant-loop-at l = l.list ++ spec.zipped (drop l.at l.all) (drop l.at l.schemes) ≡ l.initial.list ++ spec.zipped l.all l.schemes

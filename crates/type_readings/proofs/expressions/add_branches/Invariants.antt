use Rattle.std.proofs.Common.{◌≡◌, ◌++◌, drop}
use Rattle.type_readings.specs.Readings as spec
use Rattle.type_readings.proofs.expressions.add_branches.Given as goal

abbrev pub invariant-loop-choice : goal.invariant-loop-choice
invariant-loop-choice l = l.list ++ spec.branch_fits (drop l.choice-index l.all) ≡ l.initial.list ++ spec.branch_fits l.all

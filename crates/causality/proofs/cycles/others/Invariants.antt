use Rattle.std.proofs.Common.{◌≡◌, ◌++◌, drop}
use Rattle.causality_rules.specs.Items as rules
use Rattle.causality.specs.Cycles as spec
use Rattle.causality.proofs.cycles.others.Given as goal

abbrev pub invariant-loop-k : goal.invariant-loop-k
invariant-loop-k l = l.done ++ spec.others rules.is_condition (drop l.k-index l.rows) ≡ spec.others rules.is_condition l.rows

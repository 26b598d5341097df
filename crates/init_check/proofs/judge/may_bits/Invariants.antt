use Rattle.std.proofs.Common.{◌≡◌, ◌++◌, drop}
use Rattle.init_rules.specs.Searches as spec
use Rattle.init_rules.specs.Nodes.{counts}
use Rattle.init_check.proofs.judge.may_bits.Given as goal

abbrev pub invariant-loop-k : goal.invariant-loop-k
invariant-loop-k l = l.done ++ spec.may_bits (counts l.d) l.wrong (drop l.k l.known) l.k ≡ spec.may_bits (counts l.d) l.wrong l.known 0

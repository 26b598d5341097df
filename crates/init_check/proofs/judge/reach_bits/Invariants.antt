use Rattle.std.proofs.Common.{◌≡◌, ◌++◌, drop}
use Rattle.init_rules.specs.Searches as spec
use Rattle.init_rules.specs.Nodes.{counts}
use Rattle.init_check.proofs.judge.reach_bits.Given as goal

abbrev pub invariant-loop-k : goal.invariant-loop-k
invariant-loop-k l = l.done ++ spec.reach_bits (counts l.d) l.wrong l.out (drop l.k l.known) l.k ≡ spec.reach_bits (counts l.d) l.wrong l.out l.known 0

use Rattle.std.proofs.Common.{◌≡◌, ◌++◌, drop}
use Rattle.causality_rules.specs.Reads as spec
use Rattle.causality.proofs.reads.add_restarts.Given as goal

abbrev pub invariant-loop-k : goal.invariant-loop-k
invariant-loop-k l = l.out ++ spec.restart_rows (drop l.k-index l.all) ≡ l.initial.out ++ spec.restart_rows l.all

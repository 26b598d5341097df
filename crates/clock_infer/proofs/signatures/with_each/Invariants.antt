use Rattle.std.proofs.Common.{◌≡◌, ◌++◌, drop}
use Rattle.clock_infer.specs.Signatures as spec
use Rattle.clock_infer.proofs.signatures.with_each.Given as goal

abbrev pub invariant-loop-k : goal.invariant-loop-k
invariant-loop-k l = l.done ++ spec.with_each (drop l.k l.schemes) (drop l.k l.sigs) ≡ spec.with_each l.schemes l.sigs

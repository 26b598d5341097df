use Rattle.std.proofs.Common.{◌≡◌, drop}
use Rattle.causality.specs.Cycles as spec
use Rattle.causality.proofs.cycles.first_marked.Given as goal

abbrev pub invariant-loop-k : goal.invariant-loop-k
invariant-loop-k l = spec.first_marked l.marks (drop l.k l.vars) l.k ≡ spec.first_marked l.marks l.vars 0

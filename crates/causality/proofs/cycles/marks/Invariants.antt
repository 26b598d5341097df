use Rattle.std.proofs.Common.{◌≡◌, drop}
use Rattle.causality.specs.Cycles as spec
use Rattle.causality.proofs.cycles.marks.Given as goal

abbrev pub invariant-loop-k : goal.invariant-loop-k
invariant-loop-k l = spec.marks_with l.marks.items (drop l.k-index l.rows) ≡ spec.marks_of l.d l.rows

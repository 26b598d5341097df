use Rattle.std.proofs.Common.{◌≡◌, drop}
use Rattle.causality.specs.Cycles as spec
use Rattle.causality.proofs.cycles.holds_marked.Given as goal

abbrev pub invariant-loop-frame : goal.invariant-loop-frame
invariant-loop-frame l = spec.holds_marked l.marks (drop l.frame-index l.place) ≡ spec.holds_marked l.marks l.place

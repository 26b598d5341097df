use Rattle.std.proofs.Common.{◌≡◌, ◌++◌, drop}
use Rattle.causality_rules.specs.Reads as spec
use Rattle.causality.proofs.reads.add_place.Given as goal

abbrev pub invariant-loop-frame : goal.invariant-loop-frame
invariant-loop-frame l = l.out ++ spec.place_rows (drop l.frame-index l.place) ≡ l.initial.out ++ spec.place_rows l.place

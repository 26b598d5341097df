use Rattle.std.proofs.Common.{◌≡◌, drop}
use Rattle.init_rules.specs.Bits as bits
use Rattle.init_check.proofs.graph.reset_within.Given as goal

abbrev pub invariant-loop-frame : goal.invariant-loop-frame
invariant-loop-frame l = bits.reset_within l.left (drop l.frame-index l.place) ≡ bits.reset_within l.n l.place

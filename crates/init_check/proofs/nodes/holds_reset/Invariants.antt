use Rattle.std.proofs.Common.{◌≡◌, drop}
use Rattle.init_rules.specs.Bits as bits
use Rattle.init_check.proofs.nodes.holds_reset.Given as goal

abbrev pub invariant-loop-frame : goal.invariant-loop-frame
invariant-loop-frame l = bits.holds_reset l.r (drop l.frame-index l.place) ≡ bits.holds_reset l.r l.place

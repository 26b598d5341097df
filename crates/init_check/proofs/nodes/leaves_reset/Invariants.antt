use Rattle.std.proofs.Common.{◌≡◌, drop}
use Rattle.init_rules.specs.Bits as bits
use Rattle.init_check.proofs.nodes.leaves_reset.Given as goal

abbrev pub invariant-loop-at : goal.invariant-loop-at
invariant-loop-at l = bits.leaves_reset l.p (drop l.at l.q) ≡ bits.leaves_reset l.p l.q

use Rattle.std.proofs.Common.{◌≡◌}
use Rattle.clock_pairs.proofs.Sighted.{best}
use Rattle.clock_pairs.proofs.arms.signal_in.Given as goal

abbrev pub invariant-loop-end : goal.invariant-loop-end
invariant-loop-end g l =
    l.first ≡ best l.x l.here l.end l.scene.index.now.places.vars 0

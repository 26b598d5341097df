use Rattle.std.proofs.Common.{◌≡◌, ◌++◌, drop}
use Rattle.clock_pairs.specs.Scene as spec
use Rattle.clock_pairs.proofs.arms.add_seen.Given as goal

abbrev pub invariant-loop-arm : goal.invariant-loop-arm
invariant-loop-arm g l =
    l.out ++ spec.seen g.C.CasePlaces.place l.scene l.inside (drop l.arm-index l.inner) l.here ≡ l.initial.out ++ spec.seen g.C.CasePlaces.place l.scene l.initial.inside l.inner l.here

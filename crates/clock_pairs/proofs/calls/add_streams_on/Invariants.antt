use Rattle.std.proofs.Common.{◌≡◌, ◌++◌, drop}
use Rattle.clock_pairs.specs.Scene as spec
use Rattle.clock_pairs.proofs.calls.add_streams_on.Given as goal

abbrev pub invariant-loop-e : goal.invariant-loop-e
invariant-loop-e g l =
    l.out ++ spec.streams_on g.C.CasePlaces.place l._scene l.ck (drop l.e-index l.args) ≡ l.initial.out ++ spec.streams_on g.C.CasePlaces.place l._scene l.ck l.args

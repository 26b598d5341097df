use Rattle.std.proofs.Common.{◌≡◌, ◌++◌, drop}
use Rattle.clock_pairs.specs.Scene as spec
use Rattle.clock_pairs.proofs.calls.add_meet.Given as goal

abbrev pub invariant-loop-at : goal.invariant-loop-at
invariant-loop-at g l =
    l.out ++ spec.meet g.C.CasePlaces.place l._scene (drop l.at l.clocks) (drop l.at l.args) ≡ l.initial.out ++ spec.meet g.C.CasePlaces.place l._scene l.clocks l.args

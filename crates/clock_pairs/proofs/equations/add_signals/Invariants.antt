use Rattle.std.proofs.Common.{◌≡◌, ◌++◌, drop}
use Rattle.clock_pairs.specs.Scene as spec
use Rattle.clock_pairs.proofs.equations.add_signals.Given as goal

abbrev pub invariant-loop-x : goal.invariant-loop-x
invariant-loop-x g l =
    l.out ++ spec.signal_pairs g.C.CasePlaces.place l.scene l.ck l.place (drop l.x-index l.names) ≡ l.initial.out ++ spec.signal_pairs g.C.CasePlaces.place l.scene l.ck l.place l.names

use Rattle.std.proofs.Common.{◌≡◌, ◌++◌, drop}
use Rattle.clock_pairs.specs.Scene as spec
use Rattle.clock_pairs.proofs.equations.add_starts.Given as goal

abbrev pub invariant-loop-start : goal.invariant-loop-start
invariant-loop-start g l =
    l.out ++ spec.starts_pairs g.C.CasePlaces.place l.scene (drop l.start-index l.all) ≡ l.initial.out ++ spec.starts_pairs g.C.CasePlaces.place l.scene l.all

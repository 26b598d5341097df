use Rattle.std.proofs.Common.{◌≡◌, ◌++◌, drop}
use Rattle.clock_pairs.specs.Scene as spec
use Rattle.clock_pairs.proofs.calls.add_named.Given as goal

abbrev pub invariant-loop-at : goal.invariant-loop-at
invariant-loop-at g l =
    l.out ++ spec.named_pairs g.C.CasePlaces.place l.scene l.args (drop l.at-index l.names) ≡ l.initial.out ++ spec.named_pairs g.C.CasePlaces.place l.scene l.args l.names

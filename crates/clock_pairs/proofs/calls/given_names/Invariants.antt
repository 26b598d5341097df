use Rattle.std.proofs.Common.{◌≡◌, ◌++◌, drop}
use Rattle.clock_pairs.specs.Scene as spec
use Rattle.clock_pairs.proofs.calls.given_names.Given as goal

abbrev pub invariant-loop-e : goal.invariant-loop-e
invariant-loop-e g l =
    l.names ++ spec.names_given g.C.CasePlaces.place l.scene (drop l.e-index l.args) ≡ spec.names_given g.C.CasePlaces.place l.scene l.args

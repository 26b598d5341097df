use Rattle.std.proofs.Common.{◌≡◌, ◌++◌, drop}
use Rattle.clock_pairs.specs.Scene as spec
use Rattle.clock_pairs.proofs.equations.add_conditions.Given as goal

abbrev pub invariant-loop-guard : goal.invariant-loop-guard
invariant-loop-guard g l =
    l.out ++ spec.conditions_on g.C.CasePlaces.place l.scene l.ck (drop l.guard-index l.all) ≡ l.initial.out ++ spec.conditions_on g.C.CasePlaces.place l.scene l.ck l.all

use Rattle.std.proofs.Common.{◌≡◌, ◌++◌, drop}
use Rattle.clock_pairs.specs.Scene as spec
use Rattle.clock_pairs.proofs.equations.add_vars.Given as goal

abbrev pub invariant-loop-x : goal.invariant-loop-x
invariant-loop-x g l =
    l.out ++ spec.vars_pairs g.C.CasePlaces.place l.scene l.site (drop l.x-index l.vars) ≡ l.initial.out ++ spec.vars_pairs g.C.CasePlaces.place l.scene l.site l.vars

use Rattle.std.proofs.Common.{◌≡◌, ◌++◌, drop}
use Rattle.clock_pairs.specs.Scene as spec
use Rattle.clock_pairs.proofs.equations.add_guards.Given as goal

abbrev pub invariant-loop-s : goal.invariant-loop-s
invariant-loop-s g l =
    l.out ++ spec.guard_pairs g.C.CasePlaces.place l.scene l.ck l.m l.s (drop l.s l.states) ≡ l.initial.out ++ spec.guard_pairs g.C.CasePlaces.place l.scene l.ck l.m 0 l.states

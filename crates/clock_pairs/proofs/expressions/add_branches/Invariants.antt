use Rattle.std.proofs.Common.{◌≡◌, ◌++◌, drop}
use Rattle.clock_pairs.specs.Scene as spec
use Rattle.clock_pairs.proofs.expressions.add_branches.Given as goal

abbrev pub invariant-loop-choice : goal.invariant-loop-choice
invariant-loop-choice g l =
    l.out ++ spec.branch_pairs g.C.CasePlaces.place l.scene l.ck l.m (drop l.choice-index l.all) ≡ l.initial.out ++ spec.branch_pairs g.C.CasePlaces.place l.scene l.ck l.m l.all

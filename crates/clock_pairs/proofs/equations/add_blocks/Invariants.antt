use Rattle.std.proofs.Common.{◌≡◌, ◌+◌, ◌++◌, drop}
use Rattle.clock_pairs.specs.Scene as spec
use Rattle.clock_pairs.proofs.equations.add_blocks.Given as goal

abbrev pub invariant-loop-j : goal.invariant-loop-j
invariant-loop-j g l =
    l.out ++ spec.blocks_pairs g.C.CasePlaces.place l.scene (l.first + l.j) (drop l.j l.names) ≡ l.initial.out ++ spec.blocks_pairs g.C.CasePlaces.place l.scene l.first l.names

use Rattle.std.proofs.Common.{take}
use Rattle.term_unify.specs.Graph.{nodes, Pose}
use Rattle.term_unify.proofs.graph.roots.Given as goal

abbrev pub invariant-loop-pair : goal.invariant-loop-pair
invariant-loop-pair g l = Pose (nodes l.terms.items) l.equal.items (take l.pair-index l.pairs)

use Rattle.std.specs.Ordering.{nat_cmp}
use Rattle.std.specs.BTreeMap.{get}
use Rattle.term_unify.specs.Graph.{nodes}
use Rattle.term_unify.proofs.Nodes.{Joining}
use Rattle.term_unify.proofs.graph.join_variables.Given as goal

abbrev pub invariant-loop-at : goal.invariant-loop-at
invariant-loop-at g l = Joining g.T.Term (nodes l.terms) l.initial.equal.items l.equal.items l.at (get nat_cmp l.seen)

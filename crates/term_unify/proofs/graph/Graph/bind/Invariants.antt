use Rattle.term_unify.specs.Graph.{nodes}
use Rattle.term_unify.proofs.Bindings.{Binds}
use Rattle.term_unify.proofs.graph.Graph.bind.Given as goal

abbrev pub invariant-loop-node : goal.invariant-loop-node
invariant-loop-node g l = Binds g.T.Term (nodes l.self.terms.items) l.self.first.items l.root l.group l.node-index l.initial.done.list l.done.list

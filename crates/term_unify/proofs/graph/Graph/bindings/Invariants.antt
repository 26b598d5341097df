use Rattle.term_unify.specs.Graph.{nodes}
use Rattle.term_unify.specs.Binding.{IsBinding}
use Rattle.term_unify.proofs.graph.Graph.bindings.Given as goal

abbrev pub invariant-loop-root : goal.invariant-loop-root
invariant-loop-root g l = IsBinding g.T.Term (nodes l.self.terms.items) l.classes l.order l.root-index l.done.list

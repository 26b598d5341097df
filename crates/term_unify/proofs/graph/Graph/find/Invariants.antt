use Rattle.std.proofs.Common.{◌<◌, length}
use Rattle.term_unify.specs.Graph.{nodes, rank, IsForest, Shortened, Leads}
use Rattle.term_unify.proofs.graph.Graph.find.Given as goal

abbrev pub invariant-loop-parent : goal.invariant-loop-parent
invariant-loop-parent g l = record {
  forest : IsForest g.T.Term (nodes l.self.terms.items) l.parent;
  inside : l.at < length l.parent;
  shortened : Shortened l.initial.parent l.parent;
  leads : Leads l.initial.parent l.node l.at;
}

abbrev pub decreases-loop-parent : goal.decreases-loop-parent
decreases-loop-parent g l = rank g.T.Term (nodes l.self.terms.items) l.at

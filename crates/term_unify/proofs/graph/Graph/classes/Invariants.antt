use Rattle.std.proofs.Common.{◌≡◌, ◌<◌, ℕ, length}
use Rattle.std.specs.List.{slice_index}
use Rattle.term_unify.specs.Graph.{nodes, work, IsClosing}
use Rattle.term_unify.proofs.graph.Graph.classes.Given as goal

abbrev pub invariant-loop-node : goal.invariant-loop-node
invariant-loop-node g l = record {
  all : length l.parent.items ≡ l.node;
  alone : (i : ℕ) → i < l.node → slice_index l.parent.items i ≡ i;
}

abbrev pub invariant-loop-a : goal.invariant-loop-a
invariant-loop-a g l = IsClosing g.T.Term (nodes l.self.terms.items) l.self.first.items l.fn.equal.items l.parent.items l.pending.items

abbrev pub decreases-loop-a : goal.decreases-loop-a
decreases-loop-a g l = work g.T.Term (nodes l.self.terms.items) l.parent.items l.pending.items

use Rattle.std.proofs.Common.{◌≡◌, ◌≤◌, length, drop}
use Rattle.term_unify.specs.Terms.{total}
use Rattle.term_unify.specs.Graph.{nodes, Keeps, PartsFollow}
use Rattle.term_unify.proofs.graph.expand.Given as goal

abbrev pub invariant-loop-at : goal.invariant-loop-at
invariant-loop-at g l = record {
  all : length l.first.items ≡ l.at;
  some : l.at ≤ length (nodes l.terms.items);
  kept : Keeps (nodes l.initial.terms.items) (nodes l.terms.items);
  parts : PartsFollow g.T.Term (nodes l.terms.items) l.first.items l.at;
}

abbrev pub decreases-loop-at : goal.decreases-loop-at
decreases-loop-at g l = total g.T.Term.size (drop l.at (nodes l.terms.items))

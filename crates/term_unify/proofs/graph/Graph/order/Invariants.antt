use Rattle.std.proofs.Common.{◌≡◌, length, false}
use Rattle.std.specs.Prelude.{replicate}
use Rattle.term_unify.specs.Graph.{nodes}
use Rattle.term_unify.specs.Order.{IsWalk}
use Rattle.term_unify.proofs.Walking.{Ordered}
use Rattle.term_unify.proofs.graph.Graph.order.Given as goal

abbrev pub invariant-loop-node : goal.invariant-loop-node
invariant-loop-node g l = record {
  walk : IsWalk g.T.Term (nodes l.self.terms.items) l.self.first.items l.classes l.walk.sizes.items l.walk.order.items;
  entered : l.walk.entered.items ≡ replicate (length l.classes) false;
  ordered : Ordered g.T.Term (nodes l.self.terms.items) l.classes l.walk.sizes.items l.free l.limit l.node;
}

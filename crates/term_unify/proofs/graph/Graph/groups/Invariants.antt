use Rattle.std.proofs.Common.{◌≡◌, ℕ, length, Some, [], Vec, Global}
use Rattle.std.specs.List.{slice_get}
use Rattle.term_unify.specs.Graph.{nodes}
use Rattle.term_unify.specs.Binding.{AreGroups}
use Rattle.term_unify.proofs.graph.Graph.groups.Given as goal

abbrev pub invariant-loop : goal.invariant-loop
invariant-loop g l = record {
  all : length l.groups.items ≡ l.index;
  none : (c : ℕ) (v : Vec ℕ Global) → slice_get l.groups.items c ≡ Some v → v.items ≡ [];
}

abbrev pub invariant-loop-node : goal.invariant-loop-node
invariant-loop-node g l = AreGroups g.T.Term (nodes l.self.terms.items) l.classes l.node l.groups.items

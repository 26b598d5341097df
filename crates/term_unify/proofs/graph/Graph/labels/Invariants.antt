use Rattle.std.proofs.Common.{◌≡◌, ◌<◌, ℕ, length}
use Rattle.std.specs.List.{slice_index}
use Rattle.term_unify.specs.Graph.{Shortened, Leads}
use Rattle.term_unify.proofs.graph.Graph.labels.Given as goal

abbrev pub invariant-loop-node : goal.invariant-loop-node
invariant-loop-node g l = record {
  shortened : Shortened l.initial.parent l.parent;
  all : length l.labels.items ≡ l.node;
  leads : (i : ℕ) → i < l.node → Leads l.initial.parent i (slice_index l.labels.items i);
  root : (i : ℕ) → i < l.node → slice_index l.initial.parent (slice_index l.labels.items i) ≡ slice_index l.labels.items i;
  within : (i : ℕ) → i < l.node → slice_index l.labels.items i < length l.initial.parent;
}

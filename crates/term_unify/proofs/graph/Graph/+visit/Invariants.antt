use Rattle.std.proofs.Common.{◌≡◌, ◌<◌, ◌≤◌, ◌+◌, ℕ, Some, true}
use Rattle.std.specs.List.{slice_index, slice_get}
use Rattle.term_unify.specs.Graph.{nodes}
use Rattle.term_unify.specs.Order.{IsWalk, sum_below}
use Rattle.term_unify.proofs.graph.Graph.+visit.Given as goal

abbrev pub invariant-loop-at : goal.invariant-loop-at
invariant-loop-at g l = record {
  walk : IsWalk g.T.Term (nodes l.self.terms.items) l.self.first.items l.classes l.walk.sizes.items l.walk.order.items;
  entered : l.walk.entered.items ≡ l.initial.walk.entered.items;
  kept : (r : ℕ) → 0 < slice_index l.initial.walk.sizes.items r → slice_index l.walk.sizes.items r ≡ slice_index l.initial.walk.sizes.items r;
  idle : (r : ℕ) → slice_get l.initial.walk.entered.items r ≡ Some true → slice_index l.initial.walk.sizes.items r ≡ 0 → slice_index l.walk.sizes.items r ≡ 0;
  small : (most : ℕ) → l.limit ≤ most → ((r : ℕ) → slice_index l.initial.walk.sizes.items r ≤ most) → (r : ℕ) → slice_index l.walk.sizes.items r ≤ most;
  done : (n : ℕ) → n < l.at → 0 < slice_index l.walk.sizes.items (slice_index l.classes (slice_index l.self.first.items l.root + n));
  size : l.size ≡ 1 + sum_below (λ n. slice_index l.walk.sizes.items (slice_index l.classes (slice_index l.self.first.items l.root + n))) l.at;
  bound : l.size ≤ l.limit;
}

abbrev pub decreases-visit : goal.decreases-visit
decreases-visit g l = l.limit

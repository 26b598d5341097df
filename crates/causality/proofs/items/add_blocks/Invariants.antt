use Rattle.std.proofs.Common.{◌≡◌, ◌++◌, ◌+◌, ◌≤◌, drop, length}
use Rattle.causality.specs.Items as spec
use Rattle.causality.proofs.items.add_blocks.Given as goal

abbrev pub invariant-loop-i : goal.invariant-loop-i
invariant-loop-i l = record { few : l.b ≤ l.i; so_far : l.out ++ spec.block_rows (length l.d.params + l.i) l.b (drop l.i l.d.places.names) ≡ l.initial.out ++ spec.block_rows (length l.d.params) 0 l.d.places.names }

use Rattle.std.proofs.Common.{◌≡◌, ℕ, take}
use Rattle.kahn_cells.specs.Groups as own
use Rattle.kahn_cells.proofs.groups.grouped.Given as goal

abbrev pub invariant-loop-of_item : goal.invariant-loop-of_item
invariant-loop-of_item l = record { counted : l.k ≡ l.of_item-index; so_far : (x : ℕ) → own.group l.done x ≡ own.numbers x (take l.of_item-index l.keys) }

use Rattle.std.proofs.Common.{◌≡◌, ℕ, take}
use Rattle.place_tables.specs.Groups as own
use Rattle.place_tables.proofs.groups.grouped.Given as goal

abbrev pub invariant-loop-of_item : goal.invariant-loop-of_item
invariant-loop-of_item l = record { counted : l.k ≡ l.of_item-index; so_far : (x : ℕ) → own.group l.done x ≡ own.numbers x (take l.of_item-index l.keys) }

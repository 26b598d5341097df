use Rattle.std.proofs.Common.{◌≡◌, ℕ, drop}
use Rattle.place_tables.specs.Groups as own
use Rattle.place_tables.proofs.groups.add_keys.Given as goal

abbrev pub invariant-loop-x : goal.invariant-loop-x
invariant-loop-x l = (y : ℕ) → own.keyed l.k y (drop l.x-index l.keys) (own.group l.groups y) ≡ own.keyed l.k y l.keys (own.group l.initial.groups y)

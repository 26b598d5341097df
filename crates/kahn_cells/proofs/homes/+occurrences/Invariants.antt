use Rattle.std.proofs.Common.{◌≡◌, ℕ, drop}
use Rattle.std.specs.Prelude.{nat_eq}
use Rattle.indexmap.specs.IndexMap.{get}
use Rattle.kahn_cells.specs.Homes as own
use Rattle.kahn_cells.proofs.homes.+occurrences.Given as goal

abbrev pub invariant-add_all_occurrences-loop-ck : goal.invariant-add_all_occurrences-loop-ck
invariant-add_all_occurrences-loop-ck l = (w : ℕ) → own.meet (get nat_eq l.homes w) (own.all_occur (drop l.ck-index l.all) l.p w) ≡ own.meet (get nat_eq l.initial.homes w) (own.all_occur l.all l.p w)

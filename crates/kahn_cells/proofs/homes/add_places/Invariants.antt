use Rattle.std.proofs.Common.{◌≡◌, ℕ, drop}
use Rattle.std.specs.Prelude.{nat_eq}
use Rattle.indexmap.specs.IndexMap.{get}
use Rattle.kahn_cells.specs.Homes as own
use Rattle.kahn_cells.proofs.homes.add_places.Given as goal

abbrev pub invariant-loop-ck : goal.invariant-loop-ck
invariant-loop-ck l = (w : ℕ) → own.meet (get nat_eq l.homes w) (own.terms_occur (drop l.ck-index l.all) l.p w) ≡ own.meet (get nat_eq l.initial.homes w) (own.terms_occur l.all l.p w)

use Rattle.std.proofs.Common.{◌≡◌, ℕ, drop}
use Rattle.std.specs.Prelude.{nat_eq}
use Rattle.indexmap.specs.IndexMap.{get}
use Rattle.ls_places.specs.Search as spec
use Rattle.ls_places.specs.Clocks.{or_else}
use Rattle.block_tables.proofs.signals.tested_outside.Given as goal

abbrev pub invariant-loop-named : goal.invariant-loop-named
invariant-loop-named l = (q : ℕ) → or_else (get nat_eq l.done q) (spec.tested_among l.d q (drop l.named-index l.d.places.names)) ≡ spec.tested_outside l.d q

use Rattle.std.proofs.Common.{◌≡◌, ℕ, drop}
use Rattle.std.specs.Prelude.{nat_eq}
use Rattle.indexmap.specs.IndexMap.{get}
use Rattle.block_tables.specs.Blocks as own
use Rattle.ls_places.specs.Search as spec
use Rattle.ls_places.specs.Clocks.{or_else}
use Rattle.block_tables.proofs.blocks.block_clocks.Given as goal

abbrev pub invariant-loop-whole : goal.invariant-loop-whole
invariant-loop-whole l = (m : ℕ) → or_else (get nat_eq l.done m) (own.noted (spec.all_clocks (drop l.whole-index l.all)) m) ≡ own.noted (spec.all_clocks l.all) m

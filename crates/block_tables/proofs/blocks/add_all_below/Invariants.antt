use Rattle.std.proofs.Common.{◌≡◌, ℕ, drop}
use Rattle.std.specs.Prelude.{nat_eq}
use Rattle.indexmap.specs.IndexMap.{get}
use Rattle.block_tables.specs.Blocks as own
use Rattle.ls_places.specs.Clocks.{or_else}
use Rattle.block_tables.proofs.blocks.add_all_below.Given as goal

abbrev pub invariant-loop-ck : goal.invariant-loop-ck
invariant-loop-ck l = (m : ℕ) → or_else (get nat_eq l.clocks m) (own.noted (drop l.ck-index l.all) m) ≡ or_else (get nat_eq l.initial.clocks m) (own.noted l.all m)

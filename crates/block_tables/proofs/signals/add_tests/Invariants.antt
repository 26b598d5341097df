use Rattle.std.proofs.Common.{◌≡◌, ℕ, drop}
use Rattle.std.specs.Prelude.{nat_eq}
use Rattle.indexmap.specs.IndexMap.{get}
use Rattle.block_tables.specs.Signals as own
use Rattle.ls_places.specs.Clocks.{or_else}
use Rattle.block_tables.proofs.signals.add_tests.Given as goal

abbrev pub invariant-loop-a : goal.invariant-loop-a
invariant-loop-a l = (q : ℕ) → or_else (get nat_eq l.tested q) (own.tests_in l.d l.p l.all (drop l.a-index l.p) q) ≡ or_else (get nat_eq l.initial.tested q) (own.tests_in l.d l.p l.all l.p q)

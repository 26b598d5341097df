use Rattle.std.specs.Prelude.{ℕ, nat_eq}
use Rattle.std.proofs.Common.{◌≡◌, drop}
use Rattle.indexmap.specs.IndexMap.{get}
use Rattle.type_infer.specs.Constructors.{or_later}
use Rattle.type_rules.specs.Files.{enumeration_of}
use Rattle.type_infer.proofs.cases.own_table.Given as goal

abbrev pub invariant-loop-def : goal.invariant-loop-def
invariant-loop-def l = (x : ℕ) → or_later (get nat_eq l.table x) (enumeration_of l.k (drop l.def-index l.defs) x) ≡ enumeration_of l.first l.defs x

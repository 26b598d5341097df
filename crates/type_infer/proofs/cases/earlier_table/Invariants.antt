use Rattle.std.specs.Prelude.{ℕ, nat_eq}
use Rattle.std.proofs.Common.{◌≡◌, drop}
use Rattle.indexmap.specs.IndexMap.{get}
use Rattle.type_infer.specs.Constructors.{or_later, enumeration_in}
use Rattle.type_infer.proofs.cases.earlier_table.Given as goal

abbrev pub invariant-loop-entry : goal.invariant-loop-entry
invariant-loop-entry l = (x : ℕ) → or_later (get nat_eq l.table x) (enumeration_in l.k (drop l.entry-index l.enums) x) ≡ enumeration_in 0 l.enums x

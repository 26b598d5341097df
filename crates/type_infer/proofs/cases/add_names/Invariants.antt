use Rattle.std.specs.Prelude.{ℕ, nat_eq, Some, None, if◌then◌else◌}
use Rattle.std.proofs.Common.{◌≡◌, drop}
use Rattle.indexmap.specs.IndexMap.{get}
use Rattle.type_infer.specs.Constructors.{or_later}
use Rattle.type_rules.specs.Files.{has_name}
use Rattle.type_infer.proofs.cases.add_names.Given as goal

abbrev pub invariant-loop-name : goal.invariant-loop-name
invariant-loop-name l =
    (x : ℕ) → or_later (get nat_eq l.table x) (if has_name x (drop l.name-index l.names) then Some l.k else None)
    ≡ or_later (get nat_eq l.initial.table x) (if has_name x l.names then Some l.k else None)

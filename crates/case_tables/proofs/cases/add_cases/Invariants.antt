use Rattle.std.proofs.Common.{◌≡◌, ◌++◌, drop}
use Rattle.case_tables.specs.Cases as spec
use Rattle.case_tables.proofs.cases.add_cases.Given as goal

abbrev pub invariant-loop-k : goal.invariant-loop-k
invariant-loop-k l = l.list.list ++ spec.places_from (drop l.k l.all) l.k ≡ l.initial.list.list ++ spec.places_from l.all 0

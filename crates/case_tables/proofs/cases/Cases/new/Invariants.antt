use Rattle.std.proofs.Common.{◌≡◌, ◌++◌, drop}
use Rattle.case_tables.specs.Cases as spec
use Rattle.case_tables.proofs.cases.Cases.new.Given as goal

abbrev pub invariant-loop-def : goal.invariant-loop-def
invariant-loop-def g l = l.places.list ++ spec.places (drop l.def-index l.defs) ≡ spec.places l.defs

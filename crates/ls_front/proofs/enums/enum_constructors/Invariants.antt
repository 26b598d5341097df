use Rattle.std.proofs.Common.{◌≡◌, ◌++◌, drop}
use Rattle.accepted_rules.specs.Enums as spec
use Rattle.ls_front.proofs.enums.enum_constructors.Given as goal

abbrev pub invariant-loop-def : goal.invariant-loop-def
invariant-loop-def g l = l.list ++ spec.enum_constructors (drop l.def-index l.defs) ≡ spec.enum_constructors l.defs

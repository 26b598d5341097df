use Rattle.std.proofs.Common.{◌≡◌, ◌++◌, drop}
use Rattle.accepted_rules.specs.Enums as spec
use Rattle.ls_front.proofs.enums.enum_names.Given as goal

abbrev pub invariant-loop-def : goal.invariant-loop-def
invariant-loop-def g l = l.list ++ spec.enum_names (drop l.def-index l.defs) ≡ spec.enum_names l.defs

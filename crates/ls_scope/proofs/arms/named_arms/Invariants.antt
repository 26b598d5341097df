use Rattle.std.proofs.Common.{◌≡◌, ◌+◌, ◌++◌, ◌∷◌, [], map, drop, take, length}
use Rattle.scope_rules.specs.Faults as spec
use Rattle.scope_rules.specs.Places.{joined, option_list}
use Rattle.ls_scope.proofs.arms.named_arms.Given as goal

abbrev pub invariant-loop-arm : goal.invariant-loop-arm
invariant-loop-arm l = l.done ++ spec.arm_cases_named l.names (drop l.arm-index l.arms) ≡ spec.arm_cases_named l.names l.arms

use Rattle.std.proofs.Common.{◌≡◌, ◌+◌, ◌++◌, ◌∷◌, [], map, drop, take, length}
use Rattle.std.specs.List.{list_any, list_all}
use Rattle.scope_rules.specs.Faults as spec
use Rattle.ls_scope.proofs.twice.repeated_arms.Given as goal

abbrev pub invariant-loop-arms : goal.invariant-loop-arms
invariant-loop-arms l = list_any (λ a. spec.repeated_case (spec.arm_cases_named l.names a)) (drop l.arms-index l.all) ≡ list_any (λ a. spec.repeated_case (spec.arm_cases_named l.names a)) l.all

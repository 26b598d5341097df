use Rattle.std.proofs.Common.{◌≡◌, ◌+◌, ◌++◌, ◌∷◌, [], map, drop, take, length}
use Rattle.std.specs.List.{list_any, list_all}
use Rattle.scope_rules.specs.Faults as spec
use Rattle.std.specs.Prelude.{not}
use Rattle.ls_scope.proofs.unbound.any_outside.Given as goal

abbrev pub invariant-loop-target : goal.invariant-loop-target
invariant-loop-target l = list_any (λ t. not (spec.among l.states t)) (drop l.target-index l.targets) ≡ list_any (λ t. not (spec.among l.states t)) l.targets

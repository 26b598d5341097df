use Rattle.std.proofs.Common.{◌≡◌, ◌+◌, ◌++◌, ◌∷◌, [], map, drop, take, length}
use Rattle.std.specs.List.{list_any, list_all}
use Rattle.scope_rules.specs.Faults as spec
use Rattle.std.specs.Prelude.{not}
use Rattle.ls_scope.proofs.arms.any_missing.Given as goal

abbrev pub invariant-loop-case : goal.invariant-loop-case
invariant-loop-case l = list_any (λ c. not (spec.is_there l.known c)) (drop l.case-index l.cases) ≡ list_any (λ c. not (spec.is_there l.known c)) l.cases

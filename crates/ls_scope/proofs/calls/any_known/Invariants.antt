use Rattle.std.proofs.Common.{◌≡◌, ◌+◌, ◌++◌, ◌∷◌, [], map, drop, take, length}
use Rattle.std.specs.List.{list_any, list_all}
use Rattle.scope_rules.specs.Faults as spec
use Rattle.std.specs.Prelude.{is_some}
use Rattle.ls_scope.proofs.calls.any_known.Given as goal

abbrev pub invariant-loop-case : goal.invariant-loop-case
invariant-loop-case l = list_any (λ c. is_some (spec.case_place 0 l.known.enums c)) (drop l.case-index l.cases) ≡ list_any (λ c. is_some (spec.case_place 0 l.known.enums c)) l.cases

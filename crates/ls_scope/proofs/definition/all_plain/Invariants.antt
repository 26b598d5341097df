use Rattle.std.proofs.Common.{◌≡◌, ◌+◌, ◌++◌, ◌∷◌, [], map, drop, take, length}
use Rattle.std.specs.List.{list_any, list_all}
use Rattle.scope_rules.specs.Faults as spec
use Rattle.ls_scope.proofs.definition.all_plain.Given as goal

abbrev pub invariant-loop-eq : goal.invariant-loop-eq
invariant-loop-eq g l = list_all spec.is_plain (drop l.eq-index l.all) ≡ list_all spec.is_plain l.all

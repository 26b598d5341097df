use Rattle.std.proofs.Common.{◌≡◌, ◌+◌, ◌++◌, ◌∷◌, [], map, drop, take, length}
use Rattle.std.specs.List.{list_any, list_all}
use Rattle.scope_rules.specs.Faults as spec
use Rattle.ls_scope.specs.Arms as arms
use Rattle.ls_scope.proofs.arms.covers_names.Given as goal

abbrev pub invariant-loop-name : goal.invariant-loop-name
invariant-loop-name l = list_all (arms.in_set l.set) (map spec.of_name (drop l.name-index l.names)) ≡ list_all (arms.in_set l.set) (map spec.of_name l.names)

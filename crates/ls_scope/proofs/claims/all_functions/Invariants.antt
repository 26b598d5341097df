use Rattle.std.proofs.Common.{◌≡◌, ◌+◌, ◌++◌, ◌∷◌, [], map, drop, take, length}
use Rattle.std.specs.List.{list_any, list_all}
use Rattle.scope_rules.specs.Claims as spec
use Rattle.ls_scope.proofs.claims.all_functions.Given as goal

abbrev pub invariant-loop-m : goal.invariant-loop-m
invariant-loop-m l = list_all spec.is_function (drop l.m-index l.marks) ≡ list_all spec.is_function l.marks

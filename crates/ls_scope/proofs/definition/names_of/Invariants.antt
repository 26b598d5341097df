use Rattle.std.proofs.Common.{◌≡◌, ◌+◌, ◌++◌, ◌∷◌, [], map, drop, take, length}
use Rattle.scope_rules.specs.Places as spec
use Rattle.ls_scope.proofs.definition.names_of.Given as goal

abbrev pub invariant-loop-pat : goal.invariant-loop-pat
invariant-loop-pat l = l.done ++ spec.joined (map spec.names_of (drop l.pat-index l.params)) ≡ spec.joined (map spec.names_of l.params)

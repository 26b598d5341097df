use Rattle.std.proofs.Common.{◌≡◌, ◌+◌, ◌++◌, ◌∷◌, [], map, drop, take, length}
use Rattle.scope_rules.specs.Places as spec
use Rattle.ls_scope.proofs.contents.+names.Given as goal

abbrev pub invariant-add_all_names-loop-pat : goal.invariant-add_all_names-loop-pat
invariant-add_all_names-loop-pat l = l.done ++ spec.joined (map spec.names_of (drop l.pat-index l.all)) ≡ l.initial.done ++ spec.joined (map spec.names_of l.all)

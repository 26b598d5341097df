use Rattle.std.proofs.Common.{◌≡◌, ◌+◌, ◌++◌, ◌∷◌, [], map, drop, take, length}
use Rattle.scope_rules.specs.Places as spec
use Rattle.ls_scope.proofs.contents.add_targets.Given as goal

abbrev pub invariant-loop-guard : goal.invariant-loop-guard
invariant-loop-guard g l = l.done ++ spec.guard_targets (drop l.guard-index l.all) ≡ l.initial.done ++ spec.guard_targets l.all

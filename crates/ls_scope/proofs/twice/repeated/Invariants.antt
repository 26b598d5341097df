use Rattle.std.proofs.Common.{◌≡◌, ◌+◌, ◌++◌, ◌∷◌, [], map, drop, take, length}
use Rattle.scope_rules.specs.Faults as spec
use Rattle.std.proofs.Common.{false}
use Rattle.ls_scope.proofs.twice.repeated.Given as goal

abbrev pub invariant-loop-x : goal.invariant-loop-x
invariant-loop-x l = (spec.repeated (take l.x-index l.all) ≡ false) × (l.seen ≡ take l.x-index l.all)

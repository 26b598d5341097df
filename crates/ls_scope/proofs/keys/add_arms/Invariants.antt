use Rattle.std.proofs.Common.{◌≡◌, ◌+◌, ◌++◌, ◌∷◌, [], map, drop, take, length}
use Rattle.ls_scope.specs.Keys as spec
use Rattle.ls_scope.proofs.keys.add_arms.Given as goal

abbrev pub invariant-loop-arm : goal.invariant-loop-arm
invariant-loop-arm l = l.key.items ++ spec.flat (drop l.arm-index l.list) ≡ l.initial.key.items ++ spec.flat l.list

use Rattle.std.proofs.Common.{◌≡◌, ◌+◌, ◌++◌, ◌∷◌, [], map, drop, take, length}
use Rattle.ls_scope.specs.Keys as spec
use Rattle.ls_scope.proofs.keys.Keys.place_seen.Given as goal

abbrev pub invariant-loop-arm : goal.invariant-loop-arm
invariant-loop-arm l = spec.along l.self l.key.items (drop l.arm-index l.place) l.best ≡ spec.first_seen l.self l.x l.place

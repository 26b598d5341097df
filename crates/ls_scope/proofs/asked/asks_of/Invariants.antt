use Rattle.std.proofs.Common.{◌≡◌, ◌+◌, ◌++◌, ◌∷◌, [], map, drop, take, length}
use Rattle.scope_rules.specs.Faults as spec
use Rattle.ls_scope.specs.Sight.{sight_of}
use Rattle.ls_scope.specs.Told.{told}
use Rattle.ls_scope.proofs.asked.asks_of.Given as goal

abbrev pub invariant-loop-reading : goal.invariant-loop-reading
invariant-loop-reading g l = l.done ≡ map (spec.asked_by (sight_of l.sight)) (map told (take l.reading-index l.readings))

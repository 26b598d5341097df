use Rattle.std.proofs.Common.{◌≡◌, ◌+◌, ◌++◌, ◌∷◌, [], map, drop, take, length}
use Rattle.ls_scope.specs.Sight.{sight_of}
use Rattle.ls_scope.specs.Told.{told}
use Rattle.scope_rules.specs.Resolved.{reading_uses}
use Rattle.scope_rules.specs.Places.{joined}
use Rattle.ls_scope.proofs.asked.uses_of.Given as goal

abbrev pub invariant-loop-reading : goal.invariant-loop-reading
invariant-loop-reading g l = l.done ++ joined (map (reading_uses (sight_of l.sight) l.sight.known.now) (map told (drop l.reading-index l.readings))) ≡ joined (map (reading_uses (sight_of l.sight) l.sight.known.now) (map told l.readings))

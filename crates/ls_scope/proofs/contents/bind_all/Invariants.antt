use Rattle.std.proofs.Common.{◌≡◌, ◌+◌, ◌++◌, ◌∷◌, [], map, drop, take, length}
use Rattle.scope_rules.specs.Places as spec
use Rattle.ls_scope.specs.Told.{built}
use Rattle.ls_scope.proofs.contents.bind_all.Given as goal

abbrev pub invariant-loop-x : goal.invariant-loop-x
invariant-loop-x g l = spec.bind_all g.row.N.Denot l.way l.w (drop l.x-index l.names) (built l.found) ≡ spec.bind_all g.row.N.Denot l.way l.w l.names (built l.initial.found)

use Rattle.std.proofs.Common.{◌≡◌, ◌++◌, drop}
use Rattle.ls_places.specs.Patterns.{joined}
use Rattle.kahn_cells.proofs.paths.join.Given as goal

abbrev pub invariant-loop-path : goal.invariant-loop-path
invariant-loop-path l = l.done ++ joined (drop l.path-index l.all) ≡ joined l.all

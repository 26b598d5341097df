use Rattle.std.proofs.Common.{◌≡◌, ◌++◌, drop}
use Rattle.ls_places.specs.Search as spec
use Rattle.kahn_cells.proofs.paths.paths_inside.Given as goal

abbrev pub invariant-loop-path : goal.invariant-loop-path
invariant-loop-path l = l.done ++ spec.paths_inside (l.m, l.j) (drop l.path-index l.all) ≡ spec.paths_inside (l.m, l.j) l.all

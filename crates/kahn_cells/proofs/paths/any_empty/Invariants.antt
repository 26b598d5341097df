use Rattle.std.proofs.Common.{◌≡◌, drop}
use Rattle.kahn_cells.specs.Paths as own
use Rattle.kahn_cells.proofs.paths.any_empty.Given as goal

abbrev pub invariant-loop-path : goal.invariant-loop-path
invariant-loop-path l = own.any_empty (drop l.path-index l.all) ≡ own.any_empty l.all

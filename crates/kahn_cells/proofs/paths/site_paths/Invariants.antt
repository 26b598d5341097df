use Rattle.std.proofs.Common.{◌≡◌, ◌++◌, drop}
use Rattle.kahn_cells.specs.Paths as own
use Rattle.kahn_cells.specs.Groups.{picked}
use Rattle.kahn_cells.proofs.paths.site_paths.Given as goal

abbrev pub invariant-loop-k : goal.invariant-loop-k
invariant-loop-k l = l.done ++ own.site_paths (picked l.sites (drop l.k-index l.numbers)) ≡ own.site_paths (picked l.sites l.numbers)

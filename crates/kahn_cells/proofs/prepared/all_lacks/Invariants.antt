use Rattle.std.proofs.Common.{◌≡◌, ◌++◌, ◌-◌, length}
use Rattle.kahn_cells.specs.Prepared as own
use Rattle.kahn_cells.proofs.prepared.all_lacks.Given as goal

abbrev pub invariant-loop-x : goal.invariant-loop-x
invariant-loop-x l = l.done ++ own.lacks_from l.d l.sites (length l.d.places.vars - l.x) l.x ≡ own.all_lacks l.d l.sites

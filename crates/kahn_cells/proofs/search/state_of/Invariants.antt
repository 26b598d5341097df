use Rattle.std.proofs.Common.{◌≡◌, drop}
use Rattle.ls_places.specs.Search as spec
use Rattle.kahn_cells.proofs.search.state_of.Given as goal

abbrev pub invariant-loop-s : goal.invariant-loop-s
invariant-loop-s l = record { counted : l.k ≡ l.s-index; so_far : spec.state_of l.x (drop l.s-index l.all) l.k ≡ spec.state_of l.x l.all 0 }

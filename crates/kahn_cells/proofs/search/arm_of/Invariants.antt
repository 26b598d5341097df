use Rattle.std.proofs.Common.{◌≡◌, drop}
use Rattle.ls_places.specs.Search as spec
use Rattle.kahn_cells.proofs.search.arm_of.Given as goal

abbrev pub invariant-loop-case : goal.invariant-loop-case
invariant-loop-case l = record { counted : l.j ≡ l.case-index; so_far : spec.arm_of l.k (drop l.case-index l.all) l.j ≡ spec.arm_of l.k l.all 0 }

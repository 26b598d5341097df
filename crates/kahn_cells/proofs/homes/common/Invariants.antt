use Rattle.std.proofs.Common.{◌≡◌, ◌++◌, drop}
use Rattle.ls_places.specs.Search as spec
use Rattle.kahn_cells.proofs.homes.common.Given as goal

abbrev pub invariant-loop-a : goal.invariant-loop-a
invariant-loop-a l = l.done ++ spec.common (drop l.a-index l.p) l.rest ≡ spec.common l.p l.q

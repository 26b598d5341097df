use Rattle.std.proofs.Common.{◌≡◌, ◌++◌, drop, take}
use Rattle.ls_places.specs.Search as spec
use Rattle.kahn_cells.proofs.homes.outside.Given as goal

abbrev pub invariant-loop-i : goal.invariant-loop-i
invariant-loop-i l = take l.i l.p ++ spec.outside l.m (drop l.i l.p) ≡ spec.outside l.m l.p

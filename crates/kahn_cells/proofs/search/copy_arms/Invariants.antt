use Rattle.std.proofs.Common.{◌≡◌, take}
use Rattle.kahn_cells.proofs.search.copy_arms.Given as goal

abbrev pub invariant-loop-a : goal.invariant-loop-a
invariant-loop-a l = l.done ≡ take l.a-index l.p

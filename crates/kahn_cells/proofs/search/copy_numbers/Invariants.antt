use Rattle.std.proofs.Common.{◌≡◌, take}
use Rattle.kahn_cells.proofs.search.copy_numbers.Given as goal

abbrev pub invariant-loop-k : goal.invariant-loop-k
invariant-loop-k l = l.done ≡ take l.k-index l.all

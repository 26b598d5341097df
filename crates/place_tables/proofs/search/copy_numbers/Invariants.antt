use Rattle.std.proofs.Common.{◌≡◌, take}
use Rattle.place_tables.proofs.search.copy_numbers.Given as goal

abbrev pub invariant-loop-k : goal.invariant-loop-k
invariant-loop-k l = l.done ≡ take l.k-index l.all

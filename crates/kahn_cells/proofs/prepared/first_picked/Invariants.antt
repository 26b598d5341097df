use Rattle.std.proofs.Common.{◌≡◌, drop}
use Rattle.kahn_cells.specs.Groups.{picked}
use Rattle.ls_places.specs.Search.{nth}
use Rattle.kahn_cells.proofs.prepared.first_picked.Given as goal

abbrev pub invariant-loop-k : goal.invariant-loop-k
invariant-loop-k l = nth (picked l.all (drop l.k-index l.numbers)) 0 ≡ nth (picked l.all l.numbers) 0

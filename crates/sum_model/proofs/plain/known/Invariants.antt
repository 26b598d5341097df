use Rattle.std.proofs.Common.{◌≡◌, map, take, Some}
use Rattle.sum_model.proofs.plain.known.Given as goal

abbrev pub invariant-loop-x : goal.invariant-loop-x
invariant-loop-x l = l.row.items ≡ map Some (take l.x-index l.inputs)

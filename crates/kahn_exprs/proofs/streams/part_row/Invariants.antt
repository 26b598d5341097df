use Rattle.std.proofs.Common.{◌≡◌, take}
use Rattle.kahn_exprs.specs.Streams as own
use Rattle.kahn_exprs.proofs.streams.part_row.Given as goal

abbrev pub invariant-loop-c : goal.invariant-loop-c
invariant-loop-c l = l.done ≡ own.part_row l.p l.x (take l.c-index l.cells)

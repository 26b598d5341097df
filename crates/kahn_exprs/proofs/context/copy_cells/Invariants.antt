use Rattle.std.proofs.Common.{◌≡◌, take}
use Rattle.kahn_exprs.proofs.context.copy_cells.Given as goal

abbrev pub invariant-loop-c : goal.invariant-loop-c
invariant-loop-c l = l.done ≡ take l.c-index l.cells

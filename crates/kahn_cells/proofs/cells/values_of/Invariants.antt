use Rattle.std.proofs.Common.{◌≡◌, take}
use Rattle.kahn_model.specs.Cells as spec
use Rattle.kahn_cells.proofs.cells.values_of.Given as goal

abbrev pub invariant-loop-c : goal.invariant-loop-c
invariant-loop-c l = l.done ≡ spec.values_in (take l.c-index l.cells)

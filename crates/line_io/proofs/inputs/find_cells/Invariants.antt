use Rattle.std.proofs.Common.{ℕ, ◌<◌, get_or}
use Rattle.line_io.specs.Cells.{CellAt}
use Rattle.line_io.specs.declared.form.Cell.{Cell}
use Rattle.line_io.proofs.inputs.find_cells.Given as goal

abbrev pub invariant-loop-at : goal.invariant-loop-at
invariant-loop-at l = (k : ℕ) (d : Cell) → k < l.at → CellAt l.fields l.readings k (get_or l.cells k d)

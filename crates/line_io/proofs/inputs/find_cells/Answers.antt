use Rattle.std.proofs.Common.{arith, get_or}
use Rattle.line_io.specs.declared.form.Cell.TheVariants.{Absent}
use Rattle.line_io.proofs.CellLemmas.{cell_found}
use Rattle.line_io.proofs.inputs.find_cells.Goals as goal

pub returns-in-None-clause-before : goal.returns-in-None-clause-before
returns-in-None-clause-before c at lt = (get_or c.loop-at.cells at Absent, c.loop-at.invariant at Absent lt)

pub returns-clause-all : goal.returns-clause-all
returns-clause-all c = cell_found c.args.fields.now c.args.readings.now c.loop-at.cells c.loop-at.at (omega arith) c.loop-at.invariant

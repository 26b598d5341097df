use Rattle.kahn_exprs.proofs.Standing.{cell_none, cell_some}
use Rattle.std.proofs.Common.{◌∙◌}
use Rattle.kahn_exprs.proofs.table.known.Goals as goal

pub returns-in-None : goal.returns-in-None
returns-in-None c = cell_none c.args.cells.now c.args.i c.in-None.ensures

pub returns-in-Some : goal.returns-in-Some
returns-in-Some c = c.as_ref.ensures.value ∙ cell_some c.args.cells.now c.args.i c.in-Some.c.now c.in-Some.ensures

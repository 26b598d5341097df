use Rattle.std.proofs.Common.{◌∙◌}
use Rattle.kahn_exprs.proofs.Standing.{row_none, row_some}
use Rattle.kahn_exprs.proofs.table.kept.Goals as goal

pub returns-in-None : goal.returns-in-None
returns-in-None c = row_none c.args.all.now c.args.k c.in-None.ensures

pub returns-in-Some : goal.returns-in-Some
returns-in-Some c = c.as_slice.ensures.value ∙ row_some c.args.all.now c.args.k c.in-Some.row.now c.in-Some.ensures

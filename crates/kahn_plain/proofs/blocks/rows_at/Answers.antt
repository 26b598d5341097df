use Rattle.std.proofs.Common.{◌∙◌}
use Rattle.kahn_plain.proofs.Guards.{rows_none, rows_some}
use Rattle.kahn_plain.proofs.blocks.rows_at.Goals as goal

pub returns-in-None : goal.returns-in-None
returns-in-None c = rows_none c.args.all.now c.args.k c.in-None.ensures

pub returns-in-Some : goal.returns-in-Some
returns-in-Some c = c.as_slice.ensures.value ∙ rows_some c.args.all.now c.args.k c.in-Some.rows.now c.in-Some.ensures

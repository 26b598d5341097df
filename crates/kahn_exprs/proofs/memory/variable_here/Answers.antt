use Rattle.std.specs.Prelude.{None, Some}
use Rattle.std.proofs.Common.{◌∙◌}
use Rattle.kahn_exprs.proofs.Here.{variable_at}
use Rattle.kahn_exprs.proofs.memory.variable_here.Goals as goal

pub returns-in-None : goal.returns-in-None
returns-in-None c = variable_at c.args.body.now c.args.x c.args.i None c.in-None.ensures

pub returns-in-Some : goal.returns-in-Some
returns-in-Some c = c.site_here.ensures ∙ variable_at c.args.body.now c.args.x c.args.i (Some c.in-Some.s.now) c.in-Some.ensures

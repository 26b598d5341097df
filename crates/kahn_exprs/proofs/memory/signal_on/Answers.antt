use Rattle.std.proofs.Common.{◌∙◌, ap, sym}
use Rattle.kahn_exprs.specs.Memory as own
use Rattle.kahn_exprs.proofs.memory.signal_on.Goals as goal

pub returns-in-Some : goal.returns-in-Some
returns-in-Some c = c.variable_here.ensures ∙ ap (λ z. own.signal_clock c.args.body.now c.args.x z c.args.i) (sym c.in-Some.is)

pub returns-in-None : goal.returns-in-None
returns-in-None c = c.parameter_on.ensures ∙ ap (λ z. own.signal_clock c.args.body.now c.args.x z c.args.i) (sym c.in-None.is)

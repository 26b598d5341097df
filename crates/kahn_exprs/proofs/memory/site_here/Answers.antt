use Rattle.std.proofs.Common.{◌∙◌, ap}
use Rattle.kahn_exprs.specs.Memory as own
use Rattle.kahn_exprs.proofs.Here.{part_here, pattern_here, whole_is_here}
use Rattle.kahn_exprs.proofs.memory.site_here.Goals as goal

pub returns-in-Part : goal.returns-in-Part
returns-in-Part c = c.whole_on.ensures ∙ ap (λ z. own.whole_on c.args.body.now z c.in-Part.k c.args.i) c.len.ensures.value
    ∙ part_here c.args.body.now c.args.s.now c.in-Part.field-0 c.in-Part.k c.args.i c.in-Part.is

pub returns-in-Whole : goal.returns-in-Whole
returns-in-Whole c = c.whole_on-in-Whole.ensures ∙ ap (λ z. own.whole_on c.args.body.now z c.in-Whole.k c.args.i) c.len-in-Whole.ensures.value
    ∙ whole_is_here c.args.body.now c.args.s.now c.in-Whole.k c.args.i c.in-Whole.is

pub returns-in-Pattern : goal.returns-in-Pattern
returns-in-Pattern c = c.active.ensures
    ∙ pattern_here c.args.body.now c.args.s.now c.in-Pattern.field-0 c.in-Pattern.field-1 c.as_slice.result.now c.args.i c.in-Pattern.is c.as_slice.ensures.value

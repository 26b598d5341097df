use Rattle.std.proofs.Common.{◌∙◌, sym, ap}
use Rattle.step_code.specs.Marks.{around as told}
use Rattle.step_code.specs.Valid as valid
use Rattle.step_code.proofs.lines.are_ready.Goals as goal

pub returns-in-Op2 : goal.returns-in-Op2
returns-in-Op2 c = c.two_ready.ensures ∙ ap (λ l. valid.are_ready (told c.args.around.now) c.args.earlier.now l) (sym c.in-Op2.is)

pub returns-in-Op3 : goal.returns-in-Op3
returns-in-Op3 c = c.three_ready.ensures ∙ ap (λ l. valid.are_ready (told c.args.around.now) c.args.earlier.now l) (sym c.in-Op3.is)

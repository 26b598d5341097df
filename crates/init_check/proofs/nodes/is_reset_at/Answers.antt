use Rattle.std.proofs.Common.{◌∙◌, sym}
use Rattle.init_check.proofs.Steps.{is_around}
use Rattle.init_check.proofs.nodes.is_reset_at.Goals as goal

pub returns-in-Some : goal.returns-in-Some
returns-in-Some c = λ e. is_around c.args.r c.args.place.now c.args.at c.in-Some.frame.now (sym c.in-Some.ensures) (sym c.is_reset.ensures ∙ e)

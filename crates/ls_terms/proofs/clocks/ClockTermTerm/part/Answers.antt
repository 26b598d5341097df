use Rattle.std.proofs.Common.{◌∙◌, ap, sym, Some}
use Rattle.ls_terms.specs.Clocks.{arrow_front, arrow_end}
use Rattle.ls_terms.proofs.clocks.ClockTermTerm.part.Goals as goal

pub returns-in-Some : goal.returns-in-Some
returns-in-Some c = arrow_front c.args.self.now c.args.at c.in-Arrow.all _ _ c.in-Arrow.is c.in-Some.ensures.value

pub returns-in-None : goal.returns-in-None
returns-in-None c = arrow_end c.args.self.now c.args.at c.in-Arrow.all _ c.in-Arrow.is c.in-None.ensures.value c.requires ∙ ap Some (sym c.get-in-None.ensures)

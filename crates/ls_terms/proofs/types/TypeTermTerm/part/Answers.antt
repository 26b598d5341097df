use Rattle.std.proofs.Common.{◌∙◌, ap, sym, Some}
use Rattle.ls_terms.specs.Types.{arrow_front, arrow_end, tuple_none}
use Rattle.ls_terms.proofs.types.TypeTermTerm.part.Goals as goal

pub returns-in-None : goal.returns-in-None
returns-in-None c = absurd (tuple_none c.args.self.now c.args.at c.in-Tuple.all c.in-Tuple.is c.in-None.ensures.value c.requires)

pub returns-in-Some-get : goal.returns-in-Some-get
returns-in-Some-get c = arrow_front c.args.self.now c.args.at _ c.in-Arrow.all _ _ c.in-Arrow.is c.in-Some-get.ensures.value

pub returns-in-None-get : goal.returns-in-None-get
returns-in-None-get c = arrow_end c.args.self.now c.args.at _ c.in-Arrow.all _ c.in-Arrow.is c.in-None-get.ensures.value c.requires ∙ ap Some (sym c.get-in-None-get.ensures)

use Rattle.std.proofs.Common.{◌∙◌, ap}
use Rattle.ls_places.specs.Search.{nth}
use Rattle.ls_places.specs.declared.definition.Definition.{Definition}
use Rattle.place_tables.specs.Tables.{param_in}
use Rattle.causality.proofs.Graphed.{no_param, some_param}
use Rattle.causality.proofs.blocks.param_clock.Goals as goal

pub returns-in-None : goal.returns-in-None
returns-in-None c = no_param c.args.d.now c.args.x (c.in-None.ensures ∙ ap (λ (z : Definition). param_in c.args.x z.params 0) c.tables.ensures)

pub returns-in-Some : goal.returns-in-Some
returns-in-Some c =
    c.nth.ensures ∙ ap (λ z. nth z c.in-Some.k) (c.as_slice.ensures.value ∙ ap (λ (z : Definition). z.clocks) c.definition.ensures)
    ∙ some_param c.args.d.now c.args.x c.in-Some.k (c.in-Some.ensures ∙ ap (λ (z : Definition). param_in c.args.x z.params 0) c.tables.ensures)

use Rattle.std.proofs.Common.{◌≡◌, ◌∙◌, ap, subst}
use Rattle.ls_places.specs.Search.{nth}
use Rattle.ls_places.specs.declared.definition.Definition.{Definition}
use Rattle.place_tables.specs.Tables as own
use Rattle.place_tables.proofs.Holding.{param_found}
use Rattle.place_tables.proofs.tables.Tables.param_of.Goals as goal

pub returns : goal.returns
returns c =
    subst (λ (z : Definition). c.copied.result ≡ own.param_in c.args.x z.params 0) c.self.view_is
    (c.copied.ensures ∙ c.nth.ensures ∙ ap (λ z. nth z 0) (c.group.ensures.value ∙ c.self.invariant.numbers_are.params c.args.x) ∙ param_found c.args.x c.self.inside.def.params)

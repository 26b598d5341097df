use Rattle.std.proofs.Common.{◌≡◌, ◌∙◌, ap, subst}
use Rattle.ls_places.specs.Search as spec
use Rattle.ls_places.specs.declared.definition.Definition.{Definition}
use Rattle.place_tables.specs.Groups as groups
use Rattle.place_tables.proofs.Grouping.{sites_picked}
use Rattle.place_tables.proofs.tables.Tables.sites_of.Goals as goal

pub returns : goal.returns
returns c =
    let sites = c.self.inside.def.places.sites in
    subst (λ (z : Definition). groups.picked z.places.sites c.group.result.now ≡ spec.sites_of c.args.x z.places.sites) c.self.view_is
    (ap (groups.picked sites) (c.group.ensures.value ∙ c.self.invariant.numbers_are.sites c.args.x) ∙ sites_picked c.args.x sites)

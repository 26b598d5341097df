use Rattle.std.specs.Option.{option_copied}
use Rattle.std.proofs.Common.{◌≡◌, ◌∙◌, ap, subst}
use Rattle.ls_places.specs.Search as spec
use Rattle.ls_places.specs.declared.definition.Definition.{Definition}
use Rattle.kahn_cells.specs.Groups as groups
use Rattle.kahn_cells.proofs.Grouping.{sites_picked}
use Rattle.kahn_cells.proofs.prepared.Prepared.first_site.Goals as goal

pub returns : goal.returns
returns c =
    let sites = c.self.inside.def.places.sites in
    subst (λ (z : Definition). option_copied c.first_picked.result ≡ spec.nth (spec.sites_of c.args.x z.places.sites) 0) c.self.view_is
    (c.first_picked.ensures ∙ ap (λ z. spec.nth (groups.picked z c.group.result.now) 0) c.as_slice.ensures.value
    ∙ ap (λ z. spec.nth z 0) (ap (groups.picked sites) (c.group.ensures ∙ c.self.invariant.numbers_are.sites c.args.x) ∙ sites_picked c.args.x sites))

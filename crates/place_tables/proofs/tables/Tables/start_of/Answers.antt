use Rattle.std.specs.Option.{option_copied}
use Rattle.std.proofs.Common.{◌≡◌, ◌∙◌, ap, subst}
use Rattle.ls_places.specs.Search as spec
use Rattle.ls_places.specs.declared.definition.Definition.{Definition}
use Rattle.place_tables.specs.Groups as groups
use Rattle.place_tables.proofs.Grouping.{starts_picked}
use Rattle.place_tables.proofs.tables.Tables.start_of.Goals as goal

pub returns : goal.returns
returns c =
    let w = c.args.w.now in
    let starts = c.self.inside.def.places.starts in
    subst (λ (z : Definition). option_copied c.start_among.result ≡ spec.start_of w z.places.starts) c.self.view_is
    (c.start_among.ensures ∙ ap (λ z. spec.start_of w (groups.picked z c.group.result.now)) c.as_slice.ensures.value
    ∙ ap (λ z. spec.start_of w (groups.picked starts z)) (c.group.ensures.value ∙ c.self.invariant.numbers_are.starts w.name) ∙ starts_picked w starts)

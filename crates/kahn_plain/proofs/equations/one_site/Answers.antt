use Rattle.std.proofs.Common.{◌≡◌, ◌∙◌, ap}
use Rattle.ls_places.specs.Search.{nth}
use Rattle.ls_places.specs.declared.definition.Definition.{Definition}
use Rattle.kahn_model.specs.Table.{written_row}
use Rattle.kahn_plain.specs.Equations as own
use Rattle.kahn_plain.proofs.Rights.{none_added, some_added}
use Rattle.kahn_plain.proofs.Sweeps.{ok_map}
use Rattle.kahn_plain.proofs.equations.one_site.Goals as goal

pub returns-in-None : goal.returns-in-None
returns-in-None g c = none_added c.args.body.now c.args.w.now c.args.k c.args.more
    (c.in-None.ensures ∙ ap (λ z. nth z c.args.k) (c.as_slice.ensures.value ∙ ap (λ (d : Definition). d.places.sites) c.definition.ensures))

pub returns-in_ok-cells-in-Some : goal.returns-in_ok-cells-in-Some
returns-in_ok-cells-in-Some g c =
    let b = c.args.body.now in
    ok_map c.site_row.result
    (λ r. r ≡ written_row b.lines 0 (own.by_site b c.args.w.now.signal c.as_slice-in-Some-2.result.now c.as_slice-in-Some-3.result.now c.as_slice-in-Some-4.result.now))
    (λ r. own.AddsSite b c.args.w.now c.args.k c.args.more r) c.site_row.ensures
    (λ r made. some_added b c.args.w.now c.args.k c.in-Some.s.now c.as_slice-in-Some.result.now c.as_slice-in-Some-2.result.now c.as_slice-in-Some-3.result.now c.args.more r
    (c.in-Some.ensures ∙ ap (λ z. nth z c.args.k) (c.as_slice.ensures.value ∙ ap (λ (d : Definition). d.places.sites) c.definition.ensures))
    (c.as_slice-in-Some-3.ensures.value ∙ c.in_ok-cells-in-Some.ensures) c.as_slice-in-Some.ensures.value c.as_slice-in-Some-2.ensures.value
    (made ∙ ap (λ z. written_row b.lines 0 (own.by_site b c.args.w.now.signal c.as_slice-in-Some-2.result.now c.as_slice-in-Some-3.result.now z)) c.as_slice-in-Some-4.ensures.value))

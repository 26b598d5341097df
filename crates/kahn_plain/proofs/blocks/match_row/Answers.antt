use Rattle.std.proofs.Common.{◌∙◌, ap}
use Rattle.ls_places.specs.Search.{nth}
use Rattle.ls_places.specs.declared.definition.Definition.{Definition}
use Rattle.kahn_plain.proofs.Rights.{match_none, match_some}
use Rattle.kahn_plain.proofs.Standing.{ok_same}
use Rattle.kahn_plain.proofs.blocks.match_row.Goals as goal

pub returns-in-None : goal.returns-in-None
returns-in-None g c = ok_same c.absent_row.result _ _ (match_none c.args.body.now c.args.k c.args.all.now
    (c.in-None.ensures ∙ ap (λ z. nth z c.args.k) (c.as_slice.ensures.value ∙ ap (λ (d : Definition). d.places.exprs) c.definition.ensures))) c.absent_row.ensures

pub returns-in-Some : goal.returns-in-Some
returns-in-Some g c = ok_same c.match_on.result _ _ (match_some c.args.body.now c.args.k c.in-Some.whole.now c.args.all.now
    (c.in-Some.ensures ∙ ap (λ z. nth z c.args.k) (c.as_slice.ensures.value ∙ ap (λ (d : Definition). d.places.exprs) c.definition.ensures))) c.match_on.ensures

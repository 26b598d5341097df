use Rattle.ls_places.specs.Search.{nth}
use Rattle.ls_places.specs.declared.definition.Definition.{Definition}
use Rattle.std.proofs.Common.{◌∙◌, ap}
use Rattle.kahn_plain.proofs.Rights.{never_is, whole_is}
use Rattle.kahn_plain.proofs.Standing.{ok_same}
use Rattle.kahn_plain.proofs.equations.whole_row.Goals as goal

pub returns-in-None : goal.returns-in-None
returns-in-None g c = ok_same c.absent_row.result _ _ (never_is c.args.body.now c.args.k
    (c.in-None.ensures ∙ ap (λ z. nth z c.args.k) (c.as_slice.ensures.value ∙ ap (λ (d : Definition). d.places.exprs) c.definition.ensures))) c.absent_row.ensures

pub returns-in-Some : goal.returns-in-Some
returns-in-Some g c = ok_same c.row.result _ _ (whole_is c.args.body.now c.args.k c.in-Some.whole.now c.as_slice-in-Some.result.now
    (c.in-Some.ensures ∙ ap (λ z. nth z c.args.k) (c.as_slice.ensures.value ∙ ap (λ (d : Definition). d.places.exprs) c.definition.ensures)) c.as_slice-in-Some.ensures.value) c.row.ensures

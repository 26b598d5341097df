use Rattle.std.proofs.Common.{◌∙◌, ap}
use Rattle.ls_places.specs.Search as search
use Rattle.ls_places.specs.declared.definition.Definition.{Definition}
use Rattle.kahn_exprs.specs.Body as spec
use Rattle.kahn_exprs.proofs.Here.{never_on, whole_here}
use Rattle.kahn_exprs.proofs.memory.whole_on.Goals as goal

pub returns-in-None : goal.returns-in-None
returns-in-None c = never_on c.args.body.now c.args.n c.args.k c.args.i
    (c.in-None.ensures ∙ ap (λ z. search.nth z c.args.k) (c.as_slice.ensures.value ∙ ap (λ (d : Definition). d.places.exprs) c.definition.ensures))

pub returns-in-Some : goal.returns-in-Some
returns-in-Some c =
    c.on.ensures ∙ ap (λ z. spec.on c.args.body.now z c.args.i) c.bare.ensures
    ∙ whole_here c.args.body.now c.args.n c.args.k c.args.i c.in-Some.whole.now
    (c.in-Some.ensures ∙ ap (λ z. search.nth z c.args.k) (c.as_slice.ensures.value ∙ ap (λ (d : Definition). d.places.exprs) c.definition.ensures))

use Rattle.std.proofs.Common.{◌∙◌, ap, sym}
use Rattle.ls_places.specs.Search as search
use Rattle.ls_places.specs.declared.definition.Definition.{Definition}
use Rattle.kahn_exprs.proofs.memory.arms_between.Goals as goal

pub returns-in-Some-nth : goal.returns-in-Some-nth
returns-in-Some-nth c =
    let p = c.args.p.now in
    c.arms_within.ensures ∙ ap (λ z. search.arms_within z p) (c.as_slice.ensures.value ∙ ap search.list_of (c.in-Some-nth.ensures
    ∙ ap (λ z. search.nth z c.in-Some.k) (c.as_slice-vars.ensures.value ∙ ap (λ (d : Definition). d.places.vars) c.definition.ensures)))
    ∙ ap (λ z. search.arms_within (search.signal_list_at c.args.body.now.def.now z) p) (sym c.in-Some.is)

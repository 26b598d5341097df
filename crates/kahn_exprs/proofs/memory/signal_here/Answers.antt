use Rattle.std.proofs.Common.{◌∙◌, ap}
use Rattle.ls_places.specs.Places as places
use Rattle.ls_places.specs.Search as search
use Rattle.kahn_exprs.specs.Body as spec
use Rattle.kahn_exprs.specs.Memory as own
use Rattle.kahn_exprs.proofs.Around.{in_arms_is}
use Rattle.kahn_exprs.proofs.memory.signal_here.Goals as goal

pub returns : goal.returns
returns c =
    let b = c.args.body.now in
    let x = c.args.x in
    let at = c.signal_at-at.result in
    let inner = c.as_slice-inner.ensures.value ∙ c.in_ok-p.ensures in
    c.in_arms.ensures ∙ ap (λ z. spec.in_arms_now b z c.arms_between.result.now c.args.i) c.signal_on-now.ensures
    ∙ in_arms_is b (own.signal_clock b x at) c.arms_between.result.now c.args.i
    ∙ ap (λ z. spec.in_arms b (own.signal_clock b x at) z c.args.i) (c.arms_between.ensures ∙ ap (own.arms_between b at) inner)
    ∙ ap (λ z. spec.in_arms b (own.signal_clock b x z) (own.arms_between b z (places.arms c.args.place.now)) c.args.i)
    (c.signal_at-at.ensures ∙ ap (search.signal_at b.def.now x) inner)

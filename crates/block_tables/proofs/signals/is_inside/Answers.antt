use Rattle.std.proofs.Common.{◌∙◌, ap}
use Rattle.ls_places.specs.Search as spec
use Rattle.block_tables.specs.Signals as own
use Rattle.block_tables.proofs.Seen.{signal_found}
use Rattle.block_tables.proofs.signals.is_inside.Goals as goal

pub returns-in-None : goal.returns-in-None
returns-in-None c =
    let d = c.args.d.now in
    let p = c.args.p.now in
    ap (λ z. spec.in_modes c.args.m (spec.signal_list_at d z)) (c.in-None.ensures ∙ ap (λ z. own.signal_among p z c.group.result.now) c.as_slice-all.ensures.value
    ∙ ap (own.signal_among p d.places.vars) (c.group.ensures.value ∙ c.requires c.args.x) ∙ signal_found c.args.x p d.places.vars)

pub returns-in-None-nth : goal.returns-in-None-nth
returns-in-None-nth c =
    let d = c.args.d.now in
    let p = c.args.p.now in
    ap (λ z. spec.in_modes c.args.m (spec.list_of z)) (c.in-None-nth.ensures ∙ ap (λ z. spec.nth z c.in-Some.k) c.as_slice-all.ensures.value)
    ∙ ap (λ z. spec.in_modes c.args.m (spec.signal_list_at d z)) (c.in-Some.ensures ∙ ap (λ z. own.signal_among p z c.group.result.now) c.as_slice-all.ensures.value
    ∙ ap (own.signal_among p d.places.vars) (c.group.ensures.value ∙ c.requires c.args.x) ∙ signal_found c.args.x p d.places.vars)

pub returns-in-Some-nth : goal.returns-in-Some-nth
returns-in-Some-nth c =
    let d = c.args.d.now in
    let p = c.args.p.now in
    c.in_modes.ensures ∙ ap (spec.in_modes c.args.m) c.as_slice.ensures.value
    ∙ ap (λ z. spec.in_modes c.args.m (spec.list_of z)) (c.in-Some-nth.ensures ∙ ap (λ z. spec.nth z c.in-Some.k) c.as_slice-all.ensures.value)
    ∙ ap (λ z. spec.in_modes c.args.m (spec.signal_list_at d z)) (c.in-Some.ensures ∙ ap (λ z. own.signal_among p z c.group.result.now) c.as_slice-all.ensures.value
    ∙ ap (own.signal_among p d.places.vars) (c.group.ensures.value ∙ c.requires c.args.x) ∙ signal_found c.args.x p d.places.vars)

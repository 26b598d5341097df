use Rattle.std.proofs.Common.{◌∙◌, ap, length}
use Rattle.ls_places.specs.declared.definition.Definition.{Definition}
use Rattle.kahn_plain.proofs.Sweeps.{four_by, turn_mono}
use Rattle.kahn_plain.proofs.turns.sweep.Goals as goal

pub returns : goal.returns
returns g c =
    let b = c.args.body.now in
    let d = c.definition-def.ensures in
    four_by b (turn_mono b c.turns_are_monotone.ensures.turn c.turns_are_monotone.ensures.meaning)
    c.args.rows.now c.renew_kind.new.rows c.renew_kind-2.new.rows c.renew_kind-3.new.rows c.renew_kind-4.new.rows
    c.in_ok-a.a c.in_ok-b.b c.in_ok-c.c c.in_ok-d.d c.or.result c.or-2.result c.or-3.result
    c.len.result c.len-2.result c.len-3.result c.len-4.result c.len-first.result
    (c.len.ensures.value ∙ ap (λ (d : Definition). length d.places.vars) d) (c.len-2.ensures.value ∙ ap (λ (d : Definition). length d.places.vars) d)
    (c.len-3.ensures.value ∙ ap (λ (d : Definition). length d.places.names) d) (c.len-4.ensures.value ∙ ap (λ (d : Definition). length d.places.resets) d)
    (c.len-first.ensures.value ∙ ap (λ (d : Definition). length d.params) d)
    c.in_ok-a.ensures c.in_ok-b.ensures c.in_ok-c.ensures c.in_ok-d.ensures c.or.ensures c.or-2.ensures c.or-3.ensures

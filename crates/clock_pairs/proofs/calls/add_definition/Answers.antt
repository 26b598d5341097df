use Rattle.std.proofs.Common.{◌∙◌, ◌++◌, ap, sym, map, length}
use Rattle.std.specs.Prelude.{refl}
use Rattle.clock_pairs.proofs.Calling.{definition_told}
use Rattle.clock_pairs.specs.Scene as spec
use Rattle.clock_pairs.specs.Terms.{name_at}
use Rattle.clock_rules.specs.Rules.{at}
use Rattle.clock_rules.specs.Terms.{instance}
use Rattle.clock_pairs.proofs.calls.add_definition.Goals as goal

pub returns : goal.returns
returns g c =
    let P = g.C.CasePlaces.place in
    let s = c.args.scene.now in
    let args = c.args.args.now in
    definition_told P s args c.args.by.now c.args.note.now c.args.holds c.args.scheme.now c.as_slice.result.now c.as_slice-5.result.now (length args)
    (c.as_slice.ensures.value ∙ c.in_ok-names.ensures)
    (c.as_slice-5.ensures.value ∙ c.in_ok-params.ensures ∙ (λ i. map (instance (name_at c.as_slice.result.now) (at c.args.by.now)) (c.as_slice-2.ensures.value i)))
    refl
    c.add_result.result c.args.out.now c.add_meet.new.out c.add_named.new.out c.add_result.new.out
    (c.in_ok-add_meet.ensures ∙ ap (λ z. c.args.out.now ++ spec.meet P s z args) (c.as_slice-3.ensures.value ∙ sym c.as_slice-5.ensures.value))
    (c.in_ok-add_named.ensures ∙ ap (λ z. c.add_meet.new.out ++ spec.named_pairs P s args z) c.as_slice-4.ensures.value)
    c.add_result.ensures

use Rattle.std.proofs.Common.{◌∙◌, ◌-◌, ◌<◌, ap, length, subst, sym}
use Rattle.digraph.specs.Marks.{marked}
use Rattle.ls_places.specs.declared.definition.Definition.{Definition}
use Rattle.init_rules.specs.Nodes.{counts, whole_node}
use Rattle.init_rules.specs.Searches as spec
use Rattle.init_check.proofs.Decide.{initialised, long, one_below, uninitialised, whole_is_node}
use Rattle.init_check.proofs.judge.decide.Goals as goal

pub returns-then-is_marked : goal.returns-then-is_marked
returns-then-is_marked c =
    uninitialised c.args.d.now c.args.sigs.now c.args.known.now c.in_ok-wrong.wrong.items c.in_ok-graph.graph c.requires.stands c.requires.params c.in_ok-graph.ensures c.in_ok-wrong.ensures.marks
    (ap (λ z. marked z 0) (sym c.deref.ensures.value) ∙ sym c.is_marked.ensures ∙ c.if-is_marked.true)

pub reached-requires-2 : goal.reached-requires-2
reached-requires-2 c =
    let d = c.args.d.now in
    one_below c.whole_node-result.result (length c.in_ok-graph.graph)
    (subst (λ z. c.whole_node-result.result < z) (sym (long d c.args.sigs.now c.in_ok-graph.graph c.in_ok-graph.ensures))
    (whole_is_node d (c.len-last.result - 1) c.whole_node-result.result (c.whole_node-result.ensures ∙ ap (λ (z : Definition). whole_node (counts z) (c.len-last.result - 1)) c.definition-2.ensures)))

pub returns : goal.returns
returns c =
    let d = c.args.d.now in
    initialised d c.args.sigs.now c.args.known.now c.in_ok-wrong.wrong.items c.in_ok-out.out.items c.in_ok-graph.graph c.in_ok-signature.field-0 c.whole_node-result.result
    c.requires.stands c.requires.params c.in_ok-graph.ensures c.in_ok-wrong.ensures.marks
    (ap (λ z. marked z 0) (sym c.deref.ensures.value) ∙ sym c.is_marked.ensures ∙ c.if-is_marked.false)
    (c.whole_node-result.ensures ∙ ap (λ (z : Definition). whole_node (counts z) (c.len-last.result - 1)) c.definition-2.ensures
    ∙ ap (λ z. whole_node (counts d) (z - 1)) (c.len-last.ensures.value ∙ ap (λ (z : Definition). length z.places.exprs) c.definition.ensures))
    c.in_ok-out.ensures.marks
    (c.in_ok-signature.ensures ∙ ap (λ (z : Definition). spec.signature (counts z) c.deref-2.result.now c.deref-3.result.now c.args.known.now) c.definition-3.ensures
    ∙ ap (λ z. spec.signature (counts d) z c.deref-3.result.now c.args.known.now) c.deref-2.ensures.value
    ∙ ap (λ z. spec.signature (counts d) c.in_ok-wrong.wrong.items z c.args.known.now) c.deref-3.ensures.value)

use Rattle.std.proofs.Common.{◌≡◌, ◌∙◌, ◌++◌, ◌<◌, ap, get_or, length, subst, sym}
use Rattle.ls_places.specs.declared.definition.Definition.{Definition}
use Rattle.init_check.specs.Rows as own
use Rattle.init_check.proofs.Steps.{nodes_next, variable_at}
use Rattle.init_check.proofs.graph.add_variable_zeros.Goals as goal

pub loop-k-preserved : goal.loop-k-preserved
loop-k-preserved c =
    let vars = c.as_slice-w-items.ensures.value ∙ ap (λ (z : Definition). z.places.vars) c.definition.ensures in
    let here = subst (λ z. c.loop-k.k < length z) vars c.loop-k-test.true in
    let at = subst (λ z. get_or z c.loop-k.k c.w-item.result ≡ c.w-item.result) vars (sym c.w-item.is) in
    nodes_next (own.variable_zero_nodes c.args.d.now) (length c.args.d.now.places.vars) c.loop-k.k c.loop-k.out c.add_variable_zero.new.out _ here
    (c.in_ok-add_variable_zero.ensures ∙ ap (λ z. c.loop-k.out ++ z) (variable_at c.args.d.now c.loop-k.k c.w-item.result here at)) c.loop-k.invariant

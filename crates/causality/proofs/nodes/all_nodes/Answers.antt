use Rattle.std.proofs.Common.{◌∙◌, ◌++◌, ◌∷◌, [], ap}
use Rattle.causality.specs.Nodes.{counts}
use Rattle.causality.specs.declared.nodes.Node.TheVariants as node
use Rattle.causality.proofs.Pushed.{all_made}
use Rattle.causality.proofs.nodes.all_nodes.Goals as goal

pub returns : goal.returns
returns c =
    all_made (counts c.args.d.now) c.push.new.self c.add_made.new.out c.add_made-2.new.out c.add_made-3.new.out c.add_made-4.new.out c.add_made-5.new.out
    c.len-vars.result c.len.result c.len-2.result c.len-3.result c.len-4.result c.len-vars.ensures.value c.len.ensures.value c.len-2.ensures.value c.len-3.ensures.value c.len-4.ensures.value
    (c.in_ok-push.ensures.ok ∙ ap (λ z. z ++ node.Nothing ∷ []) c.new-out.ensures)
    c.in_ok-add_made.ensures c.in_ok-add_made-2.ensures c.in_ok-add_made-3.ensures c.in_ok-add_made-4.ensures c.in_ok-add_made-5.ensures

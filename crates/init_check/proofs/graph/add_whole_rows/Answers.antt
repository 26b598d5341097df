use Rattle.std.proofs.Common.{◌≡◌, ◌∙◌, ◌<◌, ap, get_or, length, subst, sym}
use Rattle.ls_places.specs.declared.definition.Definition.{Definition}
use Rattle.init_rules.specs.Nodes as spec
use Rattle.init_check.proofs.Steps.{mapped_next}
use Rattle.init_check.proofs.graph.add_whole_rows.Goals as goal

pub loop-whole-preserved : goal.loop-whole-preserved
loop-whole-preserved c =
    let exprs = c.as_slice-whole-items.ensures.value ∙ ap (λ (z : Definition). z.places.exprs) c.definition.ensures in
    record {
      nodes = c.in_ok-add_whole_row.ensures.nodes;
      so_far = mapped_next (spec.whole_row c.args.d.now c.args.sigs.now) c.args.d.now.places.exprs c.loop-whole.whole-index c.whole-item.result c.loop-whole.rows.1 c.add_whole_row.new.rows.1 _
          (subst (λ z. c.loop-whole.whole-index < length z) exprs c.loop-whole-test.true)
          (subst (λ z. get_or z c.loop-whole.whole-index c.whole-item.result ≡ c.whole-item.result) exprs (sym c.whole-item.is))
          c.in_ok-add_whole_row.ensures.rows c.loop-whole.invariant.so_far;
    }

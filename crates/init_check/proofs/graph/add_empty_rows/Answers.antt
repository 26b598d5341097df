use Rattle.std.proofs.Common.{◌∙◌, ap}
use Rattle.init_check.specs.Rows.{Made}
use Rattle.init_check.proofs.Steps.{empty_next}
use Rattle.init_check.proofs.graph.add_empty_rows.Goals as goal

pub loop-k-preserved : goal.loop-k-preserved
loop-k-preserved c = record {
  nodes = ap (λ (z : Made). z.0) c.in_ok-add.ensures.ok ∙ c.loop-k.invariant.nodes;
  so_far = empty_next c.args.many c.loop-k._k c.loop-k.rows.1 c.add.new.self.1 _ c.loop-k-test.true (ap (λ (z : Made). z.1) c.in_ok-add.ensures.ok) c.loop-k.invariant.so_far;
}

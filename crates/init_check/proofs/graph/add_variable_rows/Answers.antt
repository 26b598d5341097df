use Rattle.std.proofs.Common.{◌∙◌, ◌<◌, ap, length, subst}
use Rattle.ls_places.specs.declared.definition.Definition.{Definition}
use Rattle.init_check.specs.Rows as own
use Rattle.init_check.proofs.Steps.{rows_next}
use Rattle.init_check.proofs.graph.add_variable_rows.Goals as goal

pub loop-k-preserved : goal.loop-k-preserved
loop-k-preserved c = record {
  nodes = c.in_ok-add_variable_row.ensures.nodes;
  so_far = rows_next (own.variable_nodes c.args.d.now) (length c.args.d.now.places.vars) c.loop-k.k c.loop-k.rows.1 c.add_variable_row.new.rows.1 _
      (subst (λ z. c.loop-k.k < z) (c.len-k-end.ensures.value ∙ ap (λ (z : Definition). length z.places.vars) c.definition.ensures) c.loop-k-test.true)
      c.in_ok-add_variable_row.ensures.rows c.loop-k.invariant.so_far;
}

use Rattle.std.proofs.Common.{◌∙◌}
use Rattle.init_rules.proofs.Below.{graph_is_there}
use Rattle.init_check.proofs.Decide.{within}
use Rattle.init_check.proofs.graph.add_zero_row.Goals as goal

pub add-requires : goal.add-requires
add-requires c =
    within c.args.d.now c.args.rows.now.0 _ c.as_slice.result.now c.requires.nodes (c.as_slice.ensures.value ∙ c.in_ok-row.ensures) (graph_is_there c.args.d.now c.args.sigs.now).zeros

use Rattle.std.proofs.Common.{◌∙◌, ◌++◌, ap}
use Rattle.init_rules.proofs.Below.{graph_is_there}
use Rattle.init_check.specs.Walks.{sources}
use Rattle.init_check.proofs.Decide.{within}
use Rattle.init_check.proofs.graph.add_whole_row.Goals as goal

pub add-requires : goal.add-requires
add-requires c =
    let d = c.args.d.now in
    let sigs = c.args.sigs.now in
    within d c.args.rows.now.0 _ c.as_slice-2.result.now c.requires.nodes
    (c.as_slice-2.ensures.value ∙ c.in_ok-add_sources.ensures ∙ ap (λ z. z ++ sources d sigs c.as_slice.result.now c.args.whole.now.expr) c.new-row.ensures
    ∙ ap (λ z. sources d sigs z c.args.whole.now.expr) c.as_slice.ensures.value) ((graph_is_there d sigs).wholes c.args.whole.now)

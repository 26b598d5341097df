use Rattle.std.proofs.Common.{◌∙◌, ◌++◌, ap, length, map, sym}
use Rattle.ls_places.specs.Search.{count_up}
use Rattle.init_rules.specs.Nodes as spec
use Rattle.init_check.specs.Rows as own
use Rattle.init_check.proofs.Decide.{long, rows_are}
use Rattle.init_check.proofs.graph.graph.Goals as goal

pub finish-requires : goal.finish-requires
finish-requires c =
    let d = c.args.d.now in
    let sigs = c.args.sigs.now in
    let vs = map (own.variable_nodes d) (count_up (length d.places.vars) 0) in
    let is = map (own.initial_nodes d) d.places.vars in
    let ws = map (spec.whole_row d sigs) d.places.exprs in
    long d sigs c.add_whole_rows.new.rows.1
    (c.in_ok-add_whole_rows.ensures.rows ∙ ap (λ z. z ++ ws) (c.in_ok-add_initial_rows.ensures.rows ∙ ap (λ z. z ++ is)
    (c.in_ok-add_variable_rows.ensures.rows ∙ ap (λ z. z ++ vs) c.in_ok-rows.ensures.rows)) ∙ rows_are d sigs) ∙ sym c.in_ok-add_whole_rows.ensures.nodes

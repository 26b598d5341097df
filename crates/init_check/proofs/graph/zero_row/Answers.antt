use Rattle.std.proofs.Common.{◌∙◌, ◌++◌, ℕ, List, ap, length, map}
use Rattle.ls_places.specs.declared.definition.Definition.{Definition}
use Rattle.ls_places.specs.Patterns.{joined}
use Rattle.ls_places.specs.Search.{count_up}
use Rattle.init_rules.specs.Nodes as spec
use Rattle.init_rules.specs.Nodes.{counts}
use Rattle.init_check.specs.Rows as own
use Rattle.init_check.proofs.ZeroRow.{zero_row_is}
use Rattle.init_check.proofs.graph.zero_row.Goals as goal

abbrev sites : Definition → List ℕ
sites d = joined (map (own.site_zero_nodes d) d.places.sites)

abbrev variables : Definition → List ℕ
variables d = joined (map (own.variable_zero_nodes d) (count_up (length d.places.vars) 0))

abbrev named : Definition → List ℕ
named d = joined (map (spec.named_row (counts d)) d.places.names)

abbrev resets : Definition → List ℕ
resets d = map (spec.whole_node (counts d)) d.places.resets

pub returns : goal.returns
returns c =
    let d = c.args.d.now in
    let exprs = joined (map (spec.expr_zero_row d c.args.sigs.now) d.places.exprs) in
    let one = c.in_ok-add_expr_zeros.ensures ∙ ap (λ z. z ++ exprs) c.new-row.ensures in
    let two = c.in_ok-add_site_zeros.ensures ∙ ap (λ z. z ++ sites c.definition.result.now) one ∙ ap (λ z. exprs ++ sites z) c.definition.ensures in
    let three = c.in_ok-add_variable_zeros.ensures ∙ ap (λ z. z ++ variables d) two in
    let four = c.in_ok-add_all_named.ensures ∙ ap (λ z. z ++ named c.definition-2.result.now) three ∙ ap (λ z. ((exprs ++ sites d) ++ variables d) ++ named z) c.definition-2.ensures in
    c.in_ok-add_resets.ensures ∙ ap (λ z. z ++ resets c.definition-3.result.now) four
    ∙ ap (λ z. (((exprs ++ sites d) ++ variables d) ++ named d) ++ resets z) c.definition-3.ensures ∙ zero_row_is d c.args.sigs.now

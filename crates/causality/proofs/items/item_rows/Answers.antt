use Rattle.std.proofs.Common.{◌∙◌, ◌++◌, ap, append_assoc, length, sym}
use Rattle.ls_places.specs.declared.definition.Definition.{Definition}
use Rattle.causality.specs.Items as spec
use Rattle.causality.proofs.ItemRows.{items_are}
use Rattle.causality.proofs.items.item_rows.Goals as goal

pub returns : goal.returns
returns c =
    let d = c.args.d.now in
    let blocks = spec.block_rows (length d.params) 0 d.places.names in
    let vars = c.in_ok-add_vars.ensures ∙ ap (λ z. z ++ spec.var_rows c.definition.result.now) c.new-out.ensures ∙ ap spec.var_rows c.definition.ensures in
    let initials = c.in_ok-add_initials.ensures ∙ ap (λ z. z ++ spec.initial_rows d) vars in
    c.in_ok-add_blocks.ensures
    ∙ ap (λ (z : Definition). c.add_initials.new.out ++ spec.block_rows (length z.params) 0 z.places.names) c.definition-2.ensures
    ∙ ap (λ z. z ++ blocks) initials ∙ append_assoc (spec.var_rows d) (spec.initial_rows d) blocks ∙ sym (items_are d)

use Rattle.std.proofs.Common.{◌∙◌, ◌<◌, get_or, refl, subst, sym}
use Rattle.std.proofs.Math.ListN.{length-set}
use Rattle.ls_places.specs.declared.definition.Key.TheVariants as key
use Rattle.ls_sig.specs.declared.sigs.Item.TheVariants as item
use Rattle.place_tables.proofs.Lists.{get_any}
use Rattle.causality.specs.Items.{Rowed}
use Rattle.causality.specs.Nodes.{counts, total}
use Rattle.causality.proofs.Known.{key_below}
use Rattle.causality.proofs.Tabled.{table_step}
use Rattle.causality.proofs.cycles.table.Goals as goal

pub loop-row-preserved : goal.loop-row-preserved
loop-row-preserved c =
    let d = c.args.d.now in
    let i = c.loop-row.row-index in
    let rows = c.args.rows.now in
    let none : Rowed = (item.Var 0, key.Var 0) in
    let r : Rowed = get_or rows i none in
    let n = c.key_node.result in
    let below = subst (λ z. n < z) (sym c.loop-row.invariant.all) (subst (λ z. z < total (counts d)) (sym c.key_node.ensures) (key_below (counts d) r.1)) in
    record {
      all = length-set c.loop-row.table.items n _ ∙ c.loop-row.invariant.all;
      so_far = table_step d rows i c.loop-row.table.items _ r n c.loop-row-test.true (get_any rows i none c.loop-row-test.true) c.key_node.ensures below refl c.loop-row.invariant.so_far;
    }

use Rattle.kahn_plain.proofs.Sweeps.{merged_more}
use Rattle.kahn_plain.proofs.turns.merge.Goals as goal

pub loop-i-preserved : goal.loop-i-preserved
loop-i-preserved c = merged_more c.args.key c.loop-i.i c.args.cells.now c.args.rows.now c.loop-i.rows c.merge_cell.new.rows c.loop-i.more c.in_ok-put.put c.or-more.result
    c.loop-i.invariant c.in_ok-put.ensures c.or-more.ensures

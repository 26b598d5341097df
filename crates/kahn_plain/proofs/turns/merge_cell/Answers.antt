use Rattle.std.proofs.Common.{sym, ◌∙◌}
use Rattle.kahn_plain.proofs.Sweeps.{put_merged}
use Rattle.kahn_plain.proofs.turns.merge_cell.Goals as goal

pub returns-in-Some-2 : goal.returns-in-Some-2
returns-in-Some-2 c = put_merged c.args.key c.args.i c.args.cells.now c.args.rows.now c.put.new.self c.in-Some-2.c c.put.result
    (sym c.in-Some-2.is ∙ c.in_ok-cell_in-in-None.ensures) c.in-None.ensures c.put.ensures.put c.put.ensures.there c.put.ensures.lengths

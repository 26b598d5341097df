use Rattle.std.proofs.Common.{[], ◌∷◌}
use Rattle.line_io.specs.Rows.{cell_text}
use Rattle.line_io.proofs.RowLemmas.{begins_then, front_then, front_some}
use Rattle.line_io.proofs.row.put_next.Goals as goal

pub returns-in-Err-clause-front : goal.returns-in-Err-clause-front
returns-in-Err-clause-front g c = front_some _ _ c.args.pending.now.items (32 ∷ []) (cell_text c.args.form.now c.args.cell.now) c.in-Err.ensures.front

pub returns-in-Ok-clause-all : goal.returns-in-Ok-clause-all
returns-in-Ok-clause-all g c =
    begins_then _ _ _ c.args.pending.now.items (32 ∷ []) (cell_text c.args.form.now c.args.cell.now) _ _ c.in_default.ensures.all c.in-Ok.ensures.all

pub returns-in-Err-put_cell-clause-front : goal.returns-in-Err-put_cell-clause-front
returns-in-Err-put_cell-clause-front g c =
    front_then _ _ _ c.args.pending.now.items (32 ∷ []) (cell_text c.args.form.now c.args.cell.now) _ c.in_default.ensures.all c.in-Err-put_cell.ensures.front

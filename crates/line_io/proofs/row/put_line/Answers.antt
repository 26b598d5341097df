use Rattle.std.proofs.Common.{◌∷◌, []}
use Rattle.line_io.specs.Rows.{cells_text}
use Rattle.line_io.proofs.RowLemmas.{begins_then, front_then, front_some}
use Rattle.line_io.proofs.row.put_line.Goals as goal

pub returns-in-Err-clause-front : goal.returns-in-Err-clause-front
returns-in-Err-clause-front g c = front_some _ _ c.args.pending.now.items (cells_text c.args.form.now c.args.cells.now) (10 ∷ []) c.in-Err.ensures.front

pub returns-in-Ok-clause-all : goal.returns-in-Ok-clause-all
returns-in-Ok-clause-all g c =
    begins_then _ _ _ c.args.pending.now.items (cells_text c.args.form.now c.args.cells.now) (10 ∷ []) _ _ c.in_default.ensures.all c.in-Ok.ensures.all

pub returns-in-Err-put-clause-front : goal.returns-in-Err-put-clause-front
returns-in-Err-put-clause-front g c =
    front_then _ _ _ c.args.pending.now.items (cells_text c.args.form.now c.args.cells.now) (10 ∷ []) _ c.in_default.ensures.all c.in-Err-put.ensures.front

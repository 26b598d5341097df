use Rattle.std.proofs.Common.{ℕ, ◌++◌, List, subst, arith}
use Rattle.ls_base.specs.Outside.{WritesFront}
use Rattle.line_io.specs.Rows.{Begins}
use Rattle.line_io.proofs.RowLemmas.{begins_then, front_then, cells_split}
use Rattle.line_io.proofs.row.put_cells.Goals as goal

pub returns-in-Ok-clause-all : goal.returns-in-Ok-clause-all
returns-in-Ok-clause-all g c =
    subst (λ (zs : List ℕ). Begins (g.K.Sink.written c.args.out.now) (c.args.pending.now.items ++ zs) (g.K.Sink.written c.put_rest.new.out) c.put_rest.new.pending.items) (cells_split c.args.form.now c.args.cells.now c.first-item.result c.first-item.is (omega arith))
    (begins_then _ _ _ c.args.pending.now.items _ _ _ _ c.in_default-put_cell.ensures.all c.in-Ok.ensures.all)

pub returns-in-Err-put_rest-clause-front : goal.returns-in-Err-put_rest-clause-front
returns-in-Err-put_rest-clause-front g c =
    subst (λ (zs : List ℕ). WritesFront (g.K.Sink.written c.args.out.now) (c.args.pending.now.items ++ zs) (g.K.Sink.written c.put_rest.new.out)) (cells_split c.args.form.now c.args.cells.now c.first-item.result c.first-item.is (omega arith))
    (front_then _ _ _ c.args.pending.now.items _ _ _ c.in_default-put_cell.ensures.all c.in-Err-put_rest.ensures.front)

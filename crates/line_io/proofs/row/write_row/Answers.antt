use Rattle.std.proofs.Common.{ℕ, ◌++◌, List, refl, subst}
use Rattle.line_io.specs.Rows.{Begins, row_text}
use Rattle.line_io.proofs.RowLemmas.{front_held}
use Rattle.line_io.proofs.row.write_row.Goals as goal

pub returns-in-Err-flush-clause-front : goal.returns-in-Err-flush-clause-front
returns-in-Err-flush-clause-front g c =
    front_held _ (g.K.Sink.written c.put_row.new.out) _ _ c.put_row.new.self c.put_row.new.self
    (subst (λ (zs : List ℕ). Begins (g.K.Sink.written c.args.out.now) (zs ++ row_text c.args.form.now c.args.row.now) (g.K.Sink.written c.put_row.new.out) c.put_row.new.self) c.new-rows.ensures c.in_default.ensures.all)
    refl c.in-Err-flush.ensures.front

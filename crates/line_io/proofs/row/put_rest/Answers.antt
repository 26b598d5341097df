use Rattle.std.proofs.Common.{ℕ, ◌∷◌, ◌+◌, ◌++◌, List, take, drop, subst, arith}
use Rattle.ls_base.specs.Outside.{WritesFront}
use Rattle.line_io.specs.Rows.{Begins, cell_text, rest_text}
use Rattle.line_io.proofs.RowLemmas.{begins_then, front_then, front_some, rest_more, rest_parts}
use Rattle.line_io.proofs.row.put_rest.Goals as goal

pub returns-in-Err-clause-front : goal.returns-in-Err-clause-front
returns-in-Err-clause-front g c =
    let form = c.args.form.now in
    let cells = c.args.cells.now in
    let k = c.loop-cell.cell-index in
    let front = front_then _ _ _ c.args.pending.now.items (rest_text form (take k cells)) (32 ∷ cell_text form c.cell-item.result) _ c.loop-cell.invariant.begun c.in-Err.ensures.front in
    subst (λ (zs : List ℕ). WritesFront (g.K.Sink.written c.args.out.now) (c.args.pending.now.items ++ zs) (g.K.Sink.written c.put_next.new.out)) (rest_parts form cells (k + 1))
    (front_some _ _ c.args.pending.now.items (rest_text form (take (k + 1) cells)) (rest_text form (drop (k + 1) cells))
    (subst (λ (zs : List ℕ). WritesFront (g.K.Sink.written c.args.out.now) (c.args.pending.now.items ++ zs) (g.K.Sink.written c.put_next.new.out)) (rest_more form cells k c.cell-item.result c.cell-item.is c.loop-cell-test.true) front))

pub loop-cell-preserved : goal.loop-cell-preserved
loop-cell-preserved g c =
    let form = c.args.form.now in
    let cells = c.args.cells.now in
    let k = c.loop-cell.cell-index in
    record {
      begun =
          subst (λ (zs : List ℕ). Begins (g.K.Sink.written c.args.out.now) (c.args.pending.now.items ++ zs) (g.K.Sink.written c.put_next.new.out) c.put_next.new.pending.items) (rest_more form cells k c.cell-item.result c.cell-item.is c.loop-cell-test.true)
          (begins_then _ _ _ c.args.pending.now.items (rest_text form (take k cells)) (32 ∷ cell_text form c.cell-item.result) _ _ c.loop-cell.invariant.begun c.in_default.ensures.all);
      counted = omega (arith, c.loop-cell.invariant.counted, c.in_default.ensures.counted);
    }

use Rattle.std.proofs.Common.{◌≡◌, ◌+◌, [], ◌++◌, refl, ◌∙◌, ap, subst, arith}
use Rattle.ls_base.specs.Outside.{WritesFront}
use Rattle.line_io.specs.Rows.{Begins, row_text}
use Rattle.line_io.specs.Line.{ahead}
use Rattle.run_text.specs.RunText.{IsBad, IsAlarmed}
use Rattle.run_text.specs.OneLine.{HasRow}
use Rattle.run_text.specs.declared.lines.DriveEnd.TheVariants as ends
use Rattle.run_text.proofs.Answered.{answered-none, answered-on, answered-row, over-most, over-end, over-bad, over-alarm, over-long, over-flushed, begun-held, begun-row, read-so-far}
use Rattle.run_text.proofs.lines.drive.Goals as goal

pub loop-answered-init : goal.loop-answered-init
loop-answered-init g c = record {
  so_far = answered-none (g.M.LineMachine.node c.args.machine.now) (ahead c.args.buffer.now.held (g.S.Source.left c.args.input.now)) (g.K.Sink.written c.args.out.now) c.new-rows.result c.new-rows.ensures;
  form = refl;
  width = refl;
  reads = omega arith;
  writes = omega arith;
}

pub returns-in-End-clause-run : goal.returns-in-End-clause-run
returns-in-End-clause-run g c =
    over-end _ _ _ _ _ _ _ _ c.loop-answered.invariant.so_far c.args.max _ c.loop-answered-test.true (c.in-End.ensures.end refl) (c.in-End.ensures.written_end refl)

pub returns-in-LongLine-clause-run : goal.returns-in-LongLine-clause-run
returns-in-LongLine-clause-run g c =
    over-long _ _ _ _ _ _ _ _ c.loop-answered.invariant.so_far c.args.max _ c.loop-answered-test.true (c.in-LongLine.ensures.long refl) (c.in-LongLine.ensures.written_long refl)

pub returns-in-ReadFault-clause-read : goal.returns-in-ReadFault-clause-read
returns-in-ReadFault-clause-read g c = λ is.
    let part = c.in-ReadFault.ensures.part refl in
    read-so-far _ _ _ _ _ _ _ _ c.loop-answered.invariant.so_far c.args.max _ c.find_line.new.buffer.held (g.S.Source.left c.find_line.new.input) c.loop-answered-test.true (c.in-ReadFault.ensures.fault refl) part.0 part.1 (c.in-ReadFault.ensures.written_fault refl)

pub returns-in-WriteFault-clause-front : goal.returns-in-WriteFault-clause-front
returns-in-WriteFault-clause-front g c = λ is.
    begun-held _ _ _ _ _ _ _ _ c.loop-answered.invariant.so_far c.args.max _ (omega arith) (c.in-WriteFault.ensures.front refl)

pub returns-in-Bad-clause-run : goal.returns-in-Bad-clause-run
returns-in-Bad-clause-run g c =
    let here = answered-on _ _ _ _ _ _ _ (g.K.Sink.written c.find_line.new.out) _ c.find_line.new.rows c.loop-answered.invariant.so_far (c.in-Line.ensures.begun refl) in
    let bad = subst (λ line. IsBad (g.M.LineMachine.node c.loop-answered.machine).form line) c.line.ensures c.in-Bad.ensures.stuck in
    over-flushed (g.M.LineMachine.node c.args.machine.now) c.args.max _ (g.K.Sink.written c.args.out.now) (g.K.Sink.written c.find_line.new.out) (g.K.Sink.written c.flushed.new.out) c.find_line.new.rows (ends.BadLine (c.loop-answered.answered + 1)) c.flushed.result
    c.flushed.ensures.ended c.flushed.ensures.written
    (λ written e. over-bad _ _ _ _ _ _ _ _ here c.args.max written c.find_line.new.buffer.line c.loop-answered-test.true (c.in-Line.ensures.line refl) (c.in-Line.ensures.fits refl) bad e)

pub returns-in-Bad-clause-front : goal.returns-in-Bad-clause-front
returns-in-Bad-clause-front g c = λ is.
    let here = answered-on _ _ _ _ _ _ _ (g.K.Sink.written c.find_line.new.out) _ c.find_line.new.rows c.loop-answered.invariant.so_far (c.in-Line.ensures.begun refl) in
    begun-held _ _ _ _ _ _ _ _ here c.args.max _ (omega arith) (c.flushed.ensures.front is)

pub returns-in-Alarmed-clause-run : goal.returns-in-Alarmed-clause-run
returns-in-Alarmed-clause-run g c =
    let here = answered-on _ _ _ _ _ _ _ (g.K.Sink.written c.find_line.new.out) _ c.find_line.new.rows c.loop-answered.invariant.so_far (c.in-Line.ensures.begun refl) in
    let alarmed = subst (λ line. IsAlarmed (g.M.LineMachine.node c.loop-answered.machine) [] c.in-Alarmed.kind line) c.line.ensures c.in-Alarmed.ensures.stuck in
    over-flushed (g.M.LineMachine.node c.args.machine.now) c.args.max _ (g.K.Sink.written c.args.out.now) (g.K.Sink.written c.find_line.new.out) (g.K.Sink.written c.flushed-in-Alarmed.new.out) c.find_line.new.rows (ends.Alarm c.in-Alarmed.kind (c.loop-answered.answered + 1)) c.flushed-in-Alarmed.result
    c.flushed-in-Alarmed.ensures.ended c.flushed-in-Alarmed.ensures.written
    (λ written e. over-alarm _ _ _ _ _ _ _ _ here c.args.max written c.find_line.new.buffer.line c.in-Alarmed.kind c.loop-answered-test.true (c.in-Line.ensures.line refl) (c.in-Line.ensures.fits refl) alarmed e)

pub returns-in-Alarmed-clause-front : goal.returns-in-Alarmed-clause-front
returns-in-Alarmed-clause-front g c = λ is.
    let here = answered-on _ _ _ _ _ _ _ (g.K.Sink.written c.find_line.new.out) _ c.find_line.new.rows c.loop-answered.invariant.so_far (c.in-Line.ensures.begun refl) in
    begun-held _ _ _ _ _ _ _ _ here c.args.max _ (omega arith) (c.flushed-in-Alarmed.ensures.front is)

pub returns-in-Err-clause-front : goal.returns-in-Err-clause-front
returns-in-Err-clause-front g c = λ is.
    let here = answered-on _ _ _ _ _ _ _ (g.K.Sink.written c.find_line.new.out) _ c.find_line.new.rows c.loop-answered.invariant.so_far (c.in-Line.ensures.begun refl) in
    let has = subst (λ line. HasRow (g.M.LineMachine.node c.loop-answered.machine) (g.M.LineMachine.node c.answer_line.new.machine) (g.M.LineMachine.shown c.answer_line.new.machine) line) c.line.ensures (c.in-Row.ensures.row refl) in
    let row : row_text c.form.result.now c.row.result.now ≡ row_text (g.M.LineMachine.node c.loop-answered.machine).form (g.M.LineMachine.shown c.answer_line.new.machine) =
    (λ i. row_text ((c.form.ensures ∙ ap (λ n. n.form) has.next) i) (c.row.ensures i)) in
    begun-row _ _ _ _ _ _ _ _ _ _ _ here (c.in-Line.ensures.line refl) (c.in-Line.ensures.fits refl) has c.args.max _ c.loop-answered-test.true
    (subst (λ zs. WritesFront (g.K.Sink.written c.find_line.new.out) (c.find_line.new.rows ++ zs) (g.K.Sink.written c.put_row.new.out)) row c.in-Err.ensures.front)

pub loop-answered-preserved : goal.loop-answered-preserved
loop-answered-preserved g c =
    let here = answered-on _ _ _ _ _ _ _ (g.K.Sink.written c.find_line.new.out) _ c.find_line.new.rows c.loop-answered.invariant.so_far (c.in-Line.ensures.begun refl) in
    let has = subst (λ line. HasRow (g.M.LineMachine.node c.loop-answered.machine) (g.M.LineMachine.node c.answer_line.new.machine) (g.M.LineMachine.shown c.answer_line.new.machine) line) c.line.ensures (c.in-Row.ensures.row refl) in
    let row : row_text c.form.result.now c.row.result.now ≡ row_text (g.M.LineMachine.node c.loop-answered.machine).form (g.M.LineMachine.shown c.answer_line.new.machine) =
    (λ i. row_text ((c.form.ensures ∙ ap (λ n. n.form) has.next) i) (c.row.ensures i)) in
    record {
      so_far = answered-row _ _ _ _ _ _ _ _ _ _ _ here (c.in-Line.ensures.line refl) (c.in-Line.ensures.fits refl) has
          (ahead c.find_line.new.buffer.held (g.S.Source.left c.find_line.new.input)) (g.K.Sink.written c.put_row.new.out) c.put_row.new.self (c.in-Line.ensures.rest refl)
          (subst (λ zs. Begins (g.K.Sink.written c.find_line.new.out) (c.find_line.new.rows ++ zs) (g.K.Sink.written c.put_row.new.out) c.put_row.new.self) row c.in_default.ensures.all);
      form = ap (λ n. n.form) has.next ∙ c.loop-answered.invariant.form;
      width = c.in-Row.ensures.width ∙ c.loop-answered.invariant.width;
      reads = omega (arith, c.in-Line.ensures.reads, c.loop-answered.invariant.reads);
      writes = omega (arith, c.in-Line.ensures.writes, c.put_row.ensures.counted, c.loop-answered.invariant.writes);
    }

pub returns-clause-run : goal.returns-clause-run
returns-clause-run g c =
    over-flushed (g.M.LineMachine.node c.args.machine.now) c.args.max _ (g.K.Sink.written c.args.out.now) (g.K.Sink.written c.loop-answered.out) (g.K.Sink.written c.flushed-2.new.out) c.loop-answered.rows ends.Max c.flushed-2.result
    c.flushed-2.ensures.ended c.flushed-2.ensures.written
    (λ written e. over-most _ _ _ _ _ _ _ _ c.loop-answered.invariant.so_far c.args.max written (omega arith) e)

pub returns-clause-front : goal.returns-clause-front
returns-clause-front g c = λ is.
    begun-held _ _ _ _ _ _ _ _ c.loop-answered.invariant.so_far c.args.max _ (omega arith) (c.flushed-2.ensures.front is)

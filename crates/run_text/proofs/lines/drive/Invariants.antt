use Rattle.std.proofs.Common.{◌≤◌, ◌≡◌, length}
use Rattle.line_io.specs.Line.{ahead}
use Rattle.run_text.proofs.Answered.{Answered}
use Rattle.run_text.proofs.lines.drive.Given as goal

abbrev pub invariant-loop-answered : goal.invariant-loop-answered
invariant-loop-answered g l = record {
  so_far : Answered (g.M.LineMachine.node l.fn.machine) (g.M.LineMachine.node l.machine) l.answered (ahead l.fn.buffer.held (g.S.Source.left l.fn.input)) (ahead l.buffer.held (g.S.Source.left l.input))
      (g.K.Sink.written l.fn.out) (g.K.Sink.written l.out) l.rows;
  form : (g.M.LineMachine.node l.machine).form ≡ (g.M.LineMachine.node l.fn.machine).form;
  width : length l.inputs ≡ length l.fn.inputs;
  reads : g.S.Source.count l.fn.input ≤ g.S.Source.count l.input;
  writes : g.K.Sink.count l.fn.out ≤ g.K.Sink.count l.out;
}

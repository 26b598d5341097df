use Rattle.std.proofs.Common.{ap}
use Rattle.lsc_cli.proofs.ClosingLemmas.{run-closed}
use Rattle.lsc_cli.proofs.run.answer_lines.Goals as goal

pub returns-clause-runs : goal.returns-clause-runs
returns-clause-runs g c =
    run-closed (g.M.LineMachine.node c.args.machine.now) c.args.most c.args.buffer.now.held (g.S.Source.left c.args.input.now) (g.S.Source.left c.drive-end.new.input)
    (g.K.Sink.written c.args.out.now) (g.K.Sink.written c.drive-end.new.out) (g.K.Sink.written c.close.new.out) c.drive-end.result c.close.result
    c.requires.held c.drive-end.ensures.run c.drive-end.ensures.read c.drive-end.ensures.front c.close.ensures.closed
    (λ none. (ap g.K.Sink.written (c.close.ensures.fault none).0, (c.close.ensures.fault none).1))

use Rattle.std.proofs.Common.{◌<◌, refl, ◌∙◌, subst, length, ap}
use Rattle.std.specs.Option.{IfSome}
use Rattle.line_io.specs.Line.{ahead, line_of}
use Rattle.line_io.proofs.NextLemmas.{cut_line, cut_rest}
use Rattle.run_text.proofs.Bytes.{long-ahead}
use Rattle.run_text.proofs.Texts.{begins-flushed}
use Rattle.run_text.proofs.find.find_line.Goals as goal

pub returns-then-next_held-clause-line : goal.returns-then-next_held-clause-line
returns-then-next_held-clause-line g c = λ is. let f = c.if-next_held.ensures.found in cut_line _ _ _ _ _ refl f.0 f.1

pub returns-then-next_held-clause-rest : goal.returns-then-next_held-clause-rest
returns-then-next_held-clause-rest g c = λ is. let f = c.if-next_held.ensures.found in cut_rest _ _ _ _ _ refl f.0 f.1

pub returns-in-Line-clause-begun : goal.returns-in-Line-clause-begun
returns-in-Line-clause-begun g c = λ is. begins-flushed (g.K.Sink.written c.args.out.now) (g.K.Sink.written c.flush.new.out) c.args.rows.now c.flush.new.self c.in_default.ensures.written c.in_default.ensures.empty

pub returns-in-LongLine-clause-long : goal.returns-in-LongLine-clause-long
returns-in-LongLine-clause-long g c = λ is.
    let same = c.in-LongLine.ensures.kept ∙ ap (λ held. ahead held (g.S.Source.left c.args.input.now)) c.if-next_held.ensures.none.1 in
    subst (λ now. IfSome now (λ bytes. 65536 < length (line_of bytes))) same
    (long-ahead c.next_line.new.self.held (g.S.Source.left c.next_line.new.source) c.in-LongLine.ensures.long.0 c.in-LongLine.ensures.long.1)

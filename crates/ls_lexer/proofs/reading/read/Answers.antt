use Rattle.std.proofs.Common.{suc, ◌+◌, ◌∙◌, ap, arith}
use Rattle.ls_lexer.specs.Characters.{newlines}
use Rattle.ls_lexer.specs.Lexing.{State, IsStep, start}
use Rattle.ls_lexer.proofs.Rows.{Leads-more}
use Rattle.ls_lexer.proofs.reading.read.Goals as goal

pub loop-rest-preserved : goal.loop-rest-preserved
loop-rest-preserved c =
    let now : State = record { line = c.loop-rest.line; left = c.loop-rest.rest.now; tokens = c.loop-rest.tokens } in
    let next : State = record { line = record { 0 = c.loop-rest.line.0 + c.newlines.result }; left = c.split_at.result.1.now; tokens = c.read_piece.new.tokens } in
    let step : IsStep now next = (
      c.in_ok-len.len,
      c.in_ok-len.ensures.piece,
      c.split_at.ensures.back,
      ap (λ n. c.loop-rest.line.0 + n) (c.newlines.ensures.value ∙ ap newlines c.split_at.ensures.front),
    ) in
    record {
      reached = (suc c.loop-rest.invariant.reached.0, Leads-more c.loop-rest.invariant.reached.0 (start c.args.text.now) now next c.loop-rest.invariant.reached.1 step);
      room = omega (arith, c.newlines.ensures.within, c.split_at.ensures.front_len, c.split_at.ensures.back_len);
    }

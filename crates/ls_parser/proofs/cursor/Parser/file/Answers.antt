use Rattle.std.proofs.Common.{sym, ◌∙◌, length}
use Rattle.ls_parser.specs.Reading.{rest}
use Rattle.ls_parser.proofs.Files.{file_turn, file_fails, file_stops}
use Rattle.ls_parser.proofs.cursor.Parser.file.Goals as goal

pub turns-preserved : goal.turns-preserved
turns-preserved c =
    file_turn c.args.self.now.tokens.now (length c.args.self.now.tokens.now) c.turns.turn c.turns.at c.in-Ok.next c.turns.defs c.push.new.self c.in-Some.line c.in-Ok.def _
    c.turns-test.true (sym c.in-Some.ensures) c.in-Ok.ensures c.in_ok-push-in-Ok.ensures.ok c.turns.invariant

pub returns-in-Err : goal.returns-in-Err
returns-in-Err c =
    file_stops (λ x. (x.0, rest c.args.self.now.tokens.now x.1)) c.in-Some.line c.in-Err.fault _ _ c.in-Err.ensures
    (λ none. sym c.turns.invariant ∙ file_fails c.args.self.now.tokens.now (length c.args.self.now.tokens.now) c.turns.turn c.turns.at c.turns.defs c.in-Some.line
    c.turns-test.true (sym c.in-Some.ensures) none)

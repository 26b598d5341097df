use Rattle.std.proofs.Common.{rules, ◌≡◌, max, sym, ap, ◌∙◌, length}
use Rattle.ls_lexer.specs.declared.token.Fixed.TheVariants.{Comma}
use Rattle.ls_parser.specs.Reading.{rest, starts, behind, ◌>>=◌}
use Rattle.ls_parser.specs.Patterns.{pattern}
use Rattle.ls_parser.proofs.Loops.{collect_turn}
use Rattle.ls_parser.proofs.cursor.Parser.+pat.Goals as goal

pub pattern_parts-turns-preserved : goal.pattern_parts-turns-preserved
pattern_parts-turns-preserved t c =
    let top : c.max-highest.result ≡ max c.turns.highest c.in_ok-item.height = search rules in
    collect_turn (starts Comma) (behind Comma (pattern (length c.args.self.now.tokens.now) c.args.parts)) (length c.args.self.now.tokens.now) c.turns.turn c.turns.inner c.push-in-turns.new.self
    c.turns.highest c.in_ok-item.height c.max-highest.result (rest c.args.self.now.tokens.now c.turns.at) (rest c.args.self.now.tokens.now c.in_ok-item.behind) c.in_ok-item.item _
    c.turns-test.true (sym c.is.ensures ∙ c.if-not-is.false)
    (ap (λ o. o >>= pattern (length c.args.self.now.tokens.now) c.args.parts) c.in_ok-at.ensures ∙ c.in_ok-item.ensures)
    c.in_ok-push-2.ensures.ok top c.turns.invariant

use Rattle.std.proofs.Common.{rules, ◌≡◌, max, sym, ap, ◌∙◌, length}
use Rattle.ls_lexer.specs.declared.token.Fixed.TheVariants.{Bar}
use Rattle.ls_parser.specs.Reading.{rest, starts, behind, ◌>>=◌}
use Rattle.ls_parser.specs.Definitions as spec
use Rattle.ls_parser.proofs.Loops.{collect_turn}
use Rattle.ls_parser.proofs.cursor.Parser.cases.Goals as goal

pub turns-preserved : goal.turns-preserved
turns-preserved c =
    let top : c.max-highest.result ≡ max c.turns.highest c.in_ok-item.height = search rules in
    collect_turn (starts Bar) (behind Bar spec.case_alone) (length c.args.self.now.tokens.now) c.turns.turn c.turns.items c.push-in-turns.new.self
    c.turns.highest c.in_ok-item.height c.max-highest.result (rest c.args.self.now.tokens.now c.turns.at) (rest c.args.self.now.tokens.now c.in_ok-item.behind) c.in_ok-item.item _
    c.turns-test.true (sym c.is.ensures ∙ c.if-not-is.false)
    (ap (λ o. o >>= spec.case_alone) c.in_ok-at.ensures ∙ c.in_ok-item.ensures)
    c.in_ok-push-2.ensures.ok top c.turns.invariant

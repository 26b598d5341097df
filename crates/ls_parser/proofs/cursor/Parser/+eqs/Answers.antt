use Rattle.std.proofs.Common.{rules, ◌≡◌, max, sym, ap, ◌∙◌, length}
use Rattle.ls_lexer.specs.declared.token.Fixed.TheVariants.{KwAnd, Bar}
use Rattle.ls_parser.specs.Equations as spec
use Rattle.ls_parser.specs.Reading.{rest, starts, behind, ◌>>=◌}
use Rattle.ls_parser.proofs.Loops.{collect_turn}
use Rattle.ls_parser.proofs.cursor.Parser.+eqs.Goals as goal

pub equations-turns-preserved : goal.equations-turns-preserved
equations-turns-preserved t c =
    let top : c.max-highest.result ≡ max c.turns.highest c.in_ok-item.height = search rules in
    collect_turn (starts KwAnd) (behind KwAnd (spec.equation_at (length c.args.self.now.tokens.now) c.args.parts c.args.in_do)) (length c.args.self.now.tokens.now) c.turns.turn c.turns.items c.push-in-turns.new.self
    c.turns.highest c.in_ok-item.height c.max-highest.result (rest c.args.self.now.tokens.now c.turns.at) (rest c.args.self.now.tokens.now c.in_ok-item.behind) c.in_ok-item.item _
    c.turns-test.true (sym c.is.ensures ∙ c.if-not-is.false)
    (ap (λ o. o >>= (spec.equation_at (length c.args.self.now.tokens.now) c.args.parts c.args.in_do)) c.in_ok-at.ensures ∙ c.in_ok-item.ensures)
    c.in_ok-push-2.ensures.ok top c.turns.invariant

pub arms-turns-preserved : goal.arms-turns-preserved
arms-turns-preserved t c =
    let top : c.max-highest.result ≡ max c.turns.highest c.in_ok-item.height = search rules in
    collect_turn spec.begins_arm (behind Bar (spec.of_parts c.args.parts spec.arm (length c.args.self.now.tokens.now))) (length c.args.self.now.tokens.now) c.turns.turn c.turns.items c.push-in-turns.new.self
    c.turns.highest c.in_ok-item.height c.max-highest.result (rest c.args.self.now.tokens.now c.turns.at) (rest c.args.self.now.tokens.now c.in_ok-item.behind) c.in_ok-item.item _
    c.turns-test.true (sym c.begins_arm.ensures ∙ c.if-not-begins_arm.false)
    (ap (λ o. o >>= (spec.of_parts c.args.parts spec.arm (length c.args.self.now.tokens.now))) c.in_ok-at.ensures ∙ c.in_ok-item.ensures)
    c.in_ok-push-2.ensures.ok top c.turns.invariant

pub tests-turns-preserved : goal.tests-turns-preserved
tests-turns-preserved t c =
    let top : c.max-highest.result ≡ max c.turns.highest c.in_ok-item.height = search rules in
    collect_turn (starts Bar) (behind Bar (spec.of_parts c.args.parts spec.one_test (length c.args.self.now.tokens.now))) (length c.args.self.now.tokens.now) c.turns.turn c.turns.items c.push-in-turns.new.self
    c.turns.highest c.in_ok-item.height c.max-highest.result (rest c.args.self.now.tokens.now c.turns.at) (rest c.args.self.now.tokens.now c.in_ok-item.behind) c.in_ok-item.item _
    c.turns-test.true (sym c.is.ensures ∙ c.if-not-is.false)
    (ap (λ o. o >>= (spec.of_parts c.args.parts spec.one_test (length c.args.self.now.tokens.now))) c.in_ok-at.ensures ∙ c.in_ok-item.ensures)
    c.in_ok-push-2.ensures.ok top c.turns.invariant

pub states-turns-preserved : goal.states-turns-preserved
states-turns-preserved t c =
    let top : c.max-highest.result ≡ max c.turns.highest c.in_ok-item.height = search rules in
    collect_turn (starts Bar) (behind Bar (spec.of_parts c.args.parts spec.state (length c.args.self.now.tokens.now))) (length c.args.self.now.tokens.now) c.turns.turn c.turns.items c.push-in-turns.new.self
    c.turns.highest c.in_ok-item.height c.max-highest.result (rest c.args.self.now.tokens.now c.turns.at) (rest c.args.self.now.tokens.now c.in_ok-item.behind) c.in_ok-item.item _
    c.turns-test.true (sym c.is.ensures ∙ c.if-not-is.false)
    (ap (λ o. o >>= (spec.of_parts c.args.parts spec.state (length c.args.self.now.tokens.now))) c.in_ok-at.ensures ∙ c.in_ok-item.ensures)
    c.in_ok-push-2.ensures.ok top c.turns.invariant

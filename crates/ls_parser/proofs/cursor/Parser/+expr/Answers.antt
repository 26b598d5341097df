use Rattle.std.proofs.Common.{rules, ◌≡◌, max, sym, ap, ◌∙◌, length}
use Rattle.ls_lexer.specs.declared.token.Fixed.TheVariants.{Comma}
use Rattle.ls_parser.specs.declared.level.Level.TheVariants.{Expr, Atom}
use Rattle.ls_parser.specs.Reading.{rest, starts, behind, ◌>>=◌}
use Rattle.ls_parser.specs.Expressions as spec
use Rattle.ls_parser.proofs.Loops.{collect_turn, climb_turn}
use Rattle.ls_parser.proofs.cursor.Parser.+expr.Goals as goal

pub arguments-turns-preserved : goal.arguments-turns-preserved
arguments-turns-preserved t c =
    let top : c.max-highest.result ≡ max c.turns.highest c.in_ok-arg.height = search rules in
    collect_turn spec.begins_atom (spec.expression (length c.args.self.now.tokens.now) c.args.parts Atom) c.args.limit c.turns.turn c.turns.args c.push.new.self
    c.turns.highest c.in_ok-arg.height c.max-highest.result (rest c.args.self.now.tokens.now c.turns.at) (rest c.args.self.now.tokens.now c.in_ok-arg.next) c.in_ok-arg.arg _
    c.turns-test.true (sym c.begins_atom.ensures ∙ c.if-not-begins_atom.false) c.in_ok-arg.ensures c.in_ok-push.ensures.ok top c.turns.invariant

pub branches-turns-preserved : goal.branches-turns-preserved
branches-turns-preserved t c =
    let top : c.max-highest.result ≡ max c.turns.highest c.in_ok-item.height = search rules in
    collect_turn spec.begins_branch (spec.branch (length c.args.self.now.tokens.now) (spec.expression (length c.args.self.now.tokens.now) c.args.parts)) (length c.args.self.now.tokens.now) c.turns.turn c.turns.items c.push-in-turns.new.self
    c.turns.highest c.in_ok-item.height c.max-highest.result (rest c.args.self.now.tokens.now c.turns.at) (rest c.args.self.now.tokens.now c.in_ok-item.behind) c.in_ok-item.item _
    c.turns-test.true (sym c.begins_branch.ensures ∙ c.if-not-begins_branch.false) c.in_ok-item.ensures c.in_ok-push-2.ensures.ok top c.turns.invariant

pub tuple-turns-preserved : goal.tuple-turns-preserved
tuple-turns-preserved t c =
    let top : c.max-highest.result ≡ max c.turns.highest c.in_ok-item.height = search rules in
    collect_turn (starts Comma) (behind Comma (spec.expression (length c.args.self.now.tokens.now) c.args.parts Expr)) (length c.args.self.now.tokens.now) c.turns.turn c.turns.inner c.push-in-turns.new.self
    c.turns.highest c.in_ok-item.height c.max-highest.result (rest c.args.self.now.tokens.now c.turns.at) (rest c.args.self.now.tokens.now c.in_ok-item.behind) c.in_ok-item.item _
    c.turns-test.true (sym c.is.ensures ∙ c.if-not-is.false)
    (ap (λ o. o >>= spec.expression (length c.args.self.now.tokens.now) c.args.parts Expr) c.in_ok-at.ensures ∙ c.in_ok-item.ensures)
    c.in_ok-push-2.ensures.ok top c.turns.invariant

pub climb-turns-preserved : goal.climb-turns-preserved
climb-turns-preserved t c =
    climb_turn (length c.args.self.now.tokens.now) (spec.expression (length c.args.self.now.tokens.now) c.args.parts) (length c.args.self.now.tokens.now) c.turns.turn
    c.args.least c.turns.from c.level-from.result c.in-Some.operator c.turns.made c.in_ok-made.field-0-0 c.turns.height c.in_ok-made.field-0-1
    (rest c.args.self.now.tokens.now c.turns.at) (rest c.args.self.now.tokens.now c.in-Some.next) (rest c.args.self.now.tokens.now c.in_ok-made.field-0-2) _
    c.turns-test.true (sym c.in-Some.ensures) (sym c.goes_on.ensures ∙ c.if-not-goes_on.false) c.in_ok-made.ensures c.level-from.ensures c.turns.invariant

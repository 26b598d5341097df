use Rattle.std.proofs.Common.{rules, ◌≡◌, max, sym, ◌∙◌, length}
use Rattle.ls_parser.specs.declared.level.Level.TheVariants.{Expr}
use Rattle.ls_parser.specs.Expressions.{expression}
use Rattle.ls_parser.specs.Equations.{equation_at, doing_at}
use Rattle.ls_parser.specs.Patterns.{pattern}
use Rattle.ls_parser.specs.Reading.{rest}
use Rattle.ls_parser.proofs.Loops.{gather_turn}
use Rattle.ls_parser.proofs.cursor.Parser.guards.Goals as goal

pub turns-preserved : goal.turns-preserved
turns-preserved c =
    let top : c.max-highest.result ≡ max c.turns.highest c.in_ok-is_strong.height = search rules in
    gather_turn (length c.args.self.now.tokens.now) (expression (length c.args.self.now.tokens.now) c.args.parts Expr) (pattern (length c.args.self.now.tokens.now) c.args.parts) (equation_at (length c.args.self.now.tokens.now) c.args.parts) (doing_at (length c.args.self.now.tokens.now) c.args.parts) (length c.args.self.now.tokens.now) c.turns.turn c.turns.strong c.turns.weak c.put-in-turns.new.strong c.put-in-turns.new.weak
    c.turns.highest c.in_ok-is_strong.height c.max-highest.result (rest c.args.self.now.tokens.now c.turns.at) (rest c.args.self.now.tokens.now c.in_ok-is_strong.next) (c.in_ok-is_strong.is_strong, c.in_ok-is_strong.guard) _
    c.turns-test.true (sym c.begins_guard.ensures ∙ c.if-not-begins_guard.false) c.in_ok-is_strong.ensures c.in_ok-put-2.ensures.strong c.in_ok-put-2.ensures.weak top c.turns.invariant

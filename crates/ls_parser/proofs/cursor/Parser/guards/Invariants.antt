use Rattle.std.proofs.Common.{◌≡◌, ◌-◌, length}
use Rattle.ls_parser.specs.declared.level.Level.TheVariants.{Expr}
use Rattle.ls_parser.specs.Expressions.{expression}
use Rattle.ls_parser.specs.Equations as spec
use Rattle.ls_parser.specs.Patterns.{pattern}
use Rattle.ls_parser.specs.Reading.{rest}
use Rattle.ls_parser.proofs.cursor.Parser.guards.Given as goal

abbrev pub invariant-turns : goal.invariant-turns
invariant-turns l =
    spec.gather (length l.self.tokens.now) (expression (length l.self.tokens.now) l.parts Expr) (pattern (length l.self.tokens.now) l.parts) (spec.equation_at (length l.self.tokens.now) l.parts) (spec.doing_at (length l.self.tokens.now) l.parts) (length l.self.tokens.now - l.turn) l.strong l.weak l.highest (rest l.self.tokens.now l.at)
    ≡ spec.gather (length l.self.tokens.now) (expression (length l.self.tokens.now) l.parts Expr) (pattern (length l.self.tokens.now) l.parts) (spec.equation_at (length l.self.tokens.now) l.parts) (spec.doing_at (length l.self.tokens.now) l.parts) (length l.self.tokens.now) l.initial.strong l.initial.weak l.initial.highest (rest l.self.tokens.now l.initial.at)

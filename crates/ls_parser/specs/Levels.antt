-- The levels of precedence, and the operators that stand behind their left operand.
use Rattle.std.specs.Prelude.{ℕ, Option, Some, None}
use Rattle.ls_lexer.specs.declared.token.Fixed.{Fixed}
use Rattle.ls_lexer.specs.declared.token.Fixed.TheVariants.{KwFby, KwMod, KwOr, KwWhen, KwWhenot, KwXor, Equal, Differ, Less, LessEq, Greater, GreaterEq, Plus, Minus, Star, Slash, Arrow, Ampersand}
use Rattle.ls_ops.specs.declared.kinds.Op.TheVariants as op
use Rattle.ls_parser.specs.declared.level.Level.{Level}
use Rattle.ls_parser.specs.declared.level.Level.TheVariants.{Expr, Init, Delay, Samp, Disj, Conj, Comp, Sum, Prod, Unary, App, Atom}
use Rattle.ls_parser.specs.declared.level.Infix.{Infix}
use Rattle.ls_parser.specs.declared.level.Infix.TheVariants as behind

-- the place of a level, the loosest first
abbrev pub rank : Level → ℕ
rank Expr = 0
rank Init = 1
rank Delay = 2
rank Samp = 3
rank Disj = 4
rank Conj = 5
rank Comp = 6
rank Sum = 7
rank Prod = 8
rank Unary = 9
rank App = 10
rank Atom = 11

-- the level of the left operand of an operator of a level
abbrev pub left : Level → Level
left Init = Delay
left Delay = Samp
left Comp = Sum
left level = level

-- the level of its right operand
abbrev pub right : Level → Level
right Init = Expr
right Disj = Conj
right Conj = Comp
right Comp = Sum
right Sum = Prod
right Prod = Unary
right level = level

-- the operator that a word is behind an operand
abbrev pub infix_of : Fixed → Option Infix
infix_of Arrow = Some behind.Init
infix_of KwFby = Some behind.Fby
infix_of KwWhen = Some behind.When
infix_of KwWhenot = Some behind.Whenot
infix_of KwOr = Some (behind.Binary Disj op.Or)
infix_of KwXor = Some (behind.Binary Disj op.Xor)
infix_of Ampersand = Some (behind.Binary Conj op.And)
infix_of Equal = Some (behind.Binary Comp op.Equal)
infix_of Differ = Some (behind.Binary Comp op.Differ)
infix_of Less = Some (behind.Binary Comp op.Less)
infix_of LessEq = Some (behind.Binary Comp op.LessEq)
infix_of Greater = Some (behind.Binary Comp op.Greater)
infix_of GreaterEq = Some (behind.Binary Comp op.GreaterEq)
infix_of Plus = Some (behind.Binary Sum op.Add)
infix_of Minus = Some (behind.Binary Sum op.Sub)
infix_of Star = Some (behind.Binary Prod op.Mul)
infix_of Slash = Some (behind.Binary Prod op.Div)
infix_of KwMod = Some (behind.Binary Prod op.Rem)
infix_of _ = None

-- the level of an operator
abbrev pub level_of : Infix → Level
level_of behind.Init = Init
level_of behind.Fby = Delay
level_of behind.When = Samp
level_of behind.Whenot = Samp
level_of (behind.Binary level op) = level

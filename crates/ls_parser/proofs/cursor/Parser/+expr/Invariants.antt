use Rattle.std.proofs.Common.{◌≡◌, ◌+◌, ◌-◌, ◌*◌, length, []}
use Rattle.ls_parser.specs.declared.level.Level.TheVariants.{Expr, Atom}
use Rattle.ls_lexer.specs.declared.token.Fixed.TheVariants.{Comma}
use Rattle.ls_parser.specs.Reading.{rest, starts, behind, collect}
use Rattle.ls_parser.specs.Expressions as spec
use Rattle.ls_parser.proofs.cursor.Parser.+expr.Given as goal

abbrev pub decreases-phrase : goal.decreases-phrase
decreases-phrase l = l.depth * 16

abbrev pub decreases-level : goal.decreases-level
decreases-level l = l.parts * 16 + 15

abbrev pub decreases-conditional : goal.decreases-conditional
decreases-conditional l = l.parts * 16 + 14

abbrev pub decreases-operand : goal.decreases-operand
decreases-operand l = l.parts * 16 + 14

abbrev pub decreases-application : goal.decreases-application
decreases-application l = l.parts * 16 + 13

abbrev pub decreases-prefixed : goal.decreases-prefixed
decreases-prefixed l = l.parts * 16 + 12

abbrev pub decreases-named : goal.decreases-named
decreases-named l = l.parts * 16 + 12

abbrev pub decreases-merge : goal.decreases-merge
decreases-merge l = l.parts * 16 + 12

abbrev pub decreases-branches : goal.decreases-branches
decreases-branches l = l.parts * 16 + 11

abbrev pub decreases-branch : goal.decreases-branch
decreases-branch l = l.parts * 16 + 10

abbrev pub decreases-atom : goal.decreases-atom
decreases-atom l = l.parts * 16 + 12

abbrev pub decreases-group : goal.decreases-group
decreases-group l = l.parts * 16 + 11

abbrev pub decreases-call : goal.decreases-call
decreases-call l = l.parts * 16 + 10

abbrev pub decreases-every : goal.decreases-every
decreases-every l = l.parts * 16 + 10

abbrev pub decreases-group_from : goal.decreases-group_from
decreases-group_from l = l.parts * 16 + 10

abbrev pub decreases-tuple : goal.decreases-tuple
decreases-tuple l = l.parts * 16 + 9

abbrev pub decreases-arguments : goal.decreases-arguments
decreases-arguments l = l.parts * 16 + 9

abbrev pub decreases-climb : goal.decreases-climb
decreases-climb l = l.parts * 16 + 9

abbrev pub decreases-suffix : goal.decreases-suffix
decreases-suffix l = l.parts * 16 + 8

abbrev pub invariant-arguments-turns : goal.invariant-arguments-turns
invariant-arguments-turns l =
    collect (l.limit - l.turn) spec.begins_atom (spec.expression (length l.self.tokens.now) l.parts Atom) l.args l.highest (rest l.self.tokens.now l.at)
    ≡ collect l.limit spec.begins_atom (spec.expression (length l.self.tokens.now) l.parts Atom) [] 0 (rest l.self.tokens.now l.initial.at)

abbrev pub invariant-branches-turns : goal.invariant-branches-turns
invariant-branches-turns l =
    collect (length l.self.tokens.now - l.turn) spec.begins_branch (spec.branch (length l.self.tokens.now) (spec.expression (length l.self.tokens.now) l.parts)) l.items l.highest (rest l.self.tokens.now l.at)
    ≡ collect (length l.self.tokens.now) spec.begins_branch (spec.branch (length l.self.tokens.now) (spec.expression (length l.self.tokens.now) l.parts)) l.initial.items l.initial.highest (rest l.self.tokens.now l.initial.at)

abbrev pub invariant-tuple-turns : goal.invariant-tuple-turns
invariant-tuple-turns l =
    collect (length l.self.tokens.now - l.turn) (starts Comma) (behind Comma (spec.expression (length l.self.tokens.now) l.parts Expr)) l.inner l.highest (rest l.self.tokens.now l.at)
    ≡ collect (length l.self.tokens.now) (starts Comma) (behind Comma (spec.expression (length l.self.tokens.now) l.parts Expr)) l.initial.inner l.initial.highest (rest l.self.tokens.now l.initial.at)

abbrev pub invariant-climb-turns : goal.invariant-climb-turns
invariant-climb-turns l =
    spec.climb (length l.self.tokens.now) (spec.expression (length l.self.tokens.now) l.parts) (length l.self.tokens.now - l.turn) l.least l.from l.made l.height (rest l.self.tokens.now l.at)
    ≡ spec.climb (length l.self.tokens.now) (spec.expression (length l.self.tokens.now) l.parts) (length l.self.tokens.now) l.least l.initial.from l.initial.made l.initial.height (rest l.self.tokens.now l.initial.at)

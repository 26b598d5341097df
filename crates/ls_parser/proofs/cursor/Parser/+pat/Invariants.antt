use Rattle.std.proofs.Common.{◌≡◌, ◌+◌, ◌-◌, ◌*◌, length}
use Rattle.ls_lexer.specs.declared.token.Fixed.TheVariants.{Comma}
use Rattle.ls_parser.specs.Reading.{rest, starts, behind, collect}
use Rattle.ls_parser.specs.Patterns.{pattern}
use Rattle.ls_parser.proofs.cursor.Parser.+pat.Given as goal

abbrev pub decreases-pattern : goal.decreases-pattern
decreases-pattern l = l.depth * 4

abbrev pub decreases-pattern_of : goal.decreases-pattern_of
decreases-pattern_of l = l.parts * 4 + 3

abbrev pub decreases-pattern_inside : goal.decreases-pattern_inside
decreases-pattern_inside l = l.parts * 4 + 2

abbrev pub decreases-pattern_parts : goal.decreases-pattern_parts
decreases-pattern_parts l = l.parts * 4 + 1

abbrev pub invariant-pattern_parts-turns : goal.invariant-pattern_parts-turns
invariant-pattern_parts-turns l =
    collect (length l.self.tokens.now - l.turn) (starts Comma) (behind Comma (pattern (length l.self.tokens.now) l.parts)) l.inner l.highest (rest l.self.tokens.now l.at)
    ≡ collect (length l.self.tokens.now) (starts Comma) (behind Comma (pattern (length l.self.tokens.now) l.parts)) l.initial.inner l.initial.highest (rest l.self.tokens.now l.initial.at)

use Rattle.std.proofs.Common.{◌≡◌, ◌-◌, length}
use Rattle.ls_lexer.specs.declared.token.Fixed.TheVariants.{Bar}
use Rattle.ls_parser.specs.Reading.{rest, starts, behind, collect}
use Rattle.ls_parser.specs.Definitions as spec
use Rattle.ls_parser.proofs.cursor.Parser.cases.Given as goal

abbrev pub invariant-turns : goal.invariant-turns
invariant-turns l =
    collect (length l.self.tokens.now - l.turn) (starts Bar) (behind Bar spec.case_alone) l.items l.highest (rest l.self.tokens.now l.at)
    ≡ collect (length l.self.tokens.now) (starts Bar) (behind Bar spec.case_alone) l.initial.items l.initial.highest (rest l.self.tokens.now l.initial.at)

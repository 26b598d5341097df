use Rattle.std.proofs.Common.{◌≡◌, ◌-◌, length, []}
use Rattle.ls_parser.specs.Reading.{rest, collect}
use Rattle.ls_parser.specs.Definitions as spec
use Rattle.ls_parser.specs.Patterns.{pattern}
use Rattle.ls_parser.proofs.cursor.Parser.params.Given as goal

abbrev pub invariant-turns : goal.invariant-turns
invariant-turns l =
    collect (length l.self.tokens.now - l.turn) spec.begins_pattern (pattern (length l.self.tokens.now) l.depth) l.params l.highest (rest l.self.tokens.now l.at)
    ≡ collect (length l.self.tokens.now) spec.begins_pattern (pattern (length l.self.tokens.now) l.depth) [] 0 (rest l.self.tokens.now l.initial.at)

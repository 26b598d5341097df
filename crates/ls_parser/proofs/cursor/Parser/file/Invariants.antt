use Rattle.std.proofs.Common.{◌≡◌, ◌-◌, length, drop, []}
use Rattle.ls_parser.specs.Definitions as spec
use Rattle.ls_parser.proofs.cursor.Parser.file.Given as goal

abbrev pub invariant-turns : goal.invariant-turns
invariant-turns l =
    spec.file_from l.self.tokens.now (length l.self.tokens.now - l.turn) l.defs (drop l.at l.self.tokens.now)
    ≡ spec.file_from l.self.tokens.now (length l.self.tokens.now) [] l.self.tokens.now

use Rattle.std.proofs.Common.{◌≡◌, drop, false}
use Rattle.ls_lexer.specs.Pieces.{behind, closing_len}
use Rattle.ls_lexer.proofs.scan.closing_len.Given as goal

abbrev pub invariant-loop-i : goal.invariant-loop-i
invariant-loop-i l = behind l.i (closing_len l.quote l.after (drop l.i l.text)) ≡ closing_len l.quote false l.text

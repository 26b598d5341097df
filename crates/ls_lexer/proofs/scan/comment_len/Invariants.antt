use Rattle.std.proofs.Common.{◌≡◌, ◌≤◌, drop}
use Rattle.ls_lexer.specs.Pieces.{behind, comments_len, comment_len}
use Rattle.ls_lexer.proofs.scan.comment_len.Given as goal

abbrev pub invariant-loop-i : goal.invariant-loop-i
invariant-loop-i l = record {
  nested : l.depth ≤ l.i;
  len : behind l.i (comments_len l.depth l.before (drop l.i l.text)) ≡ comment_len l.text;
}

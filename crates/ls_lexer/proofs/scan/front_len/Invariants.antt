use Rattle.std.proofs.Common.{◌≡◌, ◌+◌, drop}
use Rattle.ls_lexer.specs.Characters.{front_len, is_in}
use Rattle.ls_lexer.proofs.scan.front_len.Given as goal

abbrev pub invariant-loop-i : goal.invariant-loop-i
invariant-loop-i l = l.i + front_len (is_in l.class) (drop l.i l.text) ≡ front_len (is_in l.class) l.text

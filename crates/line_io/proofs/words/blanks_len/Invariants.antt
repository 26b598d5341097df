use Rattle.std.proofs.Common.{◌≡◌, drop}
use Rattle.line_io.specs.Words.{words_of}
use Rattle.line_io.proofs.words.blanks_len.Given as goal

abbrev pub invariant-loop-i : goal.invariant-loop-i
invariant-loop-i l = words_of (drop l.i l.text) ≡ words_of l.text

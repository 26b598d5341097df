use Rattle.line_io.proofs.WordLemmas.{Scanned}
use Rattle.line_io.proofs.words.word_len.Given as goal

abbrev pub invariant-loop-i : goal.invariant-loop-i
invariant-loop-i l = Scanned l.text l.i l.place

use Rattle.step_text.proofs.WordLemmas.{Scanned}
use Rattle.step_text.proofs.words.word_len.Given as goal

abbrev pub invariant-loop-i : goal.invariant-loop-i
invariant-loop-i l = Scanned l.text l.i l.place

use Rattle.std.proofs.Common.{◌≡◌, [], take, drop}
use Rattle.step_text.specs.Next.{all_new}
use Rattle.step_text.proofs.reading.are_new.Given as goal

abbrev pub invariant-loop-word : goal.invariant-loop-word
invariant-loop-word l = record { known : l.known ≡ take l.word-index l.words; rest : all_new [] l.words ≡ all_new l.known (drop l.word-index l.words) }

use Rattle.std.proofs.Common.{◌≡◌, take, drop}
use Rattle.step_text.specs.Next.{AreNumbered, with_names}
use Rattle.step_text.proofs.reading.add_names.Given as goal

abbrev pub invariant-loop-word : goal.invariant-loop-word
invariant-loop-word l = record { names : with_names l.initial.names l.words ≡ with_names l.names (drop l.word-index l.words); numbers : AreNumbered l.names (take l.word-index l.words) l.done }

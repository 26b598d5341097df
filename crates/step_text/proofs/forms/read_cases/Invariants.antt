use Rattle.std.proofs.Common.{◌≡◌, ◌++◌, length, All}
use Rattle.step_text.specs.Legal.{IsConstructor}
use Rattle.step_text.proofs.forms.read_cases.Given as goal

abbrev pub invariant-loop-word : goal.invariant-loop-word
invariant-loop-word l = record { read : l.initial.words ≡ l.cases ++ l.words; legal : All IsConstructor l.cases }

abbrev pub decreases-loop-word : goal.decreases-loop-word
decreases-loop-word l = length l.words

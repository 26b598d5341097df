use Rattle.std.proofs.Common.{◌≡◌, ℕ, ◌++◌, List, length, All}
use Rattle.ls_value.specs.declared.leaf.Leaf.{Leaf}
use Rattle.step_text.specs.Entries.{on_words}
use Rattle.step_text.specs.Legal.{IsAsked}
use Rattle.step_text.proofs.FormLemmas.{Left}
use Rattle.step_text.proofs.forms.read_on.Given as goal

abbrev pub invariant-loop-word : goal.invariant-loop-word
invariant-loop-word l = record {
  read : l.initial.words ≡ on_words l.on ++ l.words;
  legal : All IsAsked l.on;
  back : (all : List (ℕ × Leaf)) → All IsAsked all → l.initial.words ≡ on_words all → Left l.on l.words all;
}

abbrev pub decreases-loop-word : goal.decreases-loop-word
decreases-loop-word l = length l.words

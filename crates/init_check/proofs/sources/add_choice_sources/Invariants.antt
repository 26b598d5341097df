use Rattle.std.proofs.Common.{◌≡◌, ◌++◌, drop}
use Rattle.init_check.specs.Walks as own
use Rattle.init_check.proofs.sources.add_choice_sources.Given as goal

abbrev pub invariant-loop-choice : goal.invariant-loop-choice
invariant-loop-choice l = l.out ++ own.choice_sources l.d l.sigs l.place (drop l.choice-index l.all) ≡ l.initial.out ++ own.choice_sources l.d l.sigs l.place l.all

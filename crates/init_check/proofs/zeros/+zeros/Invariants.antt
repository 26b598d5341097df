use Rattle.std.proofs.Common.{◌≡◌, ◌++◌, drop}
use Rattle.init_check.specs.Walks as own
use Rattle.init_check.proofs.zeros.+zeros.Given as goal

abbrev pub invariant-add_all_zeros-loop-e : goal.invariant-add_all_zeros-loop-e
invariant-add_all_zeros-loop-e l = l.out ++ own.all_zeros l.d l.sigs l.place (drop l.e-index l.all) ≡ l.initial.out ++ own.all_zeros l.d l.sigs l.place l.all

abbrev pub invariant-add_choice_zeros-loop-choice : goal.invariant-add_choice_zeros-loop-choice
invariant-add_choice_zeros-loop-choice l = l.out ++ own.choice_zeros l.d l.sigs l.place (drop l.choice-index l.all) ≡ l.initial.out ++ own.choice_zeros l.d l.sigs l.place l.all

use Rattle.std.proofs.Common.{◌≡◌, ◌++◌, drop}
use Rattle.causality.specs.Walks as own
use Rattle.causality.proofs.reads.+reads.Given as goal

abbrev pub invariant-add_all-loop-e : goal.invariant-add_all-loop-e
invariant-add_all-loop-e l = l.out ++ own.all_rows l.d (drop l.e-index l.all) ≡ l.initial.out ++ own.all_rows l.d l.all

abbrev pub invariant-add_choices-loop-choice : goal.invariant-add_choices-loop-choice
invariant-add_choices-loop-choice l = l.out ++ own.choice_rows l.d (drop l.choice-index l.all) ≡ l.initial.out ++ own.choice_rows l.d l.all

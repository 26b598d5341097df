use Rattle.std.proofs.Common.{◌≡◌, ◌++◌, drop, map}
use Rattle.ls_places.specs.Clocks as spec
use Rattle.block_tables.specs.Blocks as own
use Rattle.ls_places.specs.Patterns.{joined}
use Rattle.block_tables.proofs.clocks.+clocks.Given as goal

abbrev pub invariant-add_all_clocks-loop-e : goal.invariant-add_all_clocks-loop-e
invariant-add_all_clocks-loop-e l = l.done ++ joined (map spec.clocks_in (drop l.e-index l.all)) ≡ l.initial.done ++ joined (map spec.clocks_in l.all)

abbrev pub invariant-add_choice_clocks-loop-choice : goal.invariant-add_choice_clocks-loop-choice
invariant-add_choice_clocks-loop-choice l = l.done ++ joined (spec.choice_parts (own.choices_clocks (drop l.choice-index l.all))) ≡ l.initial.done ++ joined (spec.choice_parts (own.choices_clocks l.all))

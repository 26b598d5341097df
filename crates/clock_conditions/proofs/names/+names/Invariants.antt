use Rattle.std.proofs.Common.{◌≡◌, ◌++◌, drop, map}
use Rattle.clock_rules.specs.Terms.{names_in}
use Rattle.tree_notes.specs.Order.{joined}
use Rattle.clock_conditions.proofs.names.+names.Given as goal

abbrev pub invariant-add_all_names-loop-t : goal.invariant-add_all_names-loop-t
invariant-add_all_names-loop-t l =
    l.list ++ joined (map names_in (drop l.t-index l.all)) ≡ l.initial.list ++ joined (map names_in l.all)

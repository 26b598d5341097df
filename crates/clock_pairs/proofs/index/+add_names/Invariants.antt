use Rattle.std.proofs.Common.{◌≡◌, ◌++◌, drop, map}
use Rattle.clock_pairs.specs.Entries as spec
use Rattle.ls_places.specs.Patterns.{joined, names_of}
use Rattle.clock_pairs.proofs.index.+add_names.Given as goal

abbrev pub invariant-add_all_names-loop-pat : goal.invariant-add_all_names-loop-pat
invariant-add_all_names-loop-pat l =
    l.list.list ++ spec.owned l.i (joined (map names_of (drop l.pat-index l.all))) ≡ l.initial.list.list ++ spec.owned l.i (joined (map names_of l.all))

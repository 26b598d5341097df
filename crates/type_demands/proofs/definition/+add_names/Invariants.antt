use Rattle.std.proofs.Common.{◌≡◌, ◌++◌, drop, map}
use Rattle.ls_places.specs.Patterns.{joined, names_of}
use Rattle.type_demands.proofs.definition.+add_names.Given as goal

abbrev pub invariant-add_all_names-loop-pat : goal.invariant-add_all_names-loop-pat
invariant-add_all_names-loop-pat l = l.list ++ joined (map names_of (drop l.pat-index l.all)) ≡ l.initial.list ++ joined (map names_of l.all)

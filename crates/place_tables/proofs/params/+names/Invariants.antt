use Rattle.std.proofs.Common.{◌≡◌, ◌++◌, drop, map}
use Rattle.ls_places.specs.Patterns.{joined, names_of}
use Rattle.place_tables.proofs.params.+names.Given as goal

abbrev pub invariant-add_all_names-loop-p : goal.invariant-add_all_names-loop-p
invariant-add_all_names-loop-p l = l.done ++ joined (map names_of (drop l.p-index l.all)) ≡ l.initial.done ++ joined (map names_of l.all)

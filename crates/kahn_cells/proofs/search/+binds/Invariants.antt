use Rattle.std.proofs.Common.{◌≡◌, drop, map}
use Rattle.ls_places.specs.Patterns.{has_name, joined, names_of}
use Rattle.kahn_cells.proofs.search.+binds.Given as goal

abbrev pub invariant-any_binds-loop-p : goal.invariant-any_binds-loop-p
invariant-any_binds-loop-p l = has_name l.x (joined (map names_of (drop l.p-index l.all))) ≡ has_name l.x (joined (map names_of l.all))

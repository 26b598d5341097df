use Rattle.std.proofs.Common.{◌≡◌, ◌++◌, drop, map}
use Rattle.kahn_model.specs.Values as spec
use Rattle.kahn_cells.proofs.values.+choose.Given as goal

abbrev pub invariant-choose_parts-loop-a : goal.invariant-choose_parts-loop-a
invariant-choose_parts-loop-a l = l.done ++ spec.choose_parts (map (spec.choose l.c) (drop l.a-index l.all)) l.rest ≡ spec.choose_parts (map (spec.choose l.c) l.all) l.values

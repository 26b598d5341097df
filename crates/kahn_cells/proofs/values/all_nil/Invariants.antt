use Rattle.std.proofs.Common.{◌≡◌, drop}
use Rattle.kahn_model.specs.Values as spec
use Rattle.kahn_cells.proofs.values.all_nil.Given as goal

abbrev pub invariant-loop-x : goal.invariant-loop-x
invariant-loop-x l = spec.all_nil (drop l.x-index l.all) ≡ spec.all_nil l.all

use Rattle.std.proofs.Common.{◌≡◌, drop}
use Rattle.kahn_model.specs.Values as spec
use Rattle.kahn_cells.proofs.values.any_nil.Given as goal

abbrev pub invariant-loop-leaf : goal.invariant-loop-leaf
invariant-loop-leaf l = spec.any_nil (drop l.leaf-index l.all) ≡ spec.any_nil l.all

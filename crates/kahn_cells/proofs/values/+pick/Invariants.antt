use Rattle.std.proofs.Common.{◌≡◌, drop, map}
use Rattle.kahn_model.specs.Values as spec
use Rattle.kahn_cells.proofs.values.+pick.Given as goal

abbrev pub invariant-pick_in-loop-p : goal.invariant-pick_in-loop-p
invariant-pick_in-loop-p l = spec.pick_in (map spec.pick (drop l.p-index l.parts)) l.x l.rest ≡ spec.pick_in (map spec.pick l.parts) l.x l.values

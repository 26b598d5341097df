use Rattle.std.specs.Prelude.{true}
use Rattle.std.proofs.Common.{◌≡◌, drop}
use Rattle.ls_value.specs.declared.leaf.Leaf.TheVariants.{Bool}
use Rattle.kahn_model.specs.Values as spec
use Rattle.kahn_cells.proofs.Leaves.{both}
use Rattle.kahn_cells.proofs.values.same_leaves.Given as goal

-- what stands is a truth or Nil, and with the leaves to come it is the answer
abbrev pub invariant-loop-a : goal.invariant-loop-a
invariant-loop-a l = record {
  is_truth : both l.done (Bool true) ≡ l.done;
  so_far : both l.done (spec.same_leaves (drop l.a-index l.xs) l.rest) ≡ spec.same_leaves l.xs l.ys;
}

use Rattle.std.specs.Prelude.{◌∷◌, [], true, ◌+◌}
use Rattle.std.proofs.Common.{refl, ap, sym, ◌∙◌, drop}
use Rattle.ls_value.specs.declared.leaf.Leaf.TheVariants.{Bool}
use Rattle.ls_ops.specs.Values.{value_of}
use Rattle.ls_ops.specs.declared.kinds.Op.TheVariants as op
use Rattle.kahn_model.specs.Values.{same_leaves}
use Rattle.kahn_cells.proofs.Leaves.{both, both_done, leaves_next, true_first}
use Rattle.kahn_cells.proofs.values.same_leaves.Goals as goal

pub loop-a-init : goal.loop-a-init
loop-a-init c = record { is_truth = refl; so_far = true_first c.args.xs.now c.args.ys.now }

pub loop-a-preserved : goal.loop-a-preserved
loop-a-preserved c =
    let a = c.a-item.result in
    let b = c.in-Some.b.now in
    let more = drop (c.loop-a.a-index + 1) c.args.xs.now in
    record {
      is_truth = ap (λ z. both z (Bool true)) c.and_equal-done.ensures ∙ both_done c.loop-a.done (value_of op.Equal (a ∷ b ∷ [])) ∙ sym c.and_equal-done.ensures;
      so_far = ap (λ z. both c.and_equal-done.result (same_leaves more z)) c.other_leaves-rest.ensures
          ∙ leaves_next c.args.xs.now c.loop-a.a-index a c.loop-a.rest.now b c.loop-a.done c.and_equal-done.result _ c.loop-a-test.true (sym c.a-item.is)
          c.in-Some.ensures.lookup.3.0 c.in-Some.ensures.lookup.1 c.and_equal-done.ensures c.loop-a.invariant.so_far;
    }

use Rattle.std.specs.Prelude.{IfOk}
use Rattle.std.proofs.Common.{◌≡◌, subst, ◌∙◌}
use Rattle.kahn_cells.proofs.Arms.{lacks_here, next_arm}
use Rattle.kahn_cells.proofs.paths.+lacks.Goals as goal

pub any_arm_lacks-loop-j-preserved : goal.any_arm_lacks-loop-j-preserved
any_arm_lacks-loop-j-preserved t c =
    next_arm c.args.d.now c.args.depth c.args.m c.args.paths.now c.as_slice.result.now c.args.count c.loop-j.j _ _ c.loop-j-test.true c.in_ok-lacks_within.ensures c.if-branch.false
    (c.as_slice.ensures.value ∙ c.in_ok-inside.ensures) c.loop-j.invariant

pub lacks_within-returns : goal.lacks_within-returns
lacks_within-returns t c =
    subst (λ z. IfOk c.any_arm_lacks.result (λ r. r ≡ z))
    (lacks_here c.args.d.now c.args.depth _ _ c.args.paths.now _ c.if-depth-eq0.false c.any_empty.ensures c.if-any_empty.false c.if-paths-eq0.false c.outer_block-m.ensures c.count_arms-count.ensures.value)
    c.any_arm_lacks.ensures

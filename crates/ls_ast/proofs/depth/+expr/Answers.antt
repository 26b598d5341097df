use Rattle.std.proofs.Common.{arith, sym}
use Rattle.ls_ast.proofs.Highest.{dropped}
use Rattle.ls_ast.proofs.depth.+expr.Goals as goal

pub highest_branch-loop-branch-preserved : goal.highest_branch-loop-branch-preserved
highest_branch-loop-branch-preserved g t c =
    let first = dropped c.args.all.now c.loop-branch.branch-index c.branch-item.result c.loop-branch-test.true (sym c.branch-item.is) in
    let now = rw first at c.loop-branch.invariant in
    omega (arith, now, c.expr_height.ensures, c.max-most.ensures)

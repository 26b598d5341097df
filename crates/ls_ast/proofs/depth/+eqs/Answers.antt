use Rattle.std.proofs.Common.{map, ap, arith, sym}
use Rattle.ls_ast.specs.Height as spec
use Rattle.ls_ast.proofs.Highest.{higher, height_of_reset}
use Rattle.ls_ast.proofs.depth.+eqs.Goals as goal

pub highest_eq-loop-eq-preserved : goal.highest_eq-loop-eq-preserved
highest_eq-loop-eq-preserved g t c =
    higher spec.eq_height c.args.all.now c.loop-eq.eq-index c.eq-item.result c.loop-eq.most _ _ _ c.loop-eq-test.true (sym c.eq-item.is) c.loop-eq.invariant c.eq_height.ensures c.max-most.ensures

pub highest_guard-loop-guard-preserved : goal.highest_guard-loop-guard-preserved
highest_guard-loop-guard-preserved g t c =
    higher spec.guard_height c.args.all.now c.loop-guard.guard-index c.guard-item.result c.loop-guard.most _ _ _ c.loop-guard-test.true (sym c.guard-item.is) c.loop-guard.invariant c.guard_height.ensures c.max-most.ensures

pub eq_height-overflow_add-result-in-Reset : goal.eq_height-overflow_add-result-in-Reset
eq_height-overflow_add-result-in-Reset g t c =
    let is = height_of_reset c.args.eq.now c.in-Reset.eqs c.in-Reset.e c.in-Reset.is in
    let same = ap (λ eqs. spec.highest (map spec.eq_height eqs)) c.as_slice.ensures.value in
    omega (arith, is, same, c.requires, c.highest_eq.ensures, c.expr_height-in-Reset.ensures, c.max-in-Reset.ensures)

use Rattle.std.proofs.Common.{◌≡◌, map, drop, max}
use Rattle.ls_ast.specs.Height as spec
use Rattle.ls_ast.proofs.depth.+expr.Given as goal

abbrev pub invariant-highest_expr-loop-e : goal.invariant-highest_expr-loop-e
invariant-highest_expr-loop-e g l = max l.most (spec.highest (map spec.expr_height (drop l.e-index l.all))) ≡ spec.highest (map spec.expr_height l.all)

abbrev pub invariant-highest_branch-loop-branch : goal.invariant-highest_branch-loop-branch
invariant-highest_branch-loop-branch g l = max l.most (spec.highest_branch (map (λ c. (c.0, spec.expr_height c.1)) (drop l.branch-index l.all))) ≡ spec.highest_branch (map (λ c. (c.0, spec.expr_height c.1)) l.all)

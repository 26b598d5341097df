use Rattle.std.proofs.Common.{◌≡◌, ◌+◌, ◌++◌, ◌∷◌, [], map, drop, take, length}
use Rattle.scope_rules.specs.Claims as spec
use Rattle.ls_scope.proofs.claims.+claims.Given as goal

abbrev pub invariant-add_all-loop-e : goal.invariant-add_all-loop-e
invariant-add_all-loop-e g l = l.done ++ spec.all_at l.s (map (spec.claims (g.W.Binders.defs l.what) (g.W.Binders.bound l.what)) (drop l.e-index l.all)) ≡ l.initial.done ++ spec.all_at l.s (map (spec.claims (g.W.Binders.defs l.what) (g.W.Binders.bound l.what)) l.all)

abbrev pub invariant-add_branches-loop-branch : goal.invariant-add_branches-loop-branch
invariant-add_branches-loop-branch g l = l.done ++ spec.all_branches (spec.branch_claims (g.W.Binders.defs l.what) (g.W.Binders.bound l.what) (drop l.branch-index l.all)) ≡ l.initial.done ++ spec.all_branches (spec.branch_claims (g.W.Binders.defs l.what) (g.W.Binders.bound l.what) l.all)

abbrev pub invariant-add_at_marks-loop-i : goal.invariant-add_at_marks-loop-i
invariant-add_at_marks-loop-i g l = l.done ++ spec.at_marks l.marks l.i (map (spec.claims (g.W.Binders.defs l.what) (g.W.Binders.bound l.what)) (drop l.i l.args)) ≡ l.initial.done ++ spec.at_marks l.marks 0 (map (spec.claims (g.W.Binders.defs l.what) (g.W.Binders.bound l.what)) l.args)

use Rattle.std.proofs.Common.{◌≡◌, ◌+◌, ◌++◌, ◌∷◌, [], map, drop, take, length}
use Rattle.scope_rules.specs.Claims as spec
use Rattle.ls_scope.specs.Uses.{uses_of_branches}
use Rattle.ls_scope.proofs.uses.+uses.Given as goal

abbrev pub invariant-add_all-loop-e : goal.invariant-add_all-loop-e
invariant-add_all-loop-e g l = l.done ++ spec.joined_uses (map (spec.uses (g.W.Binders.bound l.what) (g.W.Binders.cases l.what)) (drop l.e-index l.all)) ≡ l.initial.done ++ spec.joined_uses (map (spec.uses (g.W.Binders.bound l.what) (g.W.Binders.cases l.what)) l.all)

abbrev pub invariant-add_branches-loop-branch : goal.invariant-add_branches-loop-branch
invariant-add_branches-loop-branch g l = l.done ++ uses_of_branches (g.W.Binders.bound l.what) (g.W.Binders.cases l.what) (drop l.branch-index l.all) ≡ l.initial.done ++ uses_of_branches (g.W.Binders.bound l.what) (g.W.Binders.cases l.what) l.all

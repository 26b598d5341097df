-- The notes of the branches of a `merge`.
use Rattle.std.specs.Prelude.{ℕ, List, map}
use Rattle.ls_ast.specs.declared.tree.Case.{Case}
use Rattle.ls_ast.specs.declared.tree.Expr.{Expr}
use Rattle.ls_sig.specs.declared.binder.Binder.{Binder}
use Rattle.ls_sig.specs.declared.binder.Use.{Use}
use Rattle.scope_rules.specs.Claims.{uses, branch_uses}

abbrev pub uses_of_branches : {N : Type 0} → (ℕ → Binder) → (ℕ → Binder) → List (Case × Expr N) → List Use
uses_of_branches {N} bound cases all = branch_uses (map {A = Case × Expr N} {B = Case × List Use} (λ b. (b.0, uses bound cases b.1)) all)

-- Laws of what stands where.
use Rattle.std.specs.Prelude.{ℕ, Bool, Option}
use Rattle.ls_ast.specs.declared.tree.BodyOf.{BodyOf}
use Rattle.ls_ast.specs.declared.tree.Expr.{Expr}
use Rattle.ls_places.specs.Places.{find}
use Rattle.ls_places.specs.Ranges.{InRange}

-- each number in what is found in a body is that of something that is there
abbrev pub FoundInRange : Type 0 → Type 0
FoundInRange N = (first : ℕ) (cases : ℕ → Option ℕ) (signal : Expr N → Bool) (body : BodyOf N)
    → InRange (find N first cases signal body)

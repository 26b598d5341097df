-- One more part of those whose highest is sought, and the equations of one layer.
use Rattle.std.proofs.Common.{◌≡◌, ℕ, ◌+◌, ◌<◌, max, List, ◌∷◌, map, drop, length, get_or, arith, sym, ◌∙◌, ap}
use Rattle.std.proofs.lemmas.Grind.{common_steps}
use Rattle.ls_ast.specs.declared.tree.Expr.{Expr}
use Rattle.ls_ast.specs.declared.tree.Equation.{Equation, fold-roll-Equation}
use Rattle.ls_ast.specs.declared.tree.Equation.TheOpen.{Equation-F}
use Rattle.ls_ast.specs.declared.tree.Equation.TheVariants.{Reset, rolls-Reset}
use Rattle.ls_ast.specs.Height.{highest, expr_height, eq_height, eq_step, arm_step, guard_step, handler_step, state_step, test_step}

pub dropped : {X : Type 0} (xs : List X) (i : ℕ) (x : X) → i < length xs → get_or xs i x ≡ x → drop i xs ≡ x ∷ drop (i + 1) xs
dropped xs i x below is = grind (arith, common_steps)

pub higher : {X : Type 0} (f : X → ℕ) (xs : List X) (i : ℕ) (x : X) (most h new whole : ℕ)
    → i < length xs → get_or xs i x ≡ x → max most (highest (map f (drop i xs))) ≡ whole → h ≡ f x → new ≡ max h most
    → max new (highest (map f (drop (i + 1) xs))) ≡ whole
higher f xs i x most h new whole below is before one more =
    let first = dropped xs i x below is in
    let now = rw first at before in
    omega (arith, now, one, more)

pub height_of_reset : {N : Type 0} (eq : Equation N) (eqs : List (Equation N)) (e : Expr N) → eq ≡ Reset eqs e
    → eq_height eq ≡ max (highest (map eq_height eqs)) (expr_height e) + 1
height_of_reset {N} eq eqs e is = ap eq_height (is ∙ sym (rolls-Reset eqs e))
    ∙ fold-roll-Equation N ℕ ℕ ℕ ℕ ℕ ℕ eq_step arm_step guard_step handler_step state_step test_step (Equation-F.Reset eqs e)

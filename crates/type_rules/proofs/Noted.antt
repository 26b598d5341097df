-- Equations with other notes, as a fold over layers.
use Rattle.std.specs.Prelude.{◌≡◌, refl}
use Rattle.ls_ast.specs.declared.tree.Equation.{Equation, fold-Equation, roll-Equation}
use Rattle.ls_ast.specs.declared.tree.Equation.TheOpen.{Equation-F}
use Rattle.ls_ast.specs.declared.tree.Arm.{Arm}
use Rattle.ls_ast.specs.declared.tree.Guard.{Guard}
use Rattle.ls_ast.specs.declared.tree.Handler.{Handler}
use Rattle.ls_ast.specs.declared.tree.State.{State}
use Rattle.ls_ast.specs.declared.tree.Test.{Test}
use Rattle.tree_notes.specs.Noted as T
use Rattle.tree_notes.proofs.RefoldEquations.{re_Equation, Arm_noted, Guard_noted, Handler_noted, State_noted, Test_noted, noted_Equation}

module _ {N M : Type 0} (g : N → M) where
  layer_is : (x : Equation-F N (Equation M) (Arm M) (Guard M) (Handler M) (State M) (Test M)) → re_Equation g x ≡ T.equation_notes N M g x
  layer_is (Equation-F.Plain p e) = refl
  layer_is (Equation-F.Clock x e) = refl
  layer_is (Equation-F.Initial x e) = refl
  layer_is (Equation-F.Emit x e) = refl
  layer_is (Equation-F.Reset eqs e) = refl
  layer_is (Equation-F.Match e all) = refl
  layer_is (Equation-F.Present tests other) = refl
  layer_is (Equation-F.Automaton all) = refl

  pub noted_is : (q : Equation N) → noted_Equation g q ≡ T.in_equation N M g q
  noted_is q = λ i. fold-Equation N (Equation M) (Arm M) (Guard M) (Handler M) (State M) (Test M)
      (λ x. roll-Equation M (layer_is x i)) (Arm_noted g) (Guard_noted g) (Handler_noted g) (State_noted g) (Test_noted g) q

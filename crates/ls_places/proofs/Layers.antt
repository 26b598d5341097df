-- One layer of the walk, and what a block keeps of its arms.
use Rattle.std.specs.Prelude.{◌≡◌, ℕ, Bool, List, [], ◌∷◌, map, Option, refl}
use Rattle.std.proofs.Common.{ap, ap₂, sym}
use Rattle.ls_ast.specs.declared.tree.Arm.{Arm, fold_out-Arm}
use Rattle.ls_ast.specs.declared.tree.Expr.{Expr}
use Rattle.ls_ast.specs.declared.tree.State.{State, out-State, fold_out-State}
use Rattle.ls_ast.specs.declared.tree.Test.{Test, fold_out-Test}
use Rattle.ls_places.specs.Blocks.{case_of, signal_of}
use Rattle.ls_places.specs.Places

module _ (N : Type 0) (first : ℕ) (cases : ℕ → Option ℕ) (signal : Expr N → Bool) where
  abbrev arm_of : Arm N → Places.AnArm N
  arm_of = Places.arm_of N first cases signal

  abbrev test_of : Test N → Places.ATest N
  test_of = Places.test_of N first cases signal

  arm_is : (a : Arm N) → arm_of a ≡ record { case = case_of cases a; walk = Places.handler_of N first cases signal a.handler }
  arm_is = fold_out-Arm N (Places.Walk N) (Places.AnArm N) (Places.AGuard N) (Places.InArm N) (Places.AState N) (Places.ATest N)
      (Places.equation_step N first cases signal) (Places.arm_step N first cases signal) (Places.guard_step N first cases signal)
      (Places.handler_step N first cases signal) (Places.state_step N first cases signal) (Places.test_step N first cases signal)

  test_is : (t : Test N) → test_of t ≡ Places.test_step N first cases signal (record { signal = t.signal; pat = t.pat; handler = Places.handler_of N first cases signal t.handler })
  test_is = fold_out-Test N (Places.Walk N) (Places.AnArm N) (Places.AGuard N) (Places.InArm N) (Places.AState N) (Places.ATest N)
      (Places.equation_step N first cases signal) (Places.arm_step N first cases signal) (Places.guard_step N first cases signal)
      (Places.handler_step N first cases signal) (Places.state_step N first cases signal) (Places.test_step N first cases signal)

  -- the name of a state
  pub name_is : (s : State N) → (out-State N s).name.0 ≡ (Places.state_of N first cases signal s).name
  name_is s = sym (ap (λ (x : Places.AState N). x.name) (fold_out-State N (Places.Walk N) (Places.AnArm N) (Places.AGuard N) (Places.InArm N) (Places.AState N) (Places.ATest N)
      (Places.equation_step N first cases signal) (Places.arm_step N first cases signal) (Places.guard_step N first cases signal)
      (Places.handler_step N first cases signal) (Places.state_step N first cases signal) (Places.test_step N first cases signal) s))

  pub cases_are : (all : List (Arm N)) → Places.arm_cases N (map arm_of all) ≡ map (case_of cases) all
  cases_are [] = refl
  cases_are (a ∷ all) = ap₂ (λ x xs. x ∷ xs) (ap (λ (x : Places.AnArm N). x.case) (arm_is a)) (cases_are all)

  pub signals_are : (all : List (Test N)) → Places.test_signals N (map test_of all) ≡ map signal_of all
  signals_are [] = refl
  signals_are (t ∷ all) = ap₂ (λ x xs. x ∷ xs) (ap (λ (x : Places.ATest N). x.signal) (test_is t)) (signals_are all)

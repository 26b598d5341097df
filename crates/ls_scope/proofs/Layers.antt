-- One layer of the walk, and what a block keeps of its arms.
use Rattle.std.specs.Prelude.{◌≡◌, ℕ, List, [], ◌∷◌, ◌++◌, map, refl}
use Rattle.std.proofs.Common.{ap, ap₂, ◌∙◌}
use Rattle.ls_ast.specs.declared.tree.Arm.{Arm, fold_out-Arm}
use Rattle.ls_ast.specs.declared.tree.Guard.{Guard, fold_out-Guard}
use Rattle.ls_ast.specs.declared.tree.State.{State, out-State, fold_out-State}
use Rattle.ls_ast.specs.declared.tree.Test.{Test, fold_out-Test}
use Rattle.scope_rules.specs.Places as Places
use Rattle.scope_rules.specs.Places.{case_of, signal_of, title_of, targets_of, guard_targets, joined}

module _ (N : Type 0) where
  arm_is : (a : Arm N) → Places.arm_of N a ≡ record { case = case_of a; walk = Places.handler_of N a.handler }
  arm_is = fold_out-Arm N (Places.Walk N) (Places.AnArm N) (Places.AGuard N) (Places.InArm N) (Places.AState N) (Places.ATest N)
      (Places.equation_step N) (Places.arm_step N) (Places.guard_step N) (Places.handler_step N) (Places.state_step N) (Places.test_step N)

  guard_is : (g : Guard N) → Places.guard_of N g ≡ Places.guard_step N (record { eqs = map (Places.walk_of N) g.eqs; cond = g.cond; restart = g.restart; target = g.target })
  guard_is = fold_out-Guard N (Places.Walk N) (Places.AnArm N) (Places.AGuard N) (Places.InArm N) (Places.AState N) (Places.ATest N)
      (Places.equation_step N) (Places.arm_step N) (Places.guard_step N) (Places.handler_step N) (Places.state_step N) (Places.test_step N)

  test_is : (t : Test N) → Places.test_of N t ≡ Places.test_step N (record { signal = t.signal; pat = t.pat; handler = Places.handler_of N t.handler })
  test_is = fold_out-Test N (Places.Walk N) (Places.AnArm N) (Places.AGuard N) (Places.InArm N) (Places.AState N) (Places.ATest N)
      (Places.equation_step N) (Places.arm_step N) (Places.guard_step N) (Places.handler_step N) (Places.state_step N) (Places.test_step N)

  state_is : (s : State N) → Places.state_of N s ≡ Places.state_step N (let o = out-State N s in record { name = o.name; handler = Places.handler_of N o.handler; strong = map (Places.guard_of N) o.strong; weak = map (Places.guard_of N) o.weak })
  state_is = fold_out-State N (Places.Walk N) (Places.AnArm N) (Places.AGuard N) (Places.InArm N) (Places.AState N) (Places.ATest N)
      (Places.equation_step N) (Places.arm_step N) (Places.guard_step N) (Places.handler_step N) (Places.state_step N) (Places.test_step N)

  pub cases_are : (all : List (Arm N)) → Places.arm_cases N (map (Places.arm_of N) all) ≡ map case_of all
  cases_are [] = refl
  cases_are (a ∷ all) = ap₂ (λ x xs. x ∷ xs) (ap (λ (x : Places.AnArm N). x.case) (arm_is a)) (cases_are all)

  pub signals_are : (all : List (Test N)) → Places.test_signals N (map (Places.test_of N) all) ≡ map signal_of all
  signals_are [] = refl
  signals_are (t ∷ all) = ap₂ (λ x xs. x ∷ xs) (ap (λ (x : Places.ATest N). x.signal) (test_is t)) (signals_are all)

  aims_are : (all : List (Guard N)) → Places.targets N (map (Places.guard_of N) all) ≡ guard_targets all
  aims_are [] = refl
  aims_are (g ∷ all) = ap₂ (λ x xs. x ∷ xs) (ap (λ (x : Places.AGuard N). x.target) (guard_is g)) (aims_are all)

  pub titles_are : (all : List (State N)) → Places.state_titles N (map (Places.state_of N) all) ≡ map title_of all
  titles_are [] = refl
  titles_are (s ∷ all) = ap₂ (λ x xs. x ∷ xs) (ap (λ (x : Places.AState N). x.title) (state_is s)) (titles_are all)

  aims_of_state : (s : State N) → (Places.state_of N s).targets ≡ targets_of s
  aims_of_state s = ap (λ (x : Places.AState N). x.targets) (state_is s) ∙ ap₂ (λ a b. a ++ b) (aims_are (out-State N s).strong) (aims_are (out-State N s).weak)

  pub targets_are : (all : List (State N)) → Places.state_targets N (map (Places.state_of N) all) ≡ joined (map targets_of all)
  targets_are [] = refl
  targets_are (s ∷ all) = ap₂ (λ x xs. x ++ xs) (aims_of_state s) (targets_are all)

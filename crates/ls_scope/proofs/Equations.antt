-- The walk through an equation that has parts, from the steps that the code takes.
use Rattle.std.specs.Prelude.{◌≡◌, ℕ, ◌+◌, ◌<◌, List, [], ◌∷◌, map, length, Option, Some, None, option_map, refl}
use Rattle.std.proofs.Common.{ap, sym, ◌∙◌, drop, get_or, arith}
use Rattle.ls_base.proofs.Built.{rest}
use Rattle.std.proofs.lemmas.List.{length-map}
use Rattle.ls_ast.specs.declared.tree.Arm.{Arm}
use Rattle.ls_ast.specs.declared.tree.Expr.{Expr}
use Rattle.ls_ast.specs.declared.tree.Equation.{Equation, fold-roll-Equation}
use Rattle.ls_ast.specs.declared.tree.Equation.TheOpen.{Equation-F}
use Rattle.ls_ast.specs.declared.tree.Equation.TheVariants.{Reset, Match, Present, Automaton, rolls-Reset, rolls-Match, rolls-Present, rolls-Automaton}
use Rattle.ls_ast.specs.declared.tree.Handler.{Handler}
use Rattle.ls_ast.specs.declared.tree.State.{State}
use Rattle.ls_ast.specs.declared.tree.Test.{Test}
use Rattle.scope_rules.specs.Places as Places
use Rattle.scope_rules.specs.Places.{case_of, signal_of, title_of, targets_of, joined, around, stream, reads}
use Rattle.scope_rules.specs.declared.places.Where.{Where}
use Rattle.ls_scope.proofs.Layers.{cases_are, signals_are, titles_are, targets_are}

module _ (N : Type 0) where
  pub reset_is : (eq : Equation N) (eqs slice : List (Equation N)) (e : Expr N) (w : Where) (f g : Places.Contents N)
      → eq ≡ Reset eqs e → slice ≡ eqs → g ≡ Places.read N (reads e stream (around w)) f
      → Places.walk_all N (map (Places.walk_of N) slice) w g ≡ Places.walk_of N eq w f
  reset_is eq eqs slice e w f g is same now =
      (λ i. Places.walk_all N (map (Places.walk_of N) (same i)) w (now i))
      ∙ sym (ap (λ (h : Places.Walk N). h w f) (ap (Places.walk_of N) (is ∙ sym (rolls-Reset eqs e)) ∙ fold-roll-Equation N (Places.Walk N) (Places.AnArm N) (Places.AGuard N) (Places.InArm N) (Places.AState N) (Places.ATest N)
      (Places.equation_step N) (Places.arm_step N) (Places.guard_step N) (Places.handler_step N) (Places.state_step N) (Places.test_step N) (Equation-F.Reset eqs e)))

  pub match_is : (eq : Equation N) (e : Expr N) (arms slice again : List (Arm N)) (m : ℕ) (w : Where) (f g : Places.Contents N)
      → eq ≡ Match e arms → slice ≡ arms → again ≡ arms → m ≡ f.next
      → g ≡ Places.open_match N (map case_of slice) (Places.read N (reads e stream (around w)) f)
      → Places.arms_from N m 0 (Places.arm_walks N (map (Places.arm_of N) again)) w g ≡ Places.walk_of N eq w f
  match_is eq e arms slice again m w f g is same also number now =
      (λ i. Places.arms_from N (number i) 0 (Places.arm_walks N (map (Places.arm_of N) (also i))) w (now i))
      ∙ (λ i. Places.arms_from N f.next 0 (Places.arm_walks N (map (Places.arm_of N) arms)) w (Places.open_match N (map case_of (same i)) (Places.read N (reads e stream (around w)) f)))
      ∙ (λ i. Places.arms_from N f.next 0 (Places.arm_walks N (map (Places.arm_of N) arms)) w (Places.open_match N (sym (cases_are N arms) i) (Places.read N (reads e stream (around w)) f)))
      ∙ sym (ap (λ (h : Places.Walk N). h w f) (ap (Places.walk_of N) (is ∙ sym (rolls-Match e arms)) ∙ fold-roll-Equation N (Places.Walk N) (Places.AnArm N) (Places.AGuard N) (Places.InArm N) (Places.AState N) (Places.ATest N)
      (Places.equation_step N) (Places.arm_step N) (Places.guard_step N) (Places.handler_step N) (Places.state_step N) (Places.test_step N) (Equation-F.Match e arms)))

  present_layer : (tests : List (Test N)) (other : Option (Handler N)) (w : Where) (f : Places.Contents N)
      → Places.walk_of N (Present tests other) w f ≡ Places.other_arm N f.next (length (map (Places.test_of N) tests)) (option_map (Places.handler_of N) other) w
      (Places.arms_from N f.next 0 (Places.test_walks N (map (Places.test_of N) tests)) w (Places.count_name N (Places.read_tests N (Places.test_signals N (map (Places.test_of N) tests)) w f)))
  present_layer tests None w f = ap (λ (h : Places.Walk N). h w f) (ap (Places.walk_of N) (sym (rolls-Present tests None)) ∙ fold-roll-Equation N (Places.Walk N) (Places.AnArm N) (Places.AGuard N) (Places.InArm N) (Places.AState N) (Places.ATest N)
      (Places.equation_step N) (Places.arm_step N) (Places.guard_step N) (Places.handler_step N) (Places.state_step N) (Places.test_step N) (Equation-F.Present tests None))
  present_layer tests (Some o) w f = ap (λ (h : Places.Walk N). h w f) (ap (Places.walk_of N) (sym (rolls-Present tests (Some o))) ∙ fold-roll-Equation N (Places.Walk N) (Places.AnArm N) (Places.AGuard N) (Places.InArm N) (Places.AState N) (Places.ATest N)
      (Places.equation_step N) (Places.arm_step N) (Places.guard_step N) (Places.handler_step N) (Places.state_step N) (Places.test_step N) (Equation-F.Present tests (Some o)))

  next_kept : (xs : List ℕ) (w : Where) (f : Places.Contents N) → (Places.read_tests N xs w f).next ≡ f.next
  next_kept [] w f = refl
  next_kept (x ∷ xs) w f = next_kept xs w (Places.read N (Places.tests x (around w)) f)

  pub present_is : (eq : Equation N) (tests slice again : List (Test N)) (other : Option (Handler N)) (m k : ℕ) (w : Where) (f r g h : Places.Contents N)
      → eq ≡ Present tests other → slice ≡ tests → again ≡ tests → k ≡ length tests
      → r ≡ Places.read_tests N (map signal_of slice) w f → m ≡ r.next → g ≡ Places.count_name N r
      → h ≡ Places.arms_from N m 0 (Places.test_walks N (map (Places.test_of N) again)) w g
      → Places.other_arm N m k (option_map (Places.handler_of N) other) w h ≡ Places.walk_of N eq w f
  present_is eq tests slice again other m k w f r g h is same also count now number named then =
      let signals : List ℕ = Places.test_signals N (map (Places.test_of N) tests) in
      let read : r ≡ Places.read_tests N signals w f = now ∙ (λ i. Places.read_tests N (map signal_of (same i)) w f) ∙ (λ i. Places.read_tests N (sym (signals_are N tests) i) w f) in
      let first : m ≡ f.next = number ∙ ap (λ (z : Places.Contents N). z.next) read ∙ next_kept signals w f in
      let long : k ≡ length (map (Places.test_of N) tests) = count ∙ sym (length-map tests (Places.test_of N)) in
      let before : h ≡ Places.arms_from N f.next 0 (Places.test_walks N (map (Places.test_of N) tests)) w (Places.count_name N (Places.read_tests N signals w f)) =
      then ∙ (λ i. Places.arms_from N (first i) 0 (Places.test_walks N (map (Places.test_of N) (also i))) w ((named ∙ ap (Places.count_name N) read) i)) in
      (λ i. Places.other_arm N (first i) (long i) (option_map (Places.handler_of N) other) w (before i))
      ∙ sym (ap (λ z. Places.walk_of N z w f) is ∙ present_layer tests other w f)

  pub automaton_is : (eq : Equation N) (states slice again : List (State N)) (m : ℕ) (w : Where) (f g : Places.Contents N)
      → eq ≡ Automaton states → slice ≡ states → again ≡ states → m ≡ f.next
      → g ≡ Places.open_automaton N (map title_of slice) (joined (map targets_of slice)) f
      → Places.arms_from N m 0 (Places.state_walks N (map (Places.state_of N) again)) w g ≡ Places.walk_of N eq w f
  automaton_is eq states slice again m w f g is same also number now =
      (λ i. Places.arms_from N (number i) 0 (Places.state_walks N (map (Places.state_of N) (also i))) w (now i))
      ∙ (λ i. Places.arms_from N f.next 0 (Places.state_walks N (map (Places.state_of N) states)) w (Places.open_automaton N (map title_of (same i)) (joined (map targets_of (same i))) f))
      ∙ (λ i. Places.arms_from N f.next 0 (Places.state_walks N (map (Places.state_of N) states)) w (Places.open_automaton N (sym (titles_are N states) i) (sym (targets_are N states) i) f))
      ∙ sym (ap (λ (h : Places.Walk N). h w f) (ap (Places.walk_of N) (is ∙ sym (rolls-Automaton states)) ∙ fold-roll-Equation N (Places.Walk N) (Places.AnArm N) (Places.AGuard N) (Places.InArm N) (Places.AState N) (Places.ATest N)
      (Places.equation_step N) (Places.arm_step N) (Places.guard_step N) (Places.handler_step N) (Places.state_step N) (Places.test_step N) (Equation-F.Automaton states)))

  -- one more guard
  pub guarded : {X : Type 0} (g : X → Places.AGuard N) (xs : List X) (i : ℕ) (x : X) (m j : ℕ) (w : Where) (f new whole : Places.Contents N)
      → i < length xs → get_or xs i x ≡ x → Places.walk_guards N (map g (drop i xs)) m j w f ≡ whole → new ≡ (g x).walk m j w f
      → Places.walk_guards N (map g (drop (i + 1) xs)) m j w new ≡ whole
  guarded g xs i x m j w f new whole below is before one =
      ap (λ z. Places.walk_guards N (map g (drop (i + 1) xs)) m j w z) one ∙ sym (ap (λ l. Places.walk_guards N (map g l) m j w f) (rest xs i x below is)) ∙ before

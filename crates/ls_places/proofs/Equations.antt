-- The walk through an equation that has parts, from the steps that the code takes.
use Rattle.std.specs.Prelude.{◌≡◌, ℕ, ◌+◌, Bool, List, ◌++◌, map, length, Option, Some, None, option_map}
use Rattle.std.proofs.Common.{ap, sym, ◌∙◌, zero-add}
use Rattle.std.proofs.lemmas.List.{length-map}
use Rattle.ls_ast.specs.declared.tree.Arm.{Arm}
use Rattle.ls_ast.specs.declared.tree.Expr.{Expr}
use Rattle.ls_ast.specs.declared.tree.Equation.{Equation, fold-roll-Equation}
use Rattle.ls_ast.specs.declared.tree.Equation.TheOpen.{Equation-F}
use Rattle.ls_ast.specs.declared.tree.Equation.TheVariants.{Reset, Match, Present, Automaton, rolls-Reset, rolls-Match, rolls-Present, rolls-Automaton}
use Rattle.ls_ast.specs.declared.tree.Handler.{Handler}
use Rattle.ls_ast.specs.declared.tree.State.{State}
use Rattle.ls_ast.specs.declared.tree.Test.{Test}
use Rattle.ls_places.specs.declared.around.Where.{Where}
use Rattle.ls_places.specs.Blocks.{case_of, signal_of}
use Rattle.ls_places.specs.Places
use Rattle.ls_places.proofs.Layers.{cases_are, signals_are}
use Rattle.ls_places.proofs.Turns.{arms_after}

module _ (N : Type 0) (first : ℕ) (cases : ℕ → Option ℕ) (signal : Expr N → Bool) where
  abbrev walk_of : Equation N → Places.Walk N
  walk_of = Places.walk_of N first cases signal

  abbrev arm_of : Arm N → Places.AnArm N
  arm_of = Places.arm_of N first cases signal

  abbrev test_of : Test N → Places.ATest N
  test_of = Places.test_of N first cases signal

  abbrev state_of : State N → Places.AState N
  state_of = Places.state_of N first cases signal

  abbrev handler_of : Handler N → Places.InArm N
  handler_of = Places.handler_of N first cases signal

  pub reset_is : (eq : Equation N) (eqs slice : List (Equation N)) (e : Expr N) (w v : Where) (f g : Places.Found N)
      → eq ≡ Reset eqs e → slice ≡ eqs → v ≡ Places.in_reset (length f.resets) w
      → g ≡ Places.open_reset N e w f
      → Places.walk_all N (map walk_of slice) v g ≡ walk_of eq w f
  reset_is eq eqs slice e w v f g is same inside now =
      (λ i. Places.walk_all N (map walk_of (same i)) (inside i) (now i))
      ∙ sym (ap (λ (h : Places.Walk N). h w f) (ap walk_of (is ∙ sym (rolls-Reset eqs e)) ∙ fold-roll-Equation N (Places.Walk N) (Places.AnArm N) (Places.AGuard N) (Places.InArm N) (Places.AState N) (Places.ATest N)
      (Places.equation_step N first cases signal) (Places.arm_step N first cases signal) (Places.guard_step N first cases signal)
      (Places.handler_step N first cases signal) (Places.state_step N first cases signal) (Places.test_step N first cases signal) (Equation-F.Reset eqs e)))

  pub match_is : (eq : Equation N) (e : Expr N) (arms slice again : List (Arm N)) (m : ℕ) (w : Where) (f g : Places.Found N)
      → eq ≡ Match e arms → slice ≡ arms → again ≡ arms → m ≡ first + length f.names
      → g ≡ Places.open_match N e (map (case_of cases) slice) w f
      → Places.arms_from N m 0 (Places.arm_walks N (map arm_of again)) w g ≡ walk_of eq w f
  match_is eq e arms slice again m w f g is same also number now =
      (λ i. Places.arms_from N (number i) 0 (Places.arm_walks N (map arm_of (also i))) w (now i))
      ∙ (λ i. Places.arms_from N (first + length f.names) 0 (Places.arm_walks N (map arm_of arms)) w (Places.open_match N e (map (case_of cases) (same i)) w f))
      ∙ (λ i. Places.arms_from N (first + length f.names) 0 (Places.arm_walks N (map arm_of arms)) w (Places.open_match N e (sym (cases_are N first cases signal arms) i) w f))
      ∙ sym (ap (λ (h : Places.Walk N). h w f) (ap walk_of (is ∙ sym (rolls-Match e arms)) ∙ fold-roll-Equation N (Places.Walk N) (Places.AnArm N) (Places.AGuard N) (Places.InArm N) (Places.AState N) (Places.ATest N)
      (Places.equation_step N first cases signal) (Places.arm_step N first cases signal) (Places.guard_step N first cases signal)
      (Places.handler_step N first cases signal) (Places.state_step N first cases signal) (Places.test_step N first cases signal) (Equation-F.Match e arms)))

  present_layer : (tests : List (Test N)) (other : Option (Handler N)) (w : Where) (f : Places.Found N)
      → walk_of (Present tests other) w f ≡ Places.arms_from N (first + length f.names) 0 (Places.test_walks N (map test_of tests) ++ Places.option_list (option_map handler_of other)) w
      (Places.open_present N (Places.test_signals N (map test_of tests)) w f)
  present_layer tests None w f = ap (λ (h : Places.Walk N). h w f) (ap walk_of (sym (rolls-Present tests None)) ∙ fold-roll-Equation N (Places.Walk N) (Places.AnArm N) (Places.AGuard N) (Places.InArm N) (Places.AState N) (Places.ATest N)
      (Places.equation_step N first cases signal) (Places.arm_step N first cases signal) (Places.guard_step N first cases signal)
      (Places.handler_step N first cases signal) (Places.state_step N first cases signal) (Places.test_step N first cases signal) (Equation-F.Present tests None))
  present_layer tests (Some o) w f = ap (λ (h : Places.Walk N). h w f) (ap walk_of (sym (rolls-Present tests (Some o))) ∙ fold-roll-Equation N (Places.Walk N) (Places.AnArm N) (Places.AGuard N) (Places.InArm N) (Places.AState N) (Places.ATest N)
      (Places.equation_step N first cases signal) (Places.arm_step N first cases signal) (Places.guard_step N first cases signal)
      (Places.handler_step N first cases signal) (Places.state_step N first cases signal) (Places.test_step N first cases signal) (Equation-F.Present tests (Some o)))

  pub present_is : (eq : Equation N) (tests slice again : List (Test N)) (other : Option (Handler N)) (m k : ℕ) (w : Where) (f g h : Places.Found N)
      → eq ≡ Present tests other → slice ≡ tests → again ≡ tests → m ≡ first + length f.names → k ≡ length tests
      → g ≡ Places.open_present N (map signal_of slice) w f
      → h ≡ Places.arms_from N m 0 (Places.test_walks N (map test_of again)) w g
      → Places.arms_from N m k (Places.option_list (option_map handler_of other)) w h ≡ walk_of eq w f
  present_is eq tests slice again other m k w f g h is same also number count now then =
      let walks : List (Places.InArm N) = Places.test_walks N (map test_of tests) in
      let others : List (Places.InArm N) = Places.option_list (option_map handler_of other) in
      let named_now : Places.Found N = Places.open_present N (Places.test_signals N (map test_of tests)) w f in
      let opened : g ≡ named_now = now ∙ (λ i. Places.open_present N (map signal_of (same i)) w f) ∙ (λ i. Places.open_present N (sym (signals_are N first cases signal tests) i) w f) in
      let long : k ≡ 0 + length walks = count ∙ sym (zero-add (length walks) ∙ length-map (map test_of tests) (λ t. t.walk) ∙ length-map tests test_of) in
      let before : h ≡ Places.arms_from N (first + length f.names) 0 walks w named_now = then ∙ (λ i. Places.arms_from N (number i) 0 (Places.test_walks N (map test_of (also i))) w (opened i)) in
      (λ i. Places.arms_from N (number i) (long i) others w (before i))
      ∙ sym (arms_after N (first + length f.names) 0 walks others w named_now)
      ∙ sym (ap (λ z. walk_of z w f) is ∙ present_layer tests other w f)

  pub automaton_is : (eq : Equation N) (states slice : List (State N)) (w : Where) (f : Places.Found N)
      → eq ≡ Automaton states → slice ≡ states
      → Places.automaton_at N first cases signal (map state_of slice) w f (Places.open_modes N w.place f) ≡ walk_of eq w f
  automaton_is eq states slice w f is same =
      ap (λ (z : List (State N)). Places.automaton_at N first cases signal (map state_of z) w f (Places.open_modes N w.place f)) same
      ∙ sym (ap (λ (h : Places.Walk N). h w f) (ap walk_of (is ∙ sym (rolls-Automaton states)) ∙ fold-roll-Equation N (Places.Walk N) (Places.AnArm N) (Places.AGuard N) (Places.InArm N) (Places.AState N) (Places.ATest N)
      (Places.equation_step N first cases signal) (Places.arm_step N first cases signal) (Places.guard_step N first cases signal)
      (Places.handler_step N first cases signal) (Places.state_step N first cases signal) (Places.test_step N first cases signal) (Equation-F.Automaton states)))

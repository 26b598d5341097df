-- What equations and blocks ask, as the walk goes through them.
use Rattle.std.specs.Prelude.{◌≡◌, refl, ℕ, suc, ◌+◌, OnOk, IfOk, List, [], ◌∷◌, ◌++◌, map, length, Option, Some, None}
use Rattle.std.proofs.Common.{ap, ap₂, sym, ◌∙◌, arith, Result, Ok, Err}
use Rattle.ls_ast.specs.declared.tree.Arm.{Arm, fold_out-Arm}
use Rattle.ls_ast.specs.declared.tree.BodyOf.{BodyOf}
use Rattle.ls_ast.specs.declared.tree.Equation.{Equation, fold-roll-Equation, roll-Equation, map-Equation}
use Rattle.ls_ast.specs.declared.tree.Equation.TheOpen.{Equation-F}
use Rattle.ls_ast.specs.declared.tree.Equation.TheVariants as eq
use Rattle.ls_ast.specs.declared.tree.Expr.{Expr}
use Rattle.ls_ast.specs.declared.tree.Guard.{Guard, fold_out-Guard}
use Rattle.ls_ast.specs.declared.tree.Handler.{Handler, fold_out-Handler}
use Rattle.ls_ast.specs.declared.tree.Pat.{Pat}
use Rattle.ls_ast.specs.declared.tree.State.{State, out-State, fold_out-State}
use Rattle.ls_ast.specs.declared.tree.Test.{Test, fold_out-Test}
use Rattle.ls_base.specs.declared.Name.{Name}
use Rattle.ls_terms.specs.declared.types.TypeTerm.{TypeTerm}
use Rattle.type_demands.specs.declared.bodies.Asking.{Asking}
use Rattle.type_readings.specs.declared.given.Given.{Given}
use Rattle.type_demands.specs.Walks as spec
use Rattle.type_demands.specs.Walks.{took, took_arm, all, arms_from, all_guards, option_list}
use Rattle.type_readings.proofs.Forms.{ty_is}
use Rattle.type_rules.specs.declared.around.Around.{Around}
use Rattle.type_rules.specs.declared.demand.Demand.{Demand}
use Rattle.type_rules.specs.Bodies as B
use Rattle.type_rules.specs.Bodies.{Asks, ArmAsks, CaseAsks, in_do, in_let}
use Rattle.type_rules.specs.Numbers.{Placed, place_of}

-- ---- states of the walk

abbrev state_of : List (Demand ℕ) → ℕ → Asking
state_of ds n = record { out = ds; next = n }

pub same_state : (ds es : List (Demand ℕ)) (m n : ℕ) → ds ≡ es → m ≡ n → state_of ds m ≡ state_of es n
same_state ds es m n p q = λ i. state_of (p i) (q i)

grouped : (xs ys zs : List (Demand ℕ)) → (xs ++ ys) ++ zs ≡ xs ++ (ys ++ zs)
grouped [] ys zs = refl
grouped (x ∷ xs) ys zs = ap (λ z. x ∷ z) (grouped xs ys zs)

nothing : (ds : List (Demand ℕ)) → ds ++ [] ≡ ds
nothing [] = refl
nothing (d ∷ ds) = ap (λ z. d ∷ z) (nothing ds)

sums : (k m n : ℕ) → (k + m) + n ≡ k + (m + n)
sums k m n = omega arith

added : (k a c d : ℕ) → ((k + a) + c) + d ≡ k + ((a + c) + d)
added k a c d = omega arith

no_more : (k : ℕ) → k ≡ k + 0
no_more k = omega arith

pub all_is : (qs : List (Asks Placed ℕ)) (w : Around) (s : Asking) → all qs w s ≡ state_of (s.out ++ B.ask_all Placed ℕ qs w s.next) (s.next + B.names_all Placed ℕ qs)
all_is [] w s = same_state s.out (s.out ++ []) s.next (s.next + 0) (sym (nothing s.out)) (no_more s.next)
all_is (q ∷ qs) w s =
    all_is qs w (took q w s)
    ∙ same_state _ _ _ _ (grouped s.out (q.at w s.next) (B.ask_all Placed ℕ qs w (s.next + q.names))) (sums s.next q.names (B.names_all Placed ℕ qs))

pub arms_are : (m j : ℕ) (as' : List (ArmAsks Placed ℕ)) (w : Around) (s : Asking)
    → arms_from m j as' w s ≡ state_of (s.out ++ B.ask_arms Placed ℕ m j as' w s.next) (s.next + B.names_arms Placed ℕ as')
arms_are m j [] w s = same_state s.out (s.out ++ []) s.next (s.next + 0) (sym (nothing s.out)) (no_more s.next)
arms_are m j (a ∷ rest) w s =
    arms_are m (suc j) rest w (took_arm a m j w s)
    ∙ same_state _ _ _ _ (grouped s.out (a.at m j w s.next) (B.ask_arms Placed ℕ m (suc j) rest w (s.next + a.names))) (sums s.next a.names (B.names_arms Placed ℕ rest))

pub guards_are : (gs : List (ArmAsks Placed ℕ)) (m j : ℕ) (w : Around) (s : Asking)
    → all_guards gs m j w s ≡ state_of (s.out ++ B.ask_guards Placed ℕ gs m j w s.next) (s.next + B.names_arms Placed ℕ gs)
guards_are [] m j w s = same_state s.out (s.out ++ []) s.next (s.next + 0) (sym (nothing s.out)) (no_more s.next)
guards_are (a ∷ rest) m j w s =
    guards_are rest m j w (took_arm a m j w s)
    ∙ same_state _ _ _ _ (grouped s.out (a.at m j w s.next) (B.ask_guards Placed ℕ rest m j w (s.next + a.names))) (sums s.next a.names (B.names_arms Placed ℕ rest))

shifted : (k n : ℕ) → suc k + n ≡ k + suc n
shifted k n = omega arith

-- arms that come after others
pub arms_after : (m j : ℕ) (xs ys : List (ArmAsks Placed ℕ)) (w : Around) (s : Asking) → arms_from m j (xs ++ ys) w s ≡ arms_from m (j + length xs) ys w (arms_from m j xs w s)
arms_after m j [] ys w s = ap (λ k. arms_from m k ys w s) (no_more j)
arms_after m j (x ∷ xs) ys w s =
    arms_after m (suc j) xs ys w (took_arm x m j w s)
    ∙ ap (λ k. arms_from m k ys w (arms_from m (suc j) xs w (took_arm x m j w s))) (shifted j (length xs))

pub ok_to : {A X E : Type 0} (r : Result X E) (a x y : A) → OnOk r (a ≡ x) → x ≡ y → OnOk r (a ≡ y)
ok_to (Ok v) a x y h e = h ∙ e
ok_to (Err v) a x y h e = tt

pub ok_map : {X E : Type 0} (r : Result X E) (P Q : Type 0) → (P → Q) → OnOk r P → OnOk r Q
ok_map (Ok v) P Q f h = f h
ok_map (Err v) P Q f h = tt

pub if_ok_to : {A E : Type 0} (r : Result A E) (x y : A) → IfOk r (λ v. v ≡ x) → x ≡ y → IfOk r (λ v. v ≡ y)
if_ok_to (Ok v) x y h e = h ∙ e
if_ok_to (Err v) x y h e = tt

module _ {C : Type 0} (case_type : C → ℕ → Option TypeTerm) (g : Given C) where
  abbrev asks : Equation Placed → Asks Placed ℕ
  asks = spec.asks case_type g

  abbrev arm : Arm Placed → CaseAsks Placed ℕ
  arm = spec.arm case_type g

  abbrev guard : Guard Placed → ArmAsks Placed ℕ
  guard = spec.guard case_type g

  abbrev handler : Handler Placed → ArmAsks Placed ℕ
  handler = spec.handler case_type g

  abbrev state : State Placed → ArmAsks Placed ℕ
  state = spec.state case_type g

  abbrev test : Test Placed → ArmAsks Placed ℕ
  test = spec.test case_type g

  abbrev Layer : Type 0
  Layer = Equation-F Placed (Equation Placed) (Arm Placed) (Guard Placed) (Handler Placed) (State Placed) (Test Placed)

  abbrev below : Layer → Equation-F Placed (Asks Placed ℕ) (CaseAsks Placed ℕ) (ArmAsks Placed ℕ) (ArmAsks Placed ℕ) (ArmAsks Placed ℕ) (ArmAsks Placed ℕ)
  below x = map-Equation Placed (Equation Placed) (Arm Placed) (Guard Placed) (Handler Placed) (State Placed) (Test Placed) (Asks Placed ℕ) (CaseAsks Placed ℕ) (ArmAsks Placed ℕ) (ArmAsks Placed ℕ) (ArmAsks Placed ℕ) (ArmAsks Placed ℕ) asks arm guard handler state test x

  at_roll : (x : Layer) → asks (roll-Equation Placed x) ≡ spec.equation_step case_type g (below x)
  at_roll x = fold-roll-Equation Placed (Asks Placed ℕ) (CaseAsks Placed ℕ) (ArmAsks Placed ℕ) (ArmAsks Placed ℕ) (ArmAsks Placed ℕ) (ArmAsks Placed ℕ)
      (spec.equation_step case_type g) (spec.arm_step case_type g) (spec.guard_step case_type g) (spec.handler_step case_type g) (spec.state_step case_type g) (spec.test_step case_type g) x

  pub handler_is : (h : Handler Placed) → handler h ≡ spec.handler_step case_type g (record { locals = spec.equations case_type g h.locals; eqs = spec.equations case_type g h.eqs })
  handler_is = fold_out-Handler Placed (Asks Placed ℕ) (CaseAsks Placed ℕ) (ArmAsks Placed ℕ) (ArmAsks Placed ℕ) (ArmAsks Placed ℕ) (ArmAsks Placed ℕ)
      (spec.equation_step case_type g) (spec.arm_step case_type g) (spec.guard_step case_type g) (spec.handler_step case_type g) (spec.state_step case_type g) (spec.test_step case_type g)

  arm_is : (a : Arm Placed) → arm a ≡ spec.arm_step case_type g (record { case = a.case; handler = handler a.handler })
  arm_is = fold_out-Arm Placed (Asks Placed ℕ) (CaseAsks Placed ℕ) (ArmAsks Placed ℕ) (ArmAsks Placed ℕ) (ArmAsks Placed ℕ) (ArmAsks Placed ℕ)
      (spec.equation_step case_type g) (spec.arm_step case_type g) (spec.guard_step case_type g) (spec.handler_step case_type g) (spec.state_step case_type g) (spec.test_step case_type g)

  pub test_is : (u : Test Placed) → test u ≡ spec.test_step case_type g (record { signal = u.signal; pat = u.pat; handler = handler u.handler })
  test_is = fold_out-Test Placed (Asks Placed ℕ) (CaseAsks Placed ℕ) (ArmAsks Placed ℕ) (ArmAsks Placed ℕ) (ArmAsks Placed ℕ) (ArmAsks Placed ℕ)
      (spec.equation_step case_type g) (spec.arm_step case_type g) (spec.guard_step case_type g) (spec.handler_step case_type g) (spec.state_step case_type g) (spec.test_step case_type g)

  pub guard_is : (u : Guard Placed) → guard u ≡ spec.guard_step case_type g (record { eqs = spec.equations case_type g u.eqs; cond = u.cond; restart = u.restart; target = u.target })
  guard_is = fold_out-Guard Placed (Asks Placed ℕ) (CaseAsks Placed ℕ) (ArmAsks Placed ℕ) (ArmAsks Placed ℕ) (ArmAsks Placed ℕ) (ArmAsks Placed ℕ)
      (spec.equation_step case_type g) (spec.arm_step case_type g) (spec.guard_step case_type g) (spec.handler_step case_type g) (spec.state_step case_type g) (spec.test_step case_type g)

  pub state_is : (u : State Placed) → state u ≡ spec.state_step case_type g (let o = out-State Placed u in record { name = o.name; handler = handler o.handler; strong = spec.guards case_type g o.strong; weak = spec.guards case_type g o.weak })
  state_is = fold_out-State Placed (Asks Placed ℕ) (CaseAsks Placed ℕ) (ArmAsks Placed ℕ) (ArmAsks Placed ℕ) (ArmAsks Placed ℕ) (ArmAsks Placed ℕ)
      (spec.equation_step case_type g) (spec.arm_step case_type g) (spec.guard_step case_type g) (spec.handler_step case_type g) (spec.state_step case_type g) (spec.test_step case_type g)

  -- ---- the arms of a `match`

  arms_of_is : (as' : List (Arm Placed)) → B.arms_of Placed ℕ (map arm as') ≡ spec.arms case_type g as'
  arms_of_is [] = refl
  arms_of_is (a ∷ rest) = ap₂ (λ x xs. x ∷ xs) (ap (λ (c : CaseAsks Placed ℕ). c.arm) (arm_is a)) (arms_of_is rest)

  abbrev cases_have : ℕ → List (CaseAsks Placed ℕ) → List (Demand ℕ)
  cases_have = spec.rule_cases case_type g

  cases_are : (u : ℕ) (as' : List (Arm Placed)) → cases_have u (map arm as') ≡ spec.cases_have case_type g u as'
  cases_are u [] = refl
  cases_are u (a ∷ rest) = ap₂ (λ xs ys. xs ++ ys) (ap (λ (c : CaseAsks Placed ℕ). spec.named_case case_type g u c.case) (arm_is a)) (cases_are u rest)

  cases_at : (e : Expr Placed) (as' : List (Arm Placed)) → cases_have (spec.said case_type g e).ty (map arm as') ≡ spec.cases_have case_type g (place_of e.note) as'
  cases_at e as' = ap (λ k. cases_have k (map arm as')) (ty_is case_type g e) ∙ cases_are (place_of e.note) as'

  -- ---- one equation

  leaf_equation : (s : Asking) (w : Around) (ds : List (Demand ℕ)) (q : Asks Placed ℕ) → q ≡ record { names = 0; at = λ v m. ds } → state_of (s.out ++ ds) s.next ≡ took q w s
  leaf_equation s w ds q is = same_state _ _ _ _ refl (no_more s.next) ∙ ap (λ (z : Asks Placed ℕ). took z w s) (sym is)

  pub plain_is : (p : Pat) (e : Expr Placed) (w : Around) (s : Asking) → state_of (s.out ++ spec.plain_equation case_type g (B.shape_of p) e w) s.next ≡ took (asks (eq.Plain p e)) w s
  plain_is p e w s = same_state _ _ _ _ refl (no_more s.next) ∙ ap (λ (z : Asks Placed ℕ). took z w s) (sym (ap asks (sym (eq.rolls-Plain p e)) ∙ at_roll (Equation-F.Plain p e)))

  pub clock_is : (x : Name) (e : Expr Placed) (w : Around) (s : Asking) → state_of (s.out ++ spec.named case_type g x.0 e w) (s.next + 1) ≡ took (asks (eq.Clock x e)) w s
  clock_is x e w s = ap (λ (z : Asks Placed ℕ). took z w s) (sym (ap asks (sym (eq.rolls-Clock x e)) ∙ at_roll (Equation-F.Clock x e)))

  pub initial_is : (x : Name) (e : Expr Placed) (w : Around) (s : Asking) → state_of (s.out ++ spec.named case_type g x.0 e w) s.next ≡ took (asks (eq.Initial x e)) w s
  initial_is x e w s = same_state _ _ _ _ refl (no_more s.next) ∙ ap (λ (z : Asks Placed ℕ). took z w s) (sym (ap asks (sym (eq.rolls-Initial x e)) ∙ at_roll (Equation-F.Initial x e)))

  pub emit_is : (x : Name) (e : Expr Placed) (w : Around) (s : Asking) → state_of (s.out ++ spec.emitted case_type g x.0 e w) s.next ≡ took (asks (eq.Emit x e)) w s
  emit_is x e w s = same_state _ _ _ _ refl (no_more s.next) ∙ ap (λ (z : Asks Placed ℕ). took z w s) (sym (ap asks (sym (eq.rolls-Emit x e)) ∙ at_roll (Equation-F.Emit x e)))

  pub reset_is : (eqs : List (Equation Placed)) (e : Expr Placed) (w : Around) (s : Asking)
      → all (spec.equations case_type g eqs) w (state_of (s.out ++ spec.is_bool case_type g e) s.next) ≡ took (asks (eq.Reset eqs e)) w s
  reset_is eqs e w s =
      all_is (spec.equations case_type g eqs) w (state_of (s.out ++ spec.is_bool case_type g e) s.next)
      ∙ same_state _ _ _ _ (grouped s.out (spec.is_bool case_type g e) (B.ask_all Placed ℕ (spec.equations case_type g eqs) w s.next)) refl
      ∙ ap (λ (z : Asks Placed ℕ). took z w s) (sym (ap asks (sym (eq.rolls-Reset eqs e)) ∙ at_roll (Equation-F.Reset eqs e)))

  pub match_is : (e : Expr Placed) (as' : List (Arm Placed)) (w : Around) (s : Asking)
      → arms_from s.next 0 (spec.arms case_type g as') w (spec.match_opened case_type g e as' s) ≡ took (asks (eq.Match e as')) w s
  match_is e as' w s =
      let ds = (spec.said case_type g e).stream in
      arms_are s.next 0 (spec.arms case_type g as') w (spec.match_opened case_type g e as' s)
      ∙ (λ i. state_of ((s.out ++ ds ++ sym (cases_at e as') i) ++ B.ask_arms Placed ℕ s.next 0 (sym (arms_of_is as') i) w (s.next + 1)) ((s.next + 1) + B.names_arms Placed ℕ (sym (arms_of_is as') i)))
      ∙ same_state _ _ _ _
      (grouped (s.out ++ ds) (cases_have (spec.said case_type g e).ty (map arm as')) (B.ask_arms Placed ℕ s.next 0 (B.arms_of Placed ℕ (map arm as')) w (s.next + 1))
      ∙ grouped s.out ds (cases_have (spec.said case_type g e).ty (map arm as') ++ B.ask_arms Placed ℕ s.next 0 (B.arms_of Placed ℕ (map arm as')) w (s.next + 1))
      ∙ ap (λ z. s.out ++ z) (sym (grouped ds (cases_have (spec.said case_type g e).ty (map arm as')) (B.ask_arms Placed ℕ s.next 0 (B.arms_of Placed ℕ (map arm as')) w (s.next + 1)))))
      (sums s.next 1 (B.names_arms Placed ℕ (B.arms_of Placed ℕ (map arm as'))))
      ∙ ap (λ (z : Asks Placed ℕ). took z w s) (sym (ap asks (sym (eq.rolls-Match e as')) ∙ at_roll (Equation-F.Match e as')))

  present_rolls : (tests : List (Test Placed)) (other : Option (Handler Placed)) (w : Around) (s : Asking)
      → state_of (s.out ++ B.ask_arms Placed ℕ s.next 0 (spec.tests case_type g tests ++ spec.otherwise case_type g other) w (s.next + 1)) (s.next + (1 + B.names_arms Placed ℕ (spec.tests case_type g tests ++ spec.otherwise case_type g other)))
      ≡ took (asks (eq.Present tests other)) w s
  present_rolls tests None w s = ap (λ (z : Asks Placed ℕ). took z w s) (sym (ap asks (sym (eq.rolls-Present tests None)) ∙ at_roll (Equation-F.Present tests None)))
  present_rolls tests (Some o) w s = ap (λ (z : Asks Placed ℕ). took z w s) (sym (ap asks (sym (eq.rolls-Present tests (Some o))) ∙ at_roll (Equation-F.Present tests (Some o))))

  same_length : (tests : List (Test Placed)) → length tests ≡ length (spec.tests case_type g tests)
  same_length [] = refl
  same_length (u ∷ rest) = ap suc (same_length rest)

  zero_more : (k : ℕ) → k ≡ 0 + k
  zero_more k = omega arith

  pub present_is : (tests : List (Test Placed)) (other : Option (Handler Placed)) (w : Around) (s : Asking)
      → arms_from s.next (length tests) (spec.otherwise case_type g other) w (arms_from s.next 0 (spec.tests case_type g tests) w (state_of s.out (s.next + 1))) ≡ took (asks (eq.Present tests other)) w s
  present_is tests other w s =
      let ts = spec.tests case_type g tests in
      let os = spec.otherwise case_type g other in
      ap (λ k. arms_from s.next k os w (arms_from s.next 0 ts w (state_of s.out (s.next + 1)))) (same_length tests ∙ zero_more (length ts))
      ∙ sym (arms_after s.next 0 ts os w (state_of s.out (s.next + 1)))
      ∙ arms_are s.next 0 (ts ++ os) w (state_of s.out (s.next + 1))
      ∙ same_state _ _ _ _ refl (sums s.next 1 (B.names_arms Placed ℕ (ts ++ os)))
      ∙ present_rolls tests other w s

  pub automaton_is : (all' : List (State Placed)) (w : Around) (s : Asking) → arms_from s.next 0 (spec.states case_type g all') w (state_of s.out (s.next + 2)) ≡ took (asks (eq.Automaton all')) w s
  automaton_is all' w s =
      arms_are s.next 0 (spec.states case_type g all') w (state_of s.out (s.next + 2))
      ∙ same_state _ _ _ _ refl (sums s.next 2 (B.names_arms Placed ℕ (spec.states case_type g all')))
      ∙ ap (λ (z : Asks Placed ℕ). took z w s) (sym (ap asks (sym (eq.rolls-Automaton all')) ∙ at_roll (Equation-F.Automaton all')))

  -- ---- arms

  pub handler_took : (h : Handler Placed) (m j : ℕ) (w : Around) (s : Asking)
      → all (spec.equations case_type g h.eqs) (in_do m j w) (all (spec.equations case_type g h.locals) (in_let m j w) s) ≡ took_arm (handler h) m j w s
  handler_took h m j w s =
      let ls = spec.equations case_type g h.locals in
      let es = spec.equations case_type g h.eqs in
      ap (λ z. all es (in_do m j w) z) (all_is ls (in_let m j w) s)
      ∙ all_is es (in_do m j w) (state_of (s.out ++ B.ask_all Placed ℕ ls (in_let m j w) s.next) (s.next + B.names_all Placed ℕ ls))
      ∙ same_state _ _ _ _ (grouped s.out (B.ask_all Placed ℕ ls (in_let m j w) s.next) (B.ask_all Placed ℕ es (in_do m j w) (s.next + B.names_all Placed ℕ ls))) (sums s.next (B.names_all Placed ℕ ls) (B.names_all Placed ℕ es))
      ∙ ap (λ (z : ArmAsks Placed ℕ). took_arm z m j w s) (sym (handler_is h))

  pub test_took : (u : Test Placed) (m j : ℕ) (w : Around) (s : Asking)
      → took_arm (handler u.handler) m j w (state_of (s.out ++ spec.tested case_type g (spec.signal_type case_type g w u.signal.0) u.pat (in_let m j w)) s.next) ≡ took_arm (test u) m j w s
  test_took u m j w s =
      same_state _ _ _ _ (grouped s.out (spec.tested case_type g (spec.signal_type case_type g w u.signal.0) u.pat (in_let m j w)) ((handler u.handler).at m j w s.next)) refl
      ∙ ap (λ (z : ArmAsks Placed ℕ). took_arm z m j w s) (sym (test_is u))

  pub guard_took : (u : Guard Placed) (m j : ℕ) (w : Around) (s v : Asking) → v ≡ all (spec.equations case_type g u.eqs) (in_let m j w) s
      → state_of (v.out ++ spec.is_bool case_type g u.cond) v.next ≡ took_arm (guard u) m j w s
  guard_took u m j w s v is =
      let es = spec.equations case_type g u.eqs in
      ap (λ (z : Asking). state_of (z.out ++ spec.is_bool case_type g u.cond) z.next) (is ∙ all_is es (in_let m j w) s)
      ∙ same_state _ _ _ _ (grouped s.out (B.ask_all Placed ℕ es (in_let m j w) s.next) (spec.is_bool case_type g u.cond)) refl
      ∙ ap (λ (z : ArmAsks Placed ℕ). took_arm z m j w s) (sym (guard_is u))

  pub state_took : (u : State Placed) (m j : ℕ) (w : Around) (s : Asking)
      → all_guards (spec.guards case_type g (out-State Placed u).weak) m j w (all_guards (spec.guards case_type g (out-State Placed u).strong) (m + 1) j w (took_arm (handler (out-State Placed u).handler) m j w s)) ≡ took_arm (state u) m j w s
  state_took u m j w s =
      let h = handler (out-State Placed u).handler in
      let ss = spec.guards case_type g (out-State Placed u).strong in
      let ws = spec.guards case_type g (out-State Placed u).weak in
      let s1 = took_arm h m j w s in
      ap (λ z. all_guards ws m j w z) (guards_are ss (m + 1) j w s1)
      ∙ guards_are ws m j w (state_of (s1.out ++ B.ask_guards Placed ℕ ss (m + 1) j w s1.next) (s1.next + B.names_arms Placed ℕ ss))
      ∙ same_state _ _ _ _
      (grouped s1.out (B.ask_guards Placed ℕ ss (m + 1) j w s1.next) (B.ask_guards Placed ℕ ws m j w (s1.next + B.names_arms Placed ℕ ss))
      ∙ grouped s.out (h.at m j w s.next) (B.ask_guards Placed ℕ ss (m + 1) j w s1.next ++ B.ask_guards Placed ℕ ws m j w (s1.next + B.names_arms Placed ℕ ss))
      ∙ ap (λ z. s.out ++ z) (sym (grouped (h.at m j w s.next) (B.ask_guards Placed ℕ ss (m + 1) j w s1.next) (B.ask_guards Placed ℕ ws m j w (s1.next + B.names_arms Placed ℕ ss)))))
      (added s.next h.names (B.names_arms Placed ℕ ss) (B.names_arms Placed ℕ ws))
      ∙ ap (λ (z : ArmAsks Placed ℕ). took_arm z m j w s) (sym (state_is u))

  -- ---- the same of an equation that is told, in the words of the code

  pub plain_told : (q : Equation Placed) (p : Pat) (e : Expr Placed) (w : Around) (s : Asking) (out : List (Demand ℕ)) → q ≡ eq.Plain p e → out ≡ s.out ++ spec.plain_equation case_type g (B.shape_of p) e w
      → state_of out s.next ≡ took (asks q) w s
  plain_told q p e w s out is now = ap (λ z. state_of z s.next) now ∙ plain_is p e w s ∙ ap (λ z. took (asks z) w s) (sym is)

  pub clock_told : (q : Equation Placed) (x : Name) (e : Expr Placed) (w : Around) (s v : Asking) (out : List (Demand ℕ)) → q ≡ eq.Clock x e → out ≡ s.out ++ spec.named case_type g x.0 e w
      → v ≡ spec.counted 1 (state_of out s.next) → v ≡ took (asks q) w s
  clock_told q x e w s v out is now then = then ∙ ap (λ z. state_of z (s.next + 1)) now ∙ clock_is x e w s ∙ ap (λ z. took (asks z) w s) (sym is)

  pub initial_told : (q : Equation Placed) (x : Name) (e : Expr Placed) (w : Around) (s : Asking) (out : List (Demand ℕ)) → q ≡ eq.Initial x e → out ≡ s.out ++ spec.named case_type g x.0 e w
      → state_of out s.next ≡ took (asks q) w s
  initial_told q x e w s out is now = ap (λ z. state_of z s.next) now ∙ initial_is x e w s ∙ ap (λ z. took (asks z) w s) (sym is)

  pub emit_told : (q : Equation Placed) (x : Name) (e : Expr Placed) (w : Around) (s : Asking) (out : List (Demand ℕ)) → q ≡ eq.Emit x e → out ≡ s.out ++ spec.emitted case_type g x.0 e w
      → state_of out s.next ≡ took (asks q) w s
  emit_told q x e w s out is now = ap (λ z. state_of z s.next) now ∙ emit_is x e w s ∙ ap (λ z. took (asks z) w s) (sym is)

  pub reset_told : (q : Equation Placed) (eqs slice : List (Equation Placed)) (e : Expr Placed) (w : Around) (s : Asking) (out : List (Demand ℕ)) → q ≡ eq.Reset eqs e → slice ≡ eqs
      → out ≡ s.out ++ spec.is_bool case_type g e → all (spec.equations case_type g slice) w (state_of out s.next) ≡ took (asks q) w s
  reset_told q eqs slice e w s out is same now =
      (λ i. all (spec.equations case_type g (same i)) w (state_of (now i) s.next)) ∙ reset_is eqs e w s ∙ ap (λ z. took (asks z) w s) (sym is)

  pub match_told : (q : Equation Placed) (e : Expr Placed) (as' slice again : List (Arm Placed)) (m : ℕ) (w : Around) (s v : Asking) → q ≡ eq.Match e as' → slice ≡ as' → again ≡ as' → m ≡ s.next
      → v ≡ spec.match_opened case_type g e slice s → arms_from m 0 (spec.arms case_type g again) w v ≡ took (asks q) w s
  match_told q e as' slice again m w s v is same also number now =
      (λ i. arms_from (number i) 0 (spec.arms case_type g (also i)) w ((now ∙ ap (λ z. spec.match_opened case_type g e z s) same) i)) ∙ match_is e as' w s ∙ ap (λ z. took (asks z) w s) (sym is)

  pub present_told : (q : Equation Placed) (tests slice : List (Test Placed)) (other : Option (Handler Placed)) (m k : ℕ) (w : Around) (s u v : Asking) → q ≡ eq.Present tests other → slice ≡ tests → m ≡ s.next → k ≡ length tests
      → u ≡ spec.counted 1 s → v ≡ arms_from m 0 (spec.tests case_type g slice) w u → arms_from m k (spec.otherwise case_type g other) w v ≡ took (asks q) w s
  present_told q tests slice other m k w s u v is same number many now then =
      (λ i. arms_from (number i) (many i) (spec.otherwise case_type g other) w ((then ∙ (λ j. arms_from (number j) 0 (spec.tests case_type g (same j)) w (now j))) i)) ∙ present_is tests other w s ∙ ap (λ z. took (asks z) w s) (sym is)

  pub automaton_told : (q : Equation Placed) (all' slice : List (State Placed)) (m : ℕ) (w : Around) (s u : Asking) → q ≡ eq.Automaton all' → slice ≡ all' → m ≡ s.next
      → u ≡ spec.counted 2 s → arms_from m 0 (spec.states case_type g slice) w u ≡ took (asks q) w s
  automaton_told q all' slice m w s u is same number now =
      (λ i. arms_from (number i) 0 (spec.states case_type g (same i)) w (now i)) ∙ automaton_is all' w s ∙ ap (λ z. took (asks z) w s) (sym is)

  pub handler_told : (h : Handler Placed) (m j : ℕ) (local shared w : Around) (s u : Asking) (ls es : List (Equation Placed)) → local ≡ in_let m j w → shared ≡ in_do m j w → ls ≡ h.locals → es ≡ h.eqs
      → u ≡ all (spec.equations case_type g ls) local s → all (spec.equations case_type g es) shared u ≡ took_arm (handler h) m j w s
  handler_told h m j local shared w s u ls es p q a b now =
      (λ i. all (spec.equations case_type g (b i)) (q i) ((now ∙ (λ k. all (spec.equations case_type g (a k)) (p k) s)) i)) ∙ handler_took h m j w s

  pub guard_told : (u : Guard Placed) (m j : ℕ) (inside w : Around) (s v : Asking) (es : List (Equation Placed)) (out : List (Demand ℕ)) → inside ≡ in_let m j w → es ≡ u.eqs
      → v ≡ all (spec.equations case_type g es) inside s → out ≡ v.out ++ spec.is_bool case_type g u.cond → state_of out v.next ≡ took_arm (guard u) m j w s
  guard_told u m j inside w s v es out p a now then =
      ap (λ z. state_of z v.next) then ∙ guard_took u m j w s v (now ∙ (λ k. all (spec.equations case_type g (a k)) (p k) s))

  pub test_told : (u : Test Placed) (m j : ℕ) (inside w : Around) (s : Asking) (signal : Option ℕ) (out : List (Demand ℕ)) → inside ≡ in_let m j w → signal ≡ spec.signal_type case_type g w u.signal.0
      → out ≡ s.out ++ spec.tested case_type g signal u.pat inside → took_arm (handler u.handler) m j w (state_of out s.next) ≡ took_arm (test u) m j w s
  test_told u m j inside w s signal out p q now =
      ap (λ z. took_arm (handler u.handler) m j w (state_of z s.next)) (now ∙ (λ i. s.out ++ spec.tested case_type g (q i) u.pat (p i))) ∙ test_took u m j w s

  pub state_told : (u : State Placed) (m j : ℕ) (w : Around) (s s1 s2 : Asking) (strong weak : List (Guard Placed)) → strong ≡ (out-State Placed u).strong → weak ≡ (out-State Placed u).weak
      → s1 ≡ took_arm (handler (out-State Placed u).handler) m j w s → s2 ≡ all_guards (spec.guards case_type g strong) (m + 1) j w s1 → all_guards (spec.guards case_type g weak) m j w s2 ≡ took_arm (state u) m j w s
  state_told u m j w s s1 s2 strong weak a b now then =
      (λ i. all_guards (spec.guards case_type g (b i)) m j w ((then ∙ (λ k. all_guards (spec.guards case_type g (a k)) (m + 1) j w (now k))) i)) ∙ state_took u m j w s

  -- ---- bodies

  pub body_told : (first : ℕ) (body : BodyOf Placed) (out out1 : List (Demand ℕ)) (slice : List (Equation Placed)) (top : Around) (v : Asking) → slice ≡ body.eqs → top ≡ B.at_top
      → out1 ≡ out ++ (spec.said case_type g body.result).body → v ≡ all (spec.equations case_type g slice) top (state_of out1 first) → v.out ≡ out ++ spec.body_asks case_type g first body
  body_told first body out out1 slice top v same at one now =
      ap (λ (z : Asking). z.out) (now ∙ (λ i. all (spec.equations case_type g (same i)) (at i) (state_of (one i) first)) ∙ all_is (spec.equations case_type g body.eqs) B.at_top (state_of (out ++ (spec.said case_type g body.result).body) first))
      ∙ grouped out (spec.said case_type g body.result).body (B.ask_all Placed ℕ (spec.equations case_type g body.eqs) B.at_top first)

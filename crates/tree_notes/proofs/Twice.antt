-- A tree with other notes twice is the tree with the other notes of the other notes.
use Rattle.std.specs.Prelude.{◌≡◌, List, [], ◌∷◌, map, Some, None, refl}
use Rattle.std.proofs.Common.{ap, ap₂, sym, ◌∙◌, subst}
use Rattle.ls_ast.specs.declared.tree.BodyOf.{BodyOf}
use Rattle.ls_ast.specs.declared.tree.Case.{Case}
use Rattle.ls_ast.specs.declared.tree.Expr.{Expr, fold-roll-Expr, ind-Expr, roll-Expr}
use Rattle.ls_ast.specs.declared.tree.Form.{Form, fold-roll-Form, map-Form, roll-Form}
use Rattle.ls_ast.specs.declared.tree.Form.TheOpen.{Form-F}
use Rattle.ls_ast.specs.declared.tree.Equation.{Equation, fold-Equation, fold-roll-Equation, ind-Equation, map-Equation, roll-Equation}
use Rattle.ls_ast.specs.declared.tree.Equation.TheOpen.{Equation-F, Arm-F, Guard-F, Handler-F, State-F, Test-F}
use Rattle.ls_ast.specs.declared.tree.Arm.{Arm, fold-Arm, fold-roll-Arm, roll-Arm}
use Rattle.ls_ast.specs.declared.tree.Guard.{Guard, fold-Guard, fold-roll-Guard, roll-Guard}
use Rattle.ls_ast.specs.declared.tree.Handler.{Handler, fold-Handler, fold-roll-Handler, roll-Handler}
use Rattle.ls_ast.specs.declared.tree.State.{State, fold-State, fold-roll-State, roll-State}
use Rattle.ls_ast.specs.declared.tree.Test.{Test, fold-Test, fold-roll-Test, roll-Test}
use Rattle.tree_notes.specs.Noted as T

module _ (N M K : Type 0) (f : N → M) (g : M → K) where
  abbrev h : N → K
  h n = g (f n)

  abbrev FormIs : Form N → Type 0
  FormIs x = T.in_form M K g (T.in_form N M f x) ≡ T.in_form N K h x

  abbrev ExprIs : Expr N → Type 0
  ExprIs x = T.in_expr M K g (T.in_expr N M f x) ≡ T.in_expr N K h x

  abbrev WForm : Type 0
  WForm = (x : Form N) × FormIs x

  abbrev WExpr : Type 0
  WExpr = (x : Expr N) × ExprIs x

  abbrev in_pairs : {X Y : Type 0} → (X → Y) → List (Case × X) → List (Case × Y)
  in_pairs {X} {Y} k = map {A = Case × X} {B = Case × Y} (λ c. (c.0, k c.1))

  list_is : (ps : List WExpr) → map (T.in_expr M K g) (map (T.in_expr N M f) (map (λ p. p.0) ps)) ≡ map (T.in_expr N K h) (map (λ p. p.0) ps)
  list_is [] = refl
  list_is (p ∷ ps) = ap₂ (λ x xs. x ∷ xs) p.1 (list_is ps)

  pairs_are : (ps : List (Case × WExpr)) → in_pairs (T.in_expr M K g) (in_pairs (T.in_expr N M f) (in_pairs (λ (p : WExpr). p.0) ps)) ≡ in_pairs (T.in_expr N K h) (in_pairs (λ (p : WExpr). p.0) ps)
  pairs_are [] = refl
  pairs_are (p ∷ ps) = ap₂ (λ (x : Expr K) xs. (p.0, x) ∷ xs) p.1.1 (pairs_are ps)

  abbrev bottom : Form-F N WForm WExpr → Form-F N (Form N) (Expr N)
  bottom y = map-Form N WForm WExpr (Form N) (Expr N) (λ p. p.0) (λ p. p.0) y

  abbrev upf : Form-F N (Form N) (Expr N) → Form-F M (Form M) (Expr M)
  upf x = T.retag (map-Form N (Form N) (Expr N) (Form M) (Expr M) (T.in_form N M f) (T.in_expr N M f) x)

  abbrev upg : Form-F M (Form M) (Expr M) → Form-F K (Form K) (Expr K)
  upg x = T.retag (map-Form M (Form M) (Expr M) (Form K) (Expr K) (T.in_form M K g) (T.in_expr M K g) x)

  abbrev uph : Form-F N (Form N) (Expr N) → Form-F K (Form K) (Expr K)
  uph x = T.retag (map-Form N (Form N) (Expr N) (Form K) (Expr K) (T.in_form N K h) (T.in_expr N K h) x)

  collapse : (y : Form-F N WForm WExpr) → upg (upf (bottom y)) ≡ uph (bottom y)
  collapse (Form-F.Leaf l) = refl
  collapse (Form-F.Case x) = refl
  collapse (Form-F.Var x) = refl
  collapse (Form-F.Last x) = refl
  collapse (Form-F.Asked x) = refl
  collapse (Form-F.Op o ps) = ap (Form-F.Op o) (list_is ps)
  collapse (Form-F.Tuple ps) = ap Form-F.Tuple (list_is ps)
  collapse (Form-F.Pre p) = ap Form-F.Pre p.1
  collapse (Form-F.Fby p q) = ap₂ Form-F.Fby p.1 q.1
  collapse (Form-F.Init p q) = ap₂ Form-F.Init p.1 q.1
  collapse (Form-F.When p x k) = ap (λ z. Form-F.When z x k) p.1
  collapse (Form-F.Merge x ps) = ap (Form-F.Merge x) (pairs_are ps)
  collapse (Form-F.Call run x ps None) = ap (λ z. Form-F.Call run x z None) (list_is ps)
  collapse (Form-F.Call run x ps (Some p)) = ap₂ (λ z w. Form-F.Call run x z (Some w)) (list_is ps) p.1

  pub exprs_twice : (x : Expr N) → ExprIs x
  exprs_twice = ind-Expr N FormIs ExprIs
      (λ x y from. subst (λ z. FormIs (roll-Form N z)) from
      (ap (T.in_form M K g) (fold-roll-Form N (Form M) (Expr M) (T.form_notes N M f) (T.expr_notes N M f) (bottom y))
      ∙ fold-roll-Form M (Form K) (Expr K) (T.form_notes M K g) (T.expr_notes M K g) (upf (bottom y))
      ∙ ap (roll-Form K) (collapse y)
      ∙ sym (fold-roll-Form N (Form K) (Expr K) (T.form_notes N K h) (T.expr_notes N K h) (bottom y))))
      (λ x y from. subst (λ z. ExprIs (roll-Expr N z)) from
      (ap (T.in_expr M K g) (fold-roll-Expr N (Form M) (Expr M) (T.form_notes N M f) (T.expr_notes N M f) (record { note = y.note; form = y.form.0 }))
      ∙ fold-roll-Expr M (Form K) (Expr K) (T.form_notes M K g) (T.expr_notes M K g) (record { note = f y.note; form = T.in_form N M f y.form.0 })
      ∙ (λ i. record { note = h y.note; form = y.form.1 i })
      ∙ sym (fold-roll-Expr N (Form K) (Expr K) (T.form_notes N K h) (T.expr_notes N K h) (record { note = y.note; form = y.form.0 }))))

  abbrev f_equation : Equation N → Equation M
  f_equation = fold-Equation N (Equation M) (Arm M) (Guard M) (Handler M) (State M) (Test M) (T.equation_step N M f) (T.arm_step N M f) (T.guard_step N M f) (T.handler_step N M f) (T.state_step N M f) (T.test_step N M f)

  abbrev g_equation : Equation M → Equation K
  g_equation = fold-Equation M (Equation K) (Arm K) (Guard K) (Handler K) (State K) (Test K) (T.equation_step M K g) (T.arm_step M K g) (T.guard_step M K g) (T.handler_step M K g) (T.state_step M K g) (T.test_step M K g)

  abbrev h_equation : Equation N → Equation K
  h_equation = fold-Equation N (Equation K) (Arm K) (Guard K) (Handler K) (State K) (Test K) (T.equation_step N K h) (T.arm_step N K h) (T.guard_step N K h) (T.handler_step N K h) (T.state_step N K h) (T.test_step N K h)

  abbrev EquationIs : Equation N → Type 0
  EquationIs x = g_equation (f_equation x) ≡ h_equation x

  abbrev WEquation : Type 0
  WEquation = (x : Equation N) × EquationIs x

  abbrev equations_of : List WEquation → List (Equation N)
  equations_of = map {A = WEquation} {B = Equation N} (λ q. q.0)

  all_equation : (ps : List WEquation) → map g_equation (map f_equation (equations_of ps)) ≡ map h_equation (equations_of ps)
  all_equation [] = refl
  all_equation (p ∷ ps) = ap₂ (λ x xs. x ∷ xs) p.1 (all_equation ps)

  abbrev f_arm : Arm N → Arm M
  f_arm = fold-Arm N (Equation M) (Arm M) (Guard M) (Handler M) (State M) (Test M) (T.equation_step N M f) (T.arm_step N M f) (T.guard_step N M f) (T.handler_step N M f) (T.state_step N M f) (T.test_step N M f)

  abbrev g_arm : Arm M → Arm K
  g_arm = fold-Arm M (Equation K) (Arm K) (Guard K) (Handler K) (State K) (Test K) (T.equation_step M K g) (T.arm_step M K g) (T.guard_step M K g) (T.handler_step M K g) (T.state_step M K g) (T.test_step M K g)

  abbrev h_arm : Arm N → Arm K
  h_arm = fold-Arm N (Equation K) (Arm K) (Guard K) (Handler K) (State K) (Test K) (T.equation_step N K h) (T.arm_step N K h) (T.guard_step N K h) (T.handler_step N K h) (T.state_step N K h) (T.test_step N K h)

  abbrev ArmIs : Arm N → Type 0
  ArmIs x = g_arm (f_arm x) ≡ h_arm x

  abbrev WArm : Type 0
  WArm = (x : Arm N) × ArmIs x

  abbrev arms_of : List WArm → List (Arm N)
  arms_of = map {A = WArm} {B = Arm N} (λ q. q.0)

  all_arm : (ps : List WArm) → map g_arm (map f_arm (arms_of ps)) ≡ map h_arm (arms_of ps)
  all_arm [] = refl
  all_arm (p ∷ ps) = ap₂ (λ x xs. x ∷ xs) p.1 (all_arm ps)

  abbrev f_guard : Guard N → Guard M
  f_guard = fold-Guard N (Equation M) (Arm M) (Guard M) (Handler M) (State M) (Test M) (T.equation_step N M f) (T.arm_step N M f) (T.guard_step N M f) (T.handler_step N M f) (T.state_step N M f) (T.test_step N M f)

  abbrev g_guard : Guard M → Guard K
  g_guard = fold-Guard M (Equation K) (Arm K) (Guard K) (Handler K) (State K) (Test K) (T.equation_step M K g) (T.arm_step M K g) (T.guard_step M K g) (T.handler_step M K g) (T.state_step M K g) (T.test_step M K g)

  abbrev h_guard : Guard N → Guard K
  h_guard = fold-Guard N (Equation K) (Arm K) (Guard K) (Handler K) (State K) (Test K) (T.equation_step N K h) (T.arm_step N K h) (T.guard_step N K h) (T.handler_step N K h) (T.state_step N K h) (T.test_step N K h)

  abbrev GuardIs : Guard N → Type 0
  GuardIs x = g_guard (f_guard x) ≡ h_guard x

  abbrev WGuard : Type 0
  WGuard = (x : Guard N) × GuardIs x

  abbrev guards_of : List WGuard → List (Guard N)
  guards_of = map {A = WGuard} {B = Guard N} (λ q. q.0)

  all_guard : (ps : List WGuard) → map g_guard (map f_guard (guards_of ps)) ≡ map h_guard (guards_of ps)
  all_guard [] = refl
  all_guard (p ∷ ps) = ap₂ (λ x xs. x ∷ xs) p.1 (all_guard ps)

  abbrev f_handler : Handler N → Handler M
  f_handler = fold-Handler N (Equation M) (Arm M) (Guard M) (Handler M) (State M) (Test M) (T.equation_step N M f) (T.arm_step N M f) (T.guard_step N M f) (T.handler_step N M f) (T.state_step N M f) (T.test_step N M f)

  abbrev g_handler : Handler M → Handler K
  g_handler = fold-Handler M (Equation K) (Arm K) (Guard K) (Handler K) (State K) (Test K) (T.equation_step M K g) (T.arm_step M K g) (T.guard_step M K g) (T.handler_step M K g) (T.state_step M K g) (T.test_step M K g)

  abbrev h_handler : Handler N → Handler K
  h_handler = fold-Handler N (Equation K) (Arm K) (Guard K) (Handler K) (State K) (Test K) (T.equation_step N K h) (T.arm_step N K h) (T.guard_step N K h) (T.handler_step N K h) (T.state_step N K h) (T.test_step N K h)

  abbrev HandlerIs : Handler N → Type 0
  HandlerIs x = g_handler (f_handler x) ≡ h_handler x

  abbrev WHandler : Type 0
  WHandler = (x : Handler N) × HandlerIs x

  abbrev handlers_of : List WHandler → List (Handler N)
  handlers_of = map {A = WHandler} {B = Handler N} (λ q. q.0)

  all_handler : (ps : List WHandler) → map g_handler (map f_handler (handlers_of ps)) ≡ map h_handler (handlers_of ps)
  all_handler [] = refl
  all_handler (p ∷ ps) = ap₂ (λ x xs. x ∷ xs) p.1 (all_handler ps)

  abbrev f_state : State N → State M
  f_state = fold-State N (Equation M) (Arm M) (Guard M) (Handler M) (State M) (Test M) (T.equation_step N M f) (T.arm_step N M f) (T.guard_step N M f) (T.handler_step N M f) (T.state_step N M f) (T.test_step N M f)

  abbrev g_state : State M → State K
  g_state = fold-State M (Equation K) (Arm K) (Guard K) (Handler K) (State K) (Test K) (T.equation_step M K g) (T.arm_step M K g) (T.guard_step M K g) (T.handler_step M K g) (T.state_step M K g) (T.test_step M K g)

  abbrev h_state : State N → State K
  h_state = fold-State N (Equation K) (Arm K) (Guard K) (Handler K) (State K) (Test K) (T.equation_step N K h) (T.arm_step N K h) (T.guard_step N K h) (T.handler_step N K h) (T.state_step N K h) (T.test_step N K h)

  abbrev StateIs : State N → Type 0
  StateIs x = g_state (f_state x) ≡ h_state x

  abbrev WState : Type 0
  WState = (x : State N) × StateIs x

  abbrev states_of : List WState → List (State N)
  states_of = map {A = WState} {B = State N} (λ q. q.0)

  all_state : (ps : List WState) → map g_state (map f_state (states_of ps)) ≡ map h_state (states_of ps)
  all_state [] = refl
  all_state (p ∷ ps) = ap₂ (λ x xs. x ∷ xs) p.1 (all_state ps)

  abbrev f_test : Test N → Test M
  f_test = fold-Test N (Equation M) (Arm M) (Guard M) (Handler M) (State M) (Test M) (T.equation_step N M f) (T.arm_step N M f) (T.guard_step N M f) (T.handler_step N M f) (T.state_step N M f) (T.test_step N M f)

  abbrev g_test : Test M → Test K
  g_test = fold-Test M (Equation K) (Arm K) (Guard K) (Handler K) (State K) (Test K) (T.equation_step M K g) (T.arm_step M K g) (T.guard_step M K g) (T.handler_step M K g) (T.state_step M K g) (T.test_step M K g)

  abbrev h_test : Test N → Test K
  h_test = fold-Test N (Equation K) (Arm K) (Guard K) (Handler K) (State K) (Test K) (T.equation_step N K h) (T.arm_step N K h) (T.guard_step N K h) (T.handler_step N K h) (T.state_step N K h) (T.test_step N K h)

  abbrev TestIs : Test N → Type 0
  TestIs x = g_test (f_test x) ≡ h_test x

  abbrev WTest : Type 0
  WTest = (x : Test N) × TestIs x

  abbrev tests_of : List WTest → List (Test N)
  tests_of = map {A = WTest} {B = Test N} (λ q. q.0)

  all_test : (ps : List WTest) → map g_test (map f_test (tests_of ps)) ≡ map h_test (tests_of ps)
  all_test [] = refl
  all_test (p ∷ ps) = ap₂ (λ x xs. x ∷ xs) p.1 (all_test ps)

  abbrev ebottom : Equation-F N WEquation WArm WGuard WHandler WState WTest → Equation-F N (Equation N) (Arm N) (Guard N) (Handler N) (State N) (Test N)
  ebottom y = map-Equation N WEquation WArm WGuard WHandler WState WTest (Equation N) (Arm N) (Guard N) (Handler N) (State N) (Test N) (λ p. p.0) (λ p. p.0) (λ p. p.0) (λ p. p.0) (λ p. p.0) (λ p. p.0) y

  abbrev eupf : Equation-F N (Equation N) (Arm N) (Guard N) (Handler N) (State N) (Test N) → Equation-F M (Equation M) (Arm M) (Guard M) (Handler M) (State M) (Test M)
  eupf x = T.equation_notes N M f (map-Equation N (Equation N) (Arm N) (Guard N) (Handler N) (State N) (Test N) (Equation M) (Arm M) (Guard M) (Handler M) (State M) (Test M) f_equation f_arm f_guard f_handler f_state f_test x)

  abbrev eupg : Equation-F M (Equation M) (Arm M) (Guard M) (Handler M) (State M) (Test M) → Equation-F K (Equation K) (Arm K) (Guard K) (Handler K) (State K) (Test K)
  eupg x = T.equation_notes M K g (map-Equation M (Equation M) (Arm M) (Guard M) (Handler M) (State M) (Test M) (Equation K) (Arm K) (Guard K) (Handler K) (State K) (Test K) g_equation g_arm g_guard g_handler g_state g_test x)

  abbrev euph : Equation-F N (Equation N) (Arm N) (Guard N) (Handler N) (State N) (Test N) → Equation-F K (Equation K) (Arm K) (Guard K) (Handler K) (State K) (Test K)
  euph x = T.equation_notes N K h (map-Equation N (Equation N) (Arm N) (Guard N) (Handler N) (State N) (Test N) (Equation K) (Arm K) (Guard K) (Handler K) (State K) (Test K) h_equation h_arm h_guard h_handler h_state h_test x)

  ecollapse : (y : Equation-F N WEquation WArm WGuard WHandler WState WTest) → eupg (eupf (ebottom y)) ≡ euph (ebottom y)
  ecollapse (Equation-F.Plain q x) = ap (Equation-F.Plain q) (exprs_twice x)
  ecollapse (Equation-F.Clock q x) = ap (Equation-F.Clock q) (exprs_twice x)
  ecollapse (Equation-F.Initial q x) = ap (Equation-F.Initial q) (exprs_twice x)
  ecollapse (Equation-F.Emit q x) = ap (Equation-F.Emit q) (exprs_twice x)
  ecollapse (Equation-F.Reset ps x) = ap₂ Equation-F.Reset (all_equation ps) (exprs_twice x)
  ecollapse (Equation-F.Match x ps) = ap₂ Equation-F.Match (exprs_twice x) (all_arm ps)
  ecollapse (Equation-F.Present ps None) = ap (λ z. Equation-F.Present z None) (all_test ps)
  ecollapse (Equation-F.Present ps (Some q)) = ap₂ (λ z w. Equation-F.Present z (Some w)) (all_test ps) q.1
  ecollapse (Equation-F.Automaton ps) = ap Equation-F.Automaton (all_state ps)

  equation_is : (y : Equation-F N WEquation WArm WGuard WHandler WState WTest) → EquationIs (roll-Equation N (ebottom y))
  equation_is y =
      ap g_equation (fold-roll-Equation N (Equation M) (Arm M) (Guard M) (Handler M) (State M) (Test M) (T.equation_step N M f) (T.arm_step N M f) (T.guard_step N M f) (T.handler_step N M f) (T.state_step N M f) (T.test_step N M f) (ebottom y))
      ∙ fold-roll-Equation M (Equation K) (Arm K) (Guard K) (Handler K) (State K) (Test K) (T.equation_step M K g) (T.arm_step M K g) (T.guard_step M K g) (T.handler_step M K g) (T.state_step M K g) (T.test_step M K g) (eupf (ebottom y))
      ∙ ap (roll-Equation K) (ecollapse y)
      ∙ sym (fold-roll-Equation N (Equation K) (Arm K) (Guard K) (Handler K) (State K) (Test K) (T.equation_step N K h) (T.arm_step N K h) (T.guard_step N K h) (T.handler_step N K h) (T.state_step N K h) (T.test_step N K h) (ebottom y))

  arm_is : (y : Arm-F N WEquation WArm WGuard WHandler WState WTest) → ArmIs (roll-Arm N (record { case = y.case; handler = y.handler.0 }))
  arm_is y =
      ap g_arm (fold-roll-Arm N (Equation M) (Arm M) (Guard M) (Handler M) (State M) (Test M) (T.equation_step N M f) (T.arm_step N M f) (T.guard_step N M f) (T.handler_step N M f) (T.state_step N M f) (T.test_step N M f) (record { case = y.case; handler = y.handler.0 }))
      ∙ fold-roll-Arm M (Equation K) (Arm K) (Guard K) (Handler K) (State K) (Test K) (T.equation_step M K g) (T.arm_step M K g) (T.guard_step M K g) (T.handler_step M K g) (T.state_step M K g) (T.test_step M K g) (record { case = y.case; handler = f_handler y.handler.0 })
      ∙ (λ i. record { case = y.case; handler = y.handler.1 i })
      ∙ sym (fold-roll-Arm N (Equation K) (Arm K) (Guard K) (Handler K) (State K) (Test K) (T.equation_step N K h) (T.arm_step N K h) (T.guard_step N K h) (T.handler_step N K h) (T.state_step N K h) (T.test_step N K h) (record { case = y.case; handler = y.handler.0 }))

  test_is : (y : Test-F N WEquation WArm WGuard WHandler WState WTest) → TestIs (roll-Test N (record { signal = y.signal; pat = y.pat; handler = y.handler.0 }))
  test_is y =
      ap g_test (fold-roll-Test N (Equation M) (Arm M) (Guard M) (Handler M) (State M) (Test M) (T.equation_step N M f) (T.arm_step N M f) (T.guard_step N M f) (T.handler_step N M f) (T.state_step N M f) (T.test_step N M f) (record { signal = y.signal; pat = y.pat; handler = y.handler.0 }))
      ∙ fold-roll-Test M (Equation K) (Arm K) (Guard K) (Handler K) (State K) (Test K) (T.equation_step M K g) (T.arm_step M K g) (T.guard_step M K g) (T.handler_step M K g) (T.state_step M K g) (T.test_step M K g) (record { signal = y.signal; pat = y.pat; handler = f_handler y.handler.0 })
      ∙ (λ i. record { signal = y.signal; pat = y.pat; handler = y.handler.1 i })
      ∙ sym (fold-roll-Test N (Equation K) (Arm K) (Guard K) (Handler K) (State K) (Test K) (T.equation_step N K h) (T.arm_step N K h) (T.guard_step N K h) (T.handler_step N K h) (T.state_step N K h) (T.test_step N K h) (record { signal = y.signal; pat = y.pat; handler = y.handler.0 }))

  handler_is : (y : Handler-F N WEquation WArm WGuard WHandler WState WTest) → HandlerIs (roll-Handler N (record { locals = equations_of y.locals; eqs = equations_of y.eqs }))
  handler_is y =
      ap g_handler (fold-roll-Handler N (Equation M) (Arm M) (Guard M) (Handler M) (State M) (Test M) (T.equation_step N M f) (T.arm_step N M f) (T.guard_step N M f) (T.handler_step N M f) (T.state_step N M f) (T.test_step N M f) (record { locals = equations_of y.locals; eqs = equations_of y.eqs }))
      ∙ fold-roll-Handler M (Equation K) (Arm K) (Guard K) (Handler K) (State K) (Test K) (T.equation_step M K g) (T.arm_step M K g) (T.guard_step M K g) (T.handler_step M K g) (T.state_step M K g) (T.test_step M K g) (record { locals = map f_equation (equations_of y.locals); eqs = map f_equation (equations_of y.eqs) })
      ∙ (λ i. record { locals = all_equation y.locals i; eqs = all_equation y.eqs i })
      ∙ sym (fold-roll-Handler N (Equation K) (Arm K) (Guard K) (Handler K) (State K) (Test K) (T.equation_step N K h) (T.arm_step N K h) (T.guard_step N K h) (T.handler_step N K h) (T.state_step N K h) (T.test_step N K h) (record { locals = equations_of y.locals; eqs = equations_of y.eqs }))

  guard_is : (y : Guard-F N WEquation WArm WGuard WHandler WState WTest) → GuardIs (roll-Guard N (record { eqs = equations_of y.eqs; cond = y.cond; restart = y.restart; target = y.target }))
  guard_is y =
      ap g_guard (fold-roll-Guard N (Equation M) (Arm M) (Guard M) (Handler M) (State M) (Test M) (T.equation_step N M f) (T.arm_step N M f) (T.guard_step N M f) (T.handler_step N M f) (T.state_step N M f) (T.test_step N M f) (record { eqs = equations_of y.eqs; cond = y.cond; restart = y.restart; target = y.target }))
      ∙ fold-roll-Guard M (Equation K) (Arm K) (Guard K) (Handler K) (State K) (Test K) (T.equation_step M K g) (T.arm_step M K g) (T.guard_step M K g) (T.handler_step M K g) (T.state_step M K g) (T.test_step M K g) (record { eqs = map f_equation (equations_of y.eqs); cond = T.in_expr N M f y.cond; restart = y.restart; target = y.target })
      ∙ (λ i. record { eqs = all_equation y.eqs i; cond = exprs_twice y.cond i; restart = y.restart; target = y.target })
      ∙ sym (fold-roll-Guard N (Equation K) (Arm K) (Guard K) (Handler K) (State K) (Test K) (T.equation_step N K h) (T.arm_step N K h) (T.guard_step N K h) (T.handler_step N K h) (T.state_step N K h) (T.test_step N K h) (record { eqs = equations_of y.eqs; cond = y.cond; restart = y.restart; target = y.target }))

  state_is : (y : State-F N WEquation WArm WGuard WHandler WState WTest) → StateIs (roll-State N (record { name = y.name; handler = y.handler.0; strong = guards_of y.strong; weak = guards_of y.weak }))
  state_is y =
      ap g_state (fold-roll-State N (Equation M) (Arm M) (Guard M) (Handler M) (State M) (Test M) (T.equation_step N M f) (T.arm_step N M f) (T.guard_step N M f) (T.handler_step N M f) (T.state_step N M f) (T.test_step N M f) (record { name = y.name; handler = y.handler.0; strong = guards_of y.strong; weak = guards_of y.weak }))
      ∙ fold-roll-State M (Equation K) (Arm K) (Guard K) (Handler K) (State K) (Test K) (T.equation_step M K g) (T.arm_step M K g) (T.guard_step M K g) (T.handler_step M K g) (T.state_step M K g) (T.test_step M K g) (record { name = y.name; handler = f_handler y.handler.0; strong = map f_guard (guards_of y.strong); weak = map f_guard (guards_of y.weak) })
      ∙ (λ i. roll-State K (record { name = y.name; handler = y.handler.1 i; strong = all_guard y.strong i; weak = all_guard y.weak i }))
      ∙ sym (fold-roll-State N (Equation K) (Arm K) (Guard K) (Handler K) (State K) (Test K) (T.equation_step N K h) (T.arm_step N K h) (T.guard_step N K h) (T.handler_step N K h) (T.state_step N K h) (T.test_step N K h) (record { name = y.name; handler = y.handler.0; strong = guards_of y.strong; weak = guards_of y.weak }))

  equations_twice : (x : Equation N) → EquationIs x
  equations_twice = ind-Equation N EquationIs ArmIs GuardIs HandlerIs StateIs TestIs
      (λ x y from. subst (λ z. EquationIs (roll-Equation N z)) from (equation_is y))
      (λ x y from. subst (λ z. ArmIs (roll-Arm N z)) from (arm_is y))
      (λ x y from. subst (λ z. GuardIs (roll-Guard N z)) from (guard_is y))
      (λ x y from. subst (λ z. HandlerIs (roll-Handler N z)) from (handler_is y))
      (λ x y from. subst (λ z. StateIs (roll-State N z)) from (state_is y))
      (λ x y from. subst (λ z. TestIs (roll-Test N z)) from (test_is y))

  list_twice : (xs : List (Equation N)) → map g_equation (map f_equation xs) ≡ map h_equation xs
  list_twice [] = refl
  list_twice (x ∷ xs) = ap₂ (λ y ys. y ∷ ys) (equations_twice x) (list_twice xs)

  pub body_twice : (b : BodyOf N) → T.in_body M K g (T.in_body N M f b) ≡ T.in_body N K h b
  body_twice b = λ i. record { result = exprs_twice b.result i; eqs = list_twice b.eqs i }

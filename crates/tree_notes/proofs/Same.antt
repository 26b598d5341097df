-- A tree with its own notes.
use Rattle.std.specs.Prelude.{◌≡◌, List, [], ◌∷◌, map, Some, None, refl}
use Rattle.std.proofs.Common.{ap, ap₂, ◌∙◌, subst}
use Rattle.ls_ast.specs.declared.tree.BodyOf.{BodyOf}
use Rattle.ls_ast.specs.declared.tree.Case.{Case}
use Rattle.ls_ast.specs.declared.tree.Expr.{Expr, fold-roll-Expr, ind-Expr, roll-Expr}
use Rattle.ls_ast.specs.declared.tree.Form.{Form, fold-roll-Form, map-Form, roll-Form}
use Rattle.ls_ast.specs.declared.tree.Form.TheOpen.{Form-F}
use Rattle.ls_ast.specs.declared.tree.Equation.{Equation, fold-Equation, fold-roll-Equation, ind-Equation, map-Equation, roll-Equation}
use Rattle.ls_ast.specs.declared.tree.Equation.TheOpen.{Equation-F, Arm-F, Guard-F, Handler-F, State-F, Test-F}
use Rattle.ls_ast.specs.declared.tree.Arm.{Arm, fold-Arm, fold-roll-Arm, roll-Arm}
use Rattle.ls_ast.specs.declared.tree.Guard.{Guard, fold-Guard, fold-roll-Guard, roll-Guard}
use Rattle.ls_ast.specs.declared.tree.Handler.{Handler, fold-Handler, fold-roll-Handler, roll-Handler}
use Rattle.ls_ast.specs.declared.tree.State.{State, fold-State, fold-roll-State, roll-State}
use Rattle.ls_ast.specs.declared.tree.Test.{Test, fold-Test, fold-roll-Test, roll-Test}
use Rattle.tree_notes.specs.Noted as T

module _ (N : Type 0) where
  abbrev same : N → N
  same n = n

  abbrev FormIs : Form N → Type 0
  FormIs x = T.in_form N N same x ≡ x

  abbrev ExprIs : Expr N → Type 0
  ExprIs x = T.in_expr N N same x ≡ x

  abbrev WForm : Type 0
  WForm = (x : Form N) × FormIs x

  abbrev WExpr : Type 0
  WExpr = (x : Expr N) × ExprIs x

  abbrev in_pairs : {X Y : Type 0} → (X → Y) → List (Case × X) → List (Case × Y)
  in_pairs {X} {Y} k = map {A = Case × X} {B = Case × Y} (λ c. (c.0, k c.1))

  list_is : (ps : List WExpr) → map (T.in_expr N N same) (map (λ p. p.0) ps) ≡ map (λ p. p.0) ps
  list_is [] = refl
  list_is (p ∷ ps) = ap₂ (λ x xs. x ∷ xs) p.1 (list_is ps)

  pairs_are : (ps : List (Case × WExpr)) → in_pairs (T.in_expr N N same) (in_pairs (λ (p : WExpr). p.0) ps) ≡ in_pairs (λ (p : WExpr). p.0) ps
  pairs_are [] = refl
  pairs_are (p ∷ ps) = ap₂ (λ (x : Expr N) xs. (p.0, x) ∷ xs) p.1.1 (pairs_are ps)

  abbrev bottom : Form-F N WForm WExpr → Form-F N (Form N) (Expr N)
  bottom y = map-Form N WForm WExpr (Form N) (Expr N) (λ p. p.0) (λ p. p.0) y

  abbrev up : Form-F N (Form N) (Expr N) → Form-F N (Form N) (Expr N)
  up x = T.retag (map-Form N (Form N) (Expr N) (Form N) (Expr N) (T.in_form N N same) (T.in_expr N N same) x)

  collapse : (y : Form-F N WForm WExpr) → up (bottom y) ≡ bottom y
  collapse (Form-F.Leaf l) = refl
  collapse (Form-F.Case x) = refl
  collapse (Form-F.Var x) = refl
  collapse (Form-F.Last x) = refl
  collapse (Form-F.Asked x) = refl
  collapse (Form-F.Op o ps) = ap (Form-F.Op o) (list_is ps)
  collapse (Form-F.Tuple ps) = ap Form-F.Tuple (list_is ps)
  collapse (Form-F.Pre p) = ap Form-F.Pre p.1
  collapse (Form-F.Fby p q) = ap₂ Form-F.Fby p.1 q.1
  collapse (Form-F.Init p q) = ap₂ Form-F.Init p.1 q.1
  collapse (Form-F.When p x k) = ap (λ z. Form-F.When z x k) p.1
  collapse (Form-F.Merge x ps) = ap (Form-F.Merge x) (pairs_are ps)
  collapse (Form-F.Call run x ps None) = ap (λ z. Form-F.Call run x z None) (list_is ps)
  collapse (Form-F.Call run x ps (Some p)) = ap₂ (λ z w. Form-F.Call run x z (Some w)) (list_is ps) p.1

  pub exprs_same : (x : Expr N) → ExprIs x
  exprs_same = ind-Expr N FormIs ExprIs
      (λ x y from. subst (λ z. FormIs (roll-Form N z)) from
      (fold-roll-Form N (Form N) (Expr N) (T.form_notes N N same) (T.expr_notes N N same) (bottom y) ∙ ap (roll-Form N) (collapse y)))
      (λ x y from. subst (λ z. ExprIs (roll-Expr N z)) from
      (fold-roll-Expr N (Form N) (Expr N) (T.form_notes N N same) (T.expr_notes N N same) (record { note = y.note; form = y.form.0 })
      ∙ (λ i. record { note = y.note; form = y.form.1 i })))

  abbrev in_equation : Equation N → Equation N
  in_equation = fold-Equation N (Equation N) (Arm N) (Guard N) (Handler N) (State N) (Test N) (T.equation_step N N same) (T.arm_step N N same) (T.guard_step N N same) (T.handler_step N N same) (T.state_step N N same) (T.test_step N N same)

  abbrev EquationIs : Equation N → Type 0
  EquationIs x = in_equation x ≡ x

  abbrev WEquation : Type 0
  WEquation = (x : Equation N) × EquationIs x

  abbrev equations_of : List WEquation → List (Equation N)
  equations_of = map {A = WEquation} {B = Equation N} (λ q. q.0)

  all_equation : (ps : List WEquation) → map in_equation (equations_of ps) ≡ equations_of ps
  all_equation [] = refl
  all_equation (p ∷ ps) = ap₂ (λ x xs. x ∷ xs) p.1 (all_equation ps)

  abbrev in_arm : Arm N → Arm N
  in_arm = fold-Arm N (Equation N) (Arm N) (Guard N) (Handler N) (State N) (Test N) (T.equation_step N N same) (T.arm_step N N same) (T.guard_step N N same) (T.handler_step N N same) (T.state_step N N same) (T.test_step N N same)

  abbrev ArmIs : Arm N → Type 0
  ArmIs x = in_arm x ≡ x

  abbrev WArm : Type 0
  WArm = (x : Arm N) × ArmIs x

  abbrev arms_of : List WArm → List (Arm N)
  arms_of = map {A = WArm} {B = Arm N} (λ q. q.0)

  all_arm : (ps : List WArm) → map in_arm (arms_of ps) ≡ arms_of ps
  all_arm [] = refl
  all_arm (p ∷ ps) = ap₂ (λ x xs. x ∷ xs) p.1 (all_arm ps)

  abbrev in_guard : Guard N → Guard N
  in_guard = fold-Guard N (Equation N) (Arm N) (Guard N) (Handler N) (State N) (Test N) (T.equation_step N N same) (T.arm_step N N same) (T.guard_step N N same) (T.handler_step N N same) (T.state_step N N same) (T.test_step N N same)

  abbrev GuardIs : Guard N → Type 0
  GuardIs x = in_guard x ≡ x

  abbrev WGuard : Type 0
  WGuard = (x : Guard N) × GuardIs x

  abbrev guards_of : List WGuard → List (Guard N)
  guards_of = map {A = WGuard} {B = Guard N} (λ q. q.0)

  all_guard : (ps : List WGuard) → map in_guard (guards_of ps) ≡ guards_of ps
  all_guard [] = refl
  all_guard (p ∷ ps) = ap₂ (λ x xs. x ∷ xs) p.1 (all_guard ps)

  abbrev in_handler : Handler N → Handler N
  in_handler = fold-Handler N (Equation N) (Arm N) (Guard N) (Handler N) (State N) (Test N) (T.equation_step N N same) (T.arm_step N N same) (T.guard_step N N same) (T.handler_step N N same) (T.state_step N N same) (T.test_step N N same)

  abbrev HandlerIs : Handler N → Type 0
  HandlerIs x = in_handler x ≡ x

  abbrev WHandler : Type 0
  WHandler = (x : Handler N) × HandlerIs x

  abbrev handlers_of : List WHandler → List (Handler N)
  handlers_of = map {A = WHandler} {B = Handler N} (λ q. q.0)

  all_handler : (ps : List WHandler) → map in_handler (handlers_of ps) ≡ handlers_of ps
  all_handler [] = refl
  all_handler (p ∷ ps) = ap₂ (λ x xs. x ∷ xs) p.1 (all_handler ps)

  abbrev in_state : State N → State N
  in_state = fold-State N (Equation N) (Arm N) (Guard N) (Handler N) (State N) (Test N) (T.equation_step N N same) (T.arm_step N N same) (T.guard_step N N same) (T.handler_step N N same) (T.state_step N N same) (T.test_step N N same)

  abbrev StateIs : State N → Type 0
  StateIs x = in_state x ≡ x

  abbrev WState : Type 0
  WState = (x : State N) × StateIs x

  abbrev states_of : List WState → List (State N)
  states_of = map {A = WState} {B = State N} (λ q. q.0)

  all_state : (ps : List WState) → map in_state (states_of ps) ≡ states_of ps
  all_state [] = refl
  all_state (p ∷ ps) = ap₂ (λ x xs. x ∷ xs) p.1 (all_state ps)

  abbrev in_test : Test N → Test N
  in_test = fold-Test N (Equation N) (Arm N) (Guard N) (Handler N) (State N) (Test N) (T.equation_step N N same) (T.arm_step N N same) (T.guard_step N N same) (T.handler_step N N same) (T.state_step N N same) (T.test_step N N same)

  abbrev TestIs : Test N → Type 0
  TestIs x = in_test x ≡ x

  abbrev WTest : Type 0
  WTest = (x : Test N) × TestIs x

  abbrev tests_of : List WTest → List (Test N)
  tests_of = map {A = WTest} {B = Test N} (λ q. q.0)

  all_test : (ps : List WTest) → map in_test (tests_of ps) ≡ tests_of ps
  all_test [] = refl
  all_test (p ∷ ps) = ap₂ (λ x xs. x ∷ xs) p.1 (all_test ps)

  abbrev ebottom : Equation-F N WEquation WArm WGuard WHandler WState WTest → Equation-F N (Equation N) (Arm N) (Guard N) (Handler N) (State N) (Test N)
  ebottom y = map-Equation N WEquation WArm WGuard WHandler WState WTest (Equation N) (Arm N) (Guard N) (Handler N) (State N) (Test N) (λ p. p.0) (λ p. p.0) (λ p. p.0) (λ p. p.0) (λ p. p.0) (λ p. p.0) y

  abbrev eup : Equation-F N (Equation N) (Arm N) (Guard N) (Handler N) (State N) (Test N) → Equation-F N (Equation N) (Arm N) (Guard N) (Handler N) (State N) (Test N)
  eup x = T.equation_notes N N same (map-Equation N (Equation N) (Arm N) (Guard N) (Handler N) (State N) (Test N) (Equation N) (Arm N) (Guard N) (Handler N) (State N) (Test N) in_equation in_arm in_guard in_handler in_state in_test x)

  ecollapse : (y : Equation-F N WEquation WArm WGuard WHandler WState WTest) → eup (ebottom y) ≡ ebottom y
  ecollapse (Equation-F.Plain q x) = ap (Equation-F.Plain q) (exprs_same x)
  ecollapse (Equation-F.Clock q x) = ap (Equation-F.Clock q) (exprs_same x)
  ecollapse (Equation-F.Initial q x) = ap (Equation-F.Initial q) (exprs_same x)
  ecollapse (Equation-F.Emit q x) = ap (Equation-F.Emit q) (exprs_same x)
  ecollapse (Equation-F.Reset ps x) = ap₂ Equation-F.Reset (all_equation ps) (exprs_same x)
  ecollapse (Equation-F.Match x ps) = ap₂ Equation-F.Match (exprs_same x) (all_arm ps)
  ecollapse (Equation-F.Present ps None) = ap (λ z. Equation-F.Present z None) (all_test ps)
  ecollapse (Equation-F.Present ps (Some q)) = ap₂ (λ z w. Equation-F.Present z (Some w)) (all_test ps) q.1
  ecollapse (Equation-F.Automaton ps) = ap Equation-F.Automaton (all_state ps)

  equation_is : (y : Equation-F N WEquation WArm WGuard WHandler WState WTest) → EquationIs (roll-Equation N (ebottom y))
  equation_is y = fold-roll-Equation N (Equation N) (Arm N) (Guard N) (Handler N) (State N) (Test N) (T.equation_step N N same) (T.arm_step N N same) (T.guard_step N N same) (T.handler_step N N same) (T.state_step N N same) (T.test_step N N same) (ebottom y) ∙ ap (roll-Equation N) (ecollapse y)

  arm_is : (y : Arm-F N WEquation WArm WGuard WHandler WState WTest) → ArmIs (roll-Arm N (record { case = y.case; handler = y.handler.0 }))
  arm_is y = fold-roll-Arm N (Equation N) (Arm N) (Guard N) (Handler N) (State N) (Test N) (T.equation_step N N same) (T.arm_step N N same) (T.guard_step N N same) (T.handler_step N N same) (T.state_step N N same) (T.test_step N N same) (record { case = y.case; handler = y.handler.0 }) ∙ (λ i. record { case = y.case; handler = y.handler.1 i })

  test_is : (y : Test-F N WEquation WArm WGuard WHandler WState WTest) → TestIs (roll-Test N (record { signal = y.signal; pat = y.pat; handler = y.handler.0 }))
  test_is y = fold-roll-Test N (Equation N) (Arm N) (Guard N) (Handler N) (State N) (Test N) (T.equation_step N N same) (T.arm_step N N same) (T.guard_step N N same) (T.handler_step N N same) (T.state_step N N same) (T.test_step N N same) (record { signal = y.signal; pat = y.pat; handler = y.handler.0 }) ∙ (λ i. record { signal = y.signal; pat = y.pat; handler = y.handler.1 i })

  handler_is : (y : Handler-F N WEquation WArm WGuard WHandler WState WTest) → HandlerIs (roll-Handler N (record { locals = equations_of y.locals; eqs = equations_of y.eqs }))
  handler_is y = fold-roll-Handler N (Equation N) (Arm N) (Guard N) (Handler N) (State N) (Test N) (T.equation_step N N same) (T.arm_step N N same) (T.guard_step N N same) (T.handler_step N N same) (T.state_step N N same) (T.test_step N N same) (record { locals = equations_of y.locals; eqs = equations_of y.eqs }) ∙ (λ i. record { locals = all_equation y.locals i; eqs = all_equation y.eqs i })

  guard_is : (y : Guard-F N WEquation WArm WGuard WHandler WState WTest) → GuardIs (roll-Guard N (record { eqs = equations_of y.eqs; cond = y.cond; restart = y.restart; target = y.target }))
  guard_is y = fold-roll-Guard N (Equation N) (Arm N) (Guard N) (Handler N) (State N) (Test N) (T.equation_step N N same) (T.arm_step N N same) (T.guard_step N N same) (T.handler_step N N same) (T.state_step N N same) (T.test_step N N same) (record { eqs = equations_of y.eqs; cond = y.cond; restart = y.restart; target = y.target }) ∙ (λ i. record { eqs = all_equation y.eqs i; cond = exprs_same y.cond i; restart = y.restart; target = y.target })

  state_is : (y : State-F N WEquation WArm WGuard WHandler WState WTest) → StateIs (roll-State N (record { name = y.name; handler = y.handler.0; strong = guards_of y.strong; weak = guards_of y.weak }))
  state_is y = fold-roll-State N (Equation N) (Arm N) (Guard N) (Handler N) (State N) (Test N) (T.equation_step N N same) (T.arm_step N N same) (T.guard_step N N same) (T.handler_step N N same) (T.state_step N N same) (T.test_step N N same) (record { name = y.name; handler = y.handler.0; strong = guards_of y.strong; weak = guards_of y.weak }) ∙ (λ i. roll-State N (record { name = y.name; handler = y.handler.1 i; strong = all_guard y.strong i; weak = all_guard y.weak i }))

  equations_same : (x : Equation N) → EquationIs x
  equations_same = ind-Equation N EquationIs ArmIs GuardIs HandlerIs StateIs TestIs
      (λ x y from. subst (λ z. EquationIs (roll-Equation N z)) from (equation_is y))
      (λ x y from. subst (λ z. ArmIs (roll-Arm N z)) from (arm_is y))
      (λ x y from. subst (λ z. GuardIs (roll-Guard N z)) from (guard_is y))
      (λ x y from. subst (λ z. HandlerIs (roll-Handler N z)) from (handler_is y))
      (λ x y from. subst (λ z. StateIs (roll-State N z)) from (state_is y))
      (λ x y from. subst (λ z. TestIs (roll-Test N z)) from (test_is y))

  list_same : (xs : List (Equation N)) → map in_equation xs ≡ xs
  list_same [] = refl
  list_same (x ∷ xs) = ap₂ (λ y ys. y ∷ ys) (equations_same x) (list_same xs)

  pub body_same : (b : BodyOf N) → T.in_body N N same b ≡ b
  body_same b = λ i. record { result = exprs_same b.result i; eqs = list_same b.eqs i }

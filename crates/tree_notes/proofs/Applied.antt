-- Where the state stays, the walk puts each note through one function, which the state tells.
use Rattle.std.specs.Prelude.{◌≡◌, List, [], ◌∷◌, map, Some, None, refl}
use Rattle.std.proofs.Common.{ap, ap₂, sym, ◌∙◌, subst}
use Rattle.ls_ast.specs.declared.tree.BodyOf.{BodyOf}
use Rattle.ls_ast.specs.declared.tree.DefOf.{DefOf}
use Rattle.ls_ast.specs.declared.tree.Case.{Case}
use Rattle.ls_ast.specs.declared.tree.Expr.{Expr, fold-roll-Expr, ind-Expr, roll-Expr}
use Rattle.ls_ast.specs.declared.tree.Form.{Form, fold-roll-Form, map-Form, roll-Form}
use Rattle.ls_ast.specs.declared.tree.Form.TheOpen.{Form-F}
use Rattle.ls_ast.specs.declared.tree.Equation.{Equation, fold-Equation, fold-roll-Equation, ind-Equation, map-Equation, roll-Equation}
use Rattle.ls_ast.specs.declared.tree.Equation.TheOpen.{Equation-F, Arm-F, Guard-F, Handler-F, State-F, Test-F}
use Rattle.ls_ast.specs.declared.tree.Arm.{Arm, fold-Arm, fold-roll-Arm, roll-Arm}
use Rattle.ls_ast.specs.declared.tree.Guard.{Guard, fold-Guard, fold-roll-Guard, roll-Guard}
use Rattle.ls_ast.specs.declared.tree.Handler.{Handler, fold-Handler, fold-roll-Handler, roll-Handler}
use Rattle.ls_ast.specs.declared.tree.State.{State, fold-State, fold-roll-State, roll-State}
use Rattle.ls_ast.specs.declared.tree.Test.{Test, fold-Test, fold-roll-Test, roll-Test}
use Rattle.tree_notes.specs.Noted as T
use Rattle.tree_notes.specs.Numbered as Nu
use Rattle.tree_notes.specs.Numbered.{From, one, two, three, all_from, choices_from}

module _ (S N M : Type 0) (f : S → N → M) where
  abbrev step : S → N → M
  step s n = f s n

  abbrev next : S → N → S
  next s n = s

  -- the state stays
  abbrev pub still : {X : Type 0} → (S → X) → From S X
  still x s = (x s, s)

  stills : {X : Type 0} (a b : S → X) → ((s : S) → a s ≡ b s) → ◌≡◌ {A = From S X} (still a) (still b)
  stills a b e i s = (e s i, s)

  abbrev num : Expr N → From S (Expr M)
  num = Nu.number step next

  abbrev num_form : Form N → From S (Form M)
  num_form = Nu.number_form step next

  abbrev FormIs : Form N → Type 0
  FormIs x = ◌≡◌ {A = From S (Form M)} (num_form x) (still (λ s. T.in_form N M (f s) x))

  abbrev ExprIs : Expr N → Type 0
  ExprIs x = ◌≡◌ {A = From S (Expr M)} (num x) (still (λ s. T.in_expr N M (f s) x))

  abbrev WForm : Type 0
  WForm = (x : Form N) × FormIs x

  abbrev WExpr : Type 0
  WExpr = (x : Expr N) × ExprIs x

  abbrev in_pairs : {X Y : Type 0} → (X → Y) → List (Case × X) → List (Case × Y)
  in_pairs {X} {Y} k = map {A = Case × X} {B = Case × Y} (λ c. (c.0, k c.1))

  list_is : (ps : List WExpr) → ◌≡◌ {A = From S (List (Expr M))} (all_from (map num (map (λ p. p.0) ps))) (still (λ s. map (T.in_expr N M (f s)) (map (λ p. p.0) ps)))
  list_is [] = refl
  list_is (p ∷ ps) = ap₂ (two {Z = List (Expr M)} (λ x xs. x ∷ xs)) p.1 (list_is ps)

  pairs_are : (ps : List (Case × WExpr)) → ◌≡◌ {A = From S (List (Case × Expr M))} (choices_from (in_pairs num (in_pairs (λ (p : WExpr). p.0) ps))) (still (λ s. in_pairs (T.in_expr N M (f s)) (in_pairs (λ (p : WExpr). p.0) ps)))
  pairs_are [] = refl
  pairs_are (p ∷ ps) = ap₂ (two {Z = List (Case × Expr M)} (λ (x : Expr M) xs. (p.0, x) ∷ xs)) p.1.1 (pairs_are ps)

  abbrev bottom : Form-F N WForm WExpr → Form-F N (Form N) (Expr N)
  bottom y = map-Form N WForm WExpr (Form N) (Expr N) (λ p. p.0) (λ p. p.0) y

  abbrev count : Form-F N (Form N) (Expr N) → From S (Form-F M (Form M) (Expr M))
  count x = Nu.form_layer step next (map-Form N (Form N) (Expr N) (From S (Form M)) (From S (Expr M)) num_form num x)

  abbrev put : S → Form-F N (Form N) (Expr N) → Form-F M (Form M) (Expr M)
  put s x = T.retag (map-Form N (Form N) (Expr N) (Form M) (Expr M) (T.in_form N M (f s)) (T.in_expr N M (f s)) x)

  abbrev Layer : Type 0
  Layer = Form-F M (Form M) (Expr M)

  layer_is : (y : Form-F N WForm WExpr) → ◌≡◌ {A = From S Layer} (count (bottom y)) (still (λ s. put s (bottom y)))
  layer_is (Form-F.Leaf l) = refl
  layer_is (Form-F.Case x) = refl
  layer_is (Form-F.Var x) = refl
  layer_is (Form-F.Last x) = refl
  layer_is (Form-F.Asked x) = refl
  layer_is (Form-F.Op o ps) = ap (one {Z = Layer} (Form-F.Op o)) (list_is ps)
  layer_is (Form-F.Tuple ps) = ap (one {Z = Layer} Form-F.Tuple) (list_is ps)
  layer_is (Form-F.Pre p) = ap (one {Z = Layer} Form-F.Pre) p.1
  layer_is (Form-F.Fby p q) = ap₂ (two {Z = Layer} Form-F.Fby) p.1 q.1
  layer_is (Form-F.Init p q) = ap₂ (two {Z = Layer} Form-F.Init) p.1 q.1
  layer_is (Form-F.When p x k) = ap (one {Z = Layer} (λ z. Form-F.When z x k)) p.1
  layer_is (Form-F.Merge x ps) = ap (one {Z = Layer} (Form-F.Merge x)) (pairs_are ps)
  layer_is (Form-F.Call run x ps None) = ap (one {Z = Layer} (λ z. Form-F.Call run x z None)) (list_is ps)
  layer_is (Form-F.Call run x ps (Some p)) = ap₂ (two {Z = Layer} (λ z w. Form-F.Call run x z (Some w))) (list_is ps) p.1

  pub expr_is : (x : Expr N) → ExprIs x
  expr_is = ind-Expr N FormIs ExprIs
      (λ x y from. subst (λ z. FormIs (roll-Form N z)) from
      (fold-roll-Form N (From S (Form M)) (From S (Expr M)) (Nu.form_step step next) (Nu.expr_step step next) (bottom y)
      ∙ ap (one (roll-Form M)) (layer_is y)
      ∙ sym (stills _ _ (λ s. fold-roll-Form N (Form M) (Expr M) (T.form_notes N M (f s)) (T.expr_notes N M (f s)) (bottom y)))))
      (λ x y from. subst (λ z. ExprIs (roll-Expr N z)) from
      (fold-roll-Expr N (From S (Form M)) (From S (Expr M)) (Nu.form_step step next) (Nu.expr_step step next) (record { note = y.note; form = y.form.0 })
      ∙ (λ i s. (record { note = f s y.note; form = (y.form.1 i s).0 }, (y.form.1 i s).1))
      ∙ sym (stills _ _ (λ s. fold-roll-Expr N (Form M) (Expr M) (T.form_notes N M (f s)) (T.expr_notes N M (f s)) (record { note = y.note; form = y.form.0 })))))

  abbrev num_equation : Equation N → From S (Equation M)
  num_equation = fold-Equation N (From S (Equation M)) (From S (Arm M)) (From S (Guard M)) (From S (Handler M)) (From S (State M)) (From S (Test M)) (Nu.equation_step step next) (Nu.arm_step step next) (Nu.guard_step step next) (Nu.handler_step step next) (Nu.state_step step next) (Nu.test_step step next)

  abbrev f_equation : S → Equation N → Equation M
  f_equation s = fold-Equation N (Equation M) (Arm M) (Guard M) (Handler M) (State M) (Test M) (T.equation_step N M (f s)) (T.arm_step N M (f s)) (T.guard_step N M (f s)) (T.handler_step N M (f s)) (T.state_step N M (f s)) (T.test_step N M (f s))

  abbrev EquationIs : Equation N → Type 0
  EquationIs x = ◌≡◌ {A = From S (Equation M)} (num_equation x) (still (λ s. f_equation s x))

  abbrev WEquation : Type 0
  WEquation = (x : Equation N) × EquationIs x

  abbrev equations_of : List WEquation → List (Equation N)
  equations_of = map {A = WEquation} {B = Equation N} (λ q. q.0)

  all_equation : (ps : List WEquation) → ◌≡◌ {A = From S (List (Equation M))} (all_from (map num_equation (equations_of ps))) (still (λ s. map (f_equation s) (equations_of ps)))
  all_equation [] = refl
  all_equation (p ∷ ps) = ap₂ (two {Z = List (Equation M)} (λ x xs. x ∷ xs)) p.1 (all_equation ps)

  abbrev num_arm : Arm N → From S (Arm M)
  num_arm = fold-Arm N (From S (Equation M)) (From S (Arm M)) (From S (Guard M)) (From S (Handler M)) (From S (State M)) (From S (Test M)) (Nu.equation_step step next) (Nu.arm_step step next) (Nu.guard_step step next) (Nu.handler_step step next) (Nu.state_step step next) (Nu.test_step step next)

  abbrev f_arm : S → Arm N → Arm M
  f_arm s = fold-Arm N (Equation M) (Arm M) (Guard M) (Handler M) (State M) (Test M) (T.equation_step N M (f s)) (T.arm_step N M (f s)) (T.guard_step N M (f s)) (T.handler_step N M (f s)) (T.state_step N M (f s)) (T.test_step N M (f s))

  abbrev ArmIs : Arm N → Type 0
  ArmIs x = ◌≡◌ {A = From S (Arm M)} (num_arm x) (still (λ s. f_arm s x))

  abbrev WArm : Type 0
  WArm = (x : Arm N) × ArmIs x

  abbrev arms_of : List WArm → List (Arm N)
  arms_of = map {A = WArm} {B = Arm N} (λ q. q.0)

  all_arm : (ps : List WArm) → ◌≡◌ {A = From S (List (Arm M))} (all_from (map num_arm (arms_of ps))) (still (λ s. map (f_arm s) (arms_of ps)))
  all_arm [] = refl
  all_arm (p ∷ ps) = ap₂ (two {Z = List (Arm M)} (λ x xs. x ∷ xs)) p.1 (all_arm ps)

  abbrev num_guard : Guard N → From S (Guard M)
  num_guard = fold-Guard N (From S (Equation M)) (From S (Arm M)) (From S (Guard M)) (From S (Handler M)) (From S (State M)) (From S (Test M)) (Nu.equation_step step next) (Nu.arm_step step next) (Nu.guard_step step next) (Nu.handler_step step next) (Nu.state_step step next) (Nu.test_step step next)

  abbrev f_guard : S → Guard N → Guard M
  f_guard s = fold-Guard N (Equation M) (Arm M) (Guard M) (Handler M) (State M) (Test M) (T.equation_step N M (f s)) (T.arm_step N M (f s)) (T.guard_step N M (f s)) (T.handler_step N M (f s)) (T.state_step N M (f s)) (T.test_step N M (f s))

  abbrev GuardIs : Guard N → Type 0
  GuardIs x = ◌≡◌ {A = From S (Guard M)} (num_guard x) (still (λ s. f_guard s x))

  abbrev WGuard : Type 0
  WGuard = (x : Guard N) × GuardIs x

  abbrev guards_of : List WGuard → List (Guard N)
  guards_of = map {A = WGuard} {B = Guard N} (λ q. q.0)

  all_guard : (ps : List WGuard) → ◌≡◌ {A = From S (List (Guard M))} (all_from (map num_guard (guards_of ps))) (still (λ s. map (f_guard s) (guards_of ps)))
  all_guard [] = refl
  all_guard (p ∷ ps) = ap₂ (two {Z = List (Guard M)} (λ x xs. x ∷ xs)) p.1 (all_guard ps)

  abbrev num_handler : Handler N → From S (Handler M)
  num_handler = fold-Handler N (From S (Equation M)) (From S (Arm M)) (From S (Guard M)) (From S (Handler M)) (From S (State M)) (From S (Test M)) (Nu.equation_step step next) (Nu.arm_step step next) (Nu.guard_step step next) (Nu.handler_step step next) (Nu.state_step step next) (Nu.test_step step next)

  abbrev f_handler : S → Handler N → Handler M
  f_handler s = fold-Handler N (Equation M) (Arm M) (Guard M) (Handler M) (State M) (Test M) (T.equation_step N M (f s)) (T.arm_step N M (f s)) (T.guard_step N M (f s)) (T.handler_step N M (f s)) (T.state_step N M (f s)) (T.test_step N M (f s))

  abbrev HandlerIs : Handler N → Type 0
  HandlerIs x = ◌≡◌ {A = From S (Handler M)} (num_handler x) (still (λ s. f_handler s x))

  abbrev WHandler : Type 0
  WHandler = (x : Handler N) × HandlerIs x

  abbrev handlers_of : List WHandler → List (Handler N)
  handlers_of = map {A = WHandler} {B = Handler N} (λ q. q.0)

  all_handler : (ps : List WHandler) → ◌≡◌ {A = From S (List (Handler M))} (all_from (map num_handler (handlers_of ps))) (still (λ s. map (f_handler s) (handlers_of ps)))
  all_handler [] = refl
  all_handler (p ∷ ps) = ap₂ (two {Z = List (Handler M)} (λ x xs. x ∷ xs)) p.1 (all_handler ps)

  abbrev num_state : State N → From S (State M)
  num_state = fold-State N (From S (Equation M)) (From S (Arm M)) (From S (Guard M)) (From S (Handler M)) (From S (State M)) (From S (Test M)) (Nu.equation_step step next) (Nu.arm_step step next) (Nu.guard_step step next) (Nu.handler_step step next) (Nu.state_step step next) (Nu.test_step step next)

  abbrev f_state : S → State N → State M
  f_state s = fold-State N (Equation M) (Arm M) (Guard M) (Handler M) (State M) (Test M) (T.equation_step N M (f s)) (T.arm_step N M (f s)) (T.guard_step N M (f s)) (T.handler_step N M (f s)) (T.state_step N M (f s)) (T.test_step N M (f s))

  abbrev StateIs : State N → Type 0
  StateIs x = ◌≡◌ {A = From S (State M)} (num_state x) (still (λ s. f_state s x))

  abbrev WState : Type 0
  WState = (x : State N) × StateIs x

  abbrev states_of : List WState → List (State N)
  states_of = map {A = WState} {B = State N} (λ q. q.0)

  all_state : (ps : List WState) → ◌≡◌ {A = From S (List (State M))} (all_from (map num_state (states_of ps))) (still (λ s. map (f_state s) (states_of ps)))
  all_state [] = refl
  all_state (p ∷ ps) = ap₂ (two {Z = List (State M)} (λ x xs. x ∷ xs)) p.1 (all_state ps)

  abbrev num_test : Test N → From S (Test M)
  num_test = fold-Test N (From S (Equation M)) (From S (Arm M)) (From S (Guard M)) (From S (Handler M)) (From S (State M)) (From S (Test M)) (Nu.equation_step step next) (Nu.arm_step step next) (Nu.guard_step step next) (Nu.handler_step step next) (Nu.state_step step next) (Nu.test_step step next)

  abbrev f_test : S → Test N → Test M
  f_test s = fold-Test N (Equation M) (Arm M) (Guard M) (Handler M) (State M) (Test M) (T.equation_step N M (f s)) (T.arm_step N M (f s)) (T.guard_step N M (f s)) (T.handler_step N M (f s)) (T.state_step N M (f s)) (T.test_step N M (f s))

  abbrev TestIs : Test N → Type 0
  TestIs x = ◌≡◌ {A = From S (Test M)} (num_test x) (still (λ s. f_test s x))

  abbrev WTest : Type 0
  WTest = (x : Test N) × TestIs x

  abbrev tests_of : List WTest → List (Test N)
  tests_of = map {A = WTest} {B = Test N} (λ q. q.0)

  all_test : (ps : List WTest) → ◌≡◌ {A = From S (List (Test M))} (all_from (map num_test (tests_of ps))) (still (λ s. map (f_test s) (tests_of ps)))
  all_test [] = refl
  all_test (p ∷ ps) = ap₂ (two {Z = List (Test M)} (λ x xs. x ∷ xs)) p.1 (all_test ps)

  abbrev Block : Type 0
  Block = Equation-F M (Equation M) (Arm M) (Guard M) (Handler M) (State M) (Test M)

  abbrev ebottom : Equation-F N WEquation WArm WGuard WHandler WState WTest → Equation-F N (Equation N) (Arm N) (Guard N) (Handler N) (State N) (Test N)
  ebottom y = map-Equation N WEquation WArm WGuard WHandler WState WTest (Equation N) (Arm N) (Guard N) (Handler N) (State N) (Test N) (λ p. p.0) (λ p. p.0) (λ p. p.0) (λ p. p.0) (λ p. p.0) (λ p. p.0) y

  abbrev ecount : Equation-F N (Equation N) (Arm N) (Guard N) (Handler N) (State N) (Test N) → From S Block
  ecount x = Nu.equation_layer step next (map-Equation N (Equation N) (Arm N) (Guard N) (Handler N) (State N) (Test N) (From S (Equation M)) (From S (Arm M)) (From S (Guard M)) (From S (Handler M)) (From S (State M)) (From S (Test M)) num_equation num_arm num_guard num_handler num_state num_test x)

  abbrev eput : S → Equation-F N (Equation N) (Arm N) (Guard N) (Handler N) (State N) (Test N) → Block
  eput s x = T.equation_notes N M (f s) (map-Equation N (Equation N) (Arm N) (Guard N) (Handler N) (State N) (Test N) (Equation M) (Arm M) (Guard M) (Handler M) (State M) (Test M) (f_equation s) (f_arm s) (f_guard s) (f_handler s) (f_state s) (f_test s) x)

  block_is : (y : Equation-F N WEquation WArm WGuard WHandler WState WTest) → ◌≡◌ {A = From S Block} (ecount (ebottom y)) (still (λ s. eput s (ebottom y)))
  block_is (Equation-F.Plain q x) = ap (one {Z = Block} (Equation-F.Plain q)) (expr_is x)
  block_is (Equation-F.Clock q x) = ap (one {Z = Block} (Equation-F.Clock q)) (expr_is x)
  block_is (Equation-F.Initial q x) = ap (one {Z = Block} (Equation-F.Initial q)) (expr_is x)
  block_is (Equation-F.Emit q x) = ap (one {Z = Block} (Equation-F.Emit q)) (expr_is x)
  block_is (Equation-F.Reset ps x) = ap₂ (two {Z = Block} (λ z zs. Equation-F.Reset zs z)) (expr_is x) (all_equation ps)
  block_is (Equation-F.Match x ps) = ap₂ (two {Z = Block} Equation-F.Match) (expr_is x) (all_arm ps)
  block_is (Equation-F.Present ps None) = ap (one {Z = Block} (λ z. Equation-F.Present z None)) (all_test ps)
  block_is (Equation-F.Present ps (Some q)) = ap₂ (two {Z = Block} (λ z w. Equation-F.Present z (Some w))) (all_test ps) q.1
  block_is (Equation-F.Automaton ps) = ap (one {Z = Block} Equation-F.Automaton) (all_state ps)

  equation_is : (y : Equation-F N WEquation WArm WGuard WHandler WState WTest) → EquationIs (roll-Equation N (ebottom y))
  equation_is y =
      fold-roll-Equation N (From S (Equation M)) (From S (Arm M)) (From S (Guard M)) (From S (Handler M)) (From S (State M)) (From S (Test M)) (Nu.equation_step step next) (Nu.arm_step step next) (Nu.guard_step step next) (Nu.handler_step step next) (Nu.state_step step next) (Nu.test_step step next) (ebottom y)
      ∙ ap (one (roll-Equation M)) (block_is y)
      ∙ sym (stills _ _ (λ s. fold-roll-Equation N (Equation M) (Arm M) (Guard M) (Handler M) (State M) (Test M) (T.equation_step N M (f s)) (T.arm_step N M (f s)) (T.guard_step N M (f s)) (T.handler_step N M (f s)) (T.state_step N M (f s)) (T.test_step N M (f s)) (ebottom y)))

  arm_is : (y : Arm-F N WEquation WArm WGuard WHandler WState WTest) → ArmIs (roll-Arm N (record { case = y.case; handler = y.handler.0 }))
  arm_is y =
      fold-roll-Arm N (From S (Equation M)) (From S (Arm M)) (From S (Guard M)) (From S (Handler M)) (From S (State M)) (From S (Test M)) (Nu.equation_step step next) (Nu.arm_step step next) (Nu.guard_step step next) (Nu.handler_step step next) (Nu.state_step step next) (Nu.test_step step next) (record { case = y.case; handler = y.handler.0 })
      ∙ (λ i s. (record { case = y.case; handler = (y.handler.1 i s).0 }, (y.handler.1 i s).1))
      ∙ sym (stills _ _ (λ s. fold-roll-Arm N (Equation M) (Arm M) (Guard M) (Handler M) (State M) (Test M) (T.equation_step N M (f s)) (T.arm_step N M (f s)) (T.guard_step N M (f s)) (T.handler_step N M (f s)) (T.state_step N M (f s)) (T.test_step N M (f s)) (record { case = y.case; handler = y.handler.0 })))

  test_is : (y : Test-F N WEquation WArm WGuard WHandler WState WTest) → TestIs (roll-Test N (record { signal = y.signal; pat = y.pat; handler = y.handler.0 }))
  test_is y =
      fold-roll-Test N (From S (Equation M)) (From S (Arm M)) (From S (Guard M)) (From S (Handler M)) (From S (State M)) (From S (Test M)) (Nu.equation_step step next) (Nu.arm_step step next) (Nu.guard_step step next) (Nu.handler_step step next) (Nu.state_step step next) (Nu.test_step step next) (record { signal = y.signal; pat = y.pat; handler = y.handler.0 })
      ∙ (λ i s. (record { signal = y.signal; pat = y.pat; handler = (y.handler.1 i s).0 }, (y.handler.1 i s).1))
      ∙ sym (stills _ _ (λ s. fold-roll-Test N (Equation M) (Arm M) (Guard M) (Handler M) (State M) (Test M) (T.equation_step N M (f s)) (T.arm_step N M (f s)) (T.guard_step N M (f s)) (T.handler_step N M (f s)) (T.state_step N M (f s)) (T.test_step N M (f s)) (record { signal = y.signal; pat = y.pat; handler = y.handler.0 })))

  handler_is : (y : Handler-F N WEquation WArm WGuard WHandler WState WTest) → HandlerIs (roll-Handler N (record { locals = equations_of y.locals; eqs = equations_of y.eqs }))
  handler_is y =
      fold-roll-Handler N (From S (Equation M)) (From S (Arm M)) (From S (Guard M)) (From S (Handler M)) (From S (State M)) (From S (Test M)) (Nu.equation_step step next) (Nu.arm_step step next) (Nu.guard_step step next) (Nu.handler_step step next) (Nu.state_step step next) (Nu.test_step step next) (record { locals = equations_of y.locals; eqs = equations_of y.eqs })
      ∙ ap₂ (two {Z = Handler M} (λ l e. record { locals = l; eqs = e })) (all_equation y.locals) (all_equation y.eqs)
      ∙ sym (stills _ _ (λ s. fold-roll-Handler N (Equation M) (Arm M) (Guard M) (Handler M) (State M) (Test M) (T.equation_step N M (f s)) (T.arm_step N M (f s)) (T.guard_step N M (f s)) (T.handler_step N M (f s)) (T.state_step N M (f s)) (T.test_step N M (f s)) (record { locals = equations_of y.locals; eqs = equations_of y.eqs })))

  guard_is : (y : Guard-F N WEquation WArm WGuard WHandler WState WTest) → GuardIs (roll-Guard N (record { eqs = equations_of y.eqs; cond = y.cond; restart = y.restart; target = y.target }))
  guard_is y =
      fold-roll-Guard N (From S (Equation M)) (From S (Arm M)) (From S (Guard M)) (From S (Handler M)) (From S (State M)) (From S (Test M)) (Nu.equation_step step next) (Nu.arm_step step next) (Nu.guard_step step next) (Nu.handler_step step next) (Nu.state_step step next) (Nu.test_step step next) (record { eqs = equations_of y.eqs; cond = y.cond; restart = y.restart; target = y.target })
      ∙ ap₂ (two {Z = Guard M} (λ eqs cond. record { eqs = eqs; cond = cond; restart = y.restart; target = y.target })) (all_equation y.eqs) (expr_is y.cond)
      ∙ sym (stills _ _ (λ s. fold-roll-Guard N (Equation M) (Arm M) (Guard M) (Handler M) (State M) (Test M) (T.equation_step N M (f s)) (T.arm_step N M (f s)) (T.guard_step N M (f s)) (T.handler_step N M (f s)) (T.state_step N M (f s)) (T.test_step N M (f s)) (record { eqs = equations_of y.eqs; cond = y.cond; restart = y.restart; target = y.target })))

  state_is : (y : State-F N WEquation WArm WGuard WHandler WState WTest) → StateIs (roll-State N (record { name = y.name; handler = y.handler.0; strong = guards_of y.strong; weak = guards_of y.weak }))
  state_is y =
      fold-roll-State N (From S (Equation M)) (From S (Arm M)) (From S (Guard M)) (From S (Handler M)) (From S (State M)) (From S (Test M)) (Nu.equation_step step next) (Nu.arm_step step next) (Nu.guard_step step next) (Nu.handler_step step next) (Nu.state_step step next) (Nu.test_step step next) (record { name = y.name; handler = y.handler.0; strong = guards_of y.strong; weak = guards_of y.weak })
      ∙ (λ i. three {Z = State M} (λ h s w. roll-State M (record { name = y.name; handler = h; strong = s; weak = w })) (y.handler.1 i) (all_guard y.strong i) (all_guard y.weak i))
      ∙ sym (stills _ _ (λ s. fold-roll-State N (Equation M) (Arm M) (Guard M) (Handler M) (State M) (Test M) (T.equation_step N M (f s)) (T.arm_step N M (f s)) (T.guard_step N M (f s)) (T.handler_step N M (f s)) (T.state_step N M (f s)) (T.test_step N M (f s)) (record { name = y.name; handler = y.handler.0; strong = guards_of y.strong; weak = guards_of y.weak })))

  pub equation_put : (x : Equation N) → EquationIs x
  equation_put = ind-Equation N EquationIs ArmIs GuardIs HandlerIs StateIs TestIs
      (λ x y from. subst (λ z. EquationIs (roll-Equation N z)) from (equation_is y))
      (λ x y from. subst (λ z. ArmIs (roll-Arm N z)) from (arm_is y))
      (λ x y from. subst (λ z. GuardIs (roll-Guard N z)) from (guard_is y))
      (λ x y from. subst (λ z. HandlerIs (roll-Handler N z)) from (handler_is y))
      (λ x y from. subst (λ z. StateIs (roll-State N z)) from (state_is y))
      (λ x y from. subst (λ z. TestIs (roll-Test N z)) from (test_is y))

  equations_put : (xs : List (Equation N)) → ◌≡◌ {A = From S (List (Equation M))} (all_from (map num_equation xs)) (still (λ s. map (f_equation s) xs))
  equations_put [] = refl
  equations_put (x ∷ xs) = ap₂ (two {Z = List (Equation M)} (λ y ys. y ∷ ys)) (equation_put x) (equations_put xs)

  notes_put : (ns : List N) → ◌≡◌ {A = From S (List M)} (Nu.number_notes step next ns) (still (λ s. map (f s) ns))
  notes_put [] = refl
  notes_put (n ∷ ns) = λ i s. (f s n ∷ (notes_put ns i s).0, (notes_put ns i s).1)

  pub body_put : (b : BodyOf N) → ◌≡◌ {A = From S (BodyOf M)} (Nu.number_body step next b) (still (λ s. T.in_body N M (f s) b))
  body_put b = ap₂ (two {Z = BodyOf M} (λ eqs result. record { result = result; eqs = eqs })) (equations_put b.eqs) (expr_is b.result)

  pub definition_put : (d : DefOf N) → ◌≡◌ {A = From S (DefOf M)} (Nu.number_definition step next d) (still (λ s. T.in_definition N M (f s) d))
  definition_put (DefOf.Cases line name cases) = refl
  definition_put (DefOf.Let line node name params marks notes body) = ap₂ (two {Z = DefOf M} (DefOf.Let line node name params marks)) (notes_put notes) (body_put body)

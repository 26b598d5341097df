-- What holds of each note that is made with a number holds of all notes of a numbered tree.
use Rattle.std.specs.Prelude.{ℕ, List, [], ◌∷◌, ◌++◌, map, Some, None}
use Rattle.std.proofs.Common.{sym, subst}
use Rattle.ls_ast.specs.declared.tree.BodyOf.{BodyOf}
use Rattle.ls_ast.specs.declared.tree.Case.{Case}
use Rattle.ls_ast.specs.declared.tree.Expr.{Expr, fold-roll-Expr, ind-Expr, roll-Expr}
use Rattle.ls_ast.specs.declared.tree.Form.{Form, fold-roll-Form, map-Form, roll-Form}
use Rattle.ls_ast.specs.declared.tree.Form.TheOpen.{Form-F}
use Rattle.ls_ast.specs.declared.tree.Equation.{Equation, fold-Equation, fold-roll-Equation, ind-Equation, map-Equation, roll-Equation}
use Rattle.ls_ast.specs.declared.tree.Equation.TheOpen.{Equation-F, Arm-F, Guard-F, Handler-F, State-F, Test-F}
use Rattle.ls_ast.specs.declared.tree.Arm.{Arm, fold-Arm, fold-roll-Arm, roll-Arm}
use Rattle.ls_ast.specs.declared.tree.Guard.{Guard, fold-Guard, fold-roll-Guard, roll-Guard}
use Rattle.ls_ast.specs.declared.tree.Handler.{Handler, fold-Handler, fold-roll-Handler, roll-Handler}
use Rattle.ls_ast.specs.declared.tree.State.{State, fold-State, fold-roll-State, roll-State}
use Rattle.ls_ast.specs.declared.tree.Test.{Test, fold-Test, fold-roll-Test, roll-Test}
use Rattle.tree_notes.specs.Each.{Each}
use Rattle.tree_notes.specs.Numbered as Nu
use Rattle.tree_notes.specs.Order as Or
use Rattle.tree_notes.specs.Numbered.{From, one, two, three, all_from, choices_from, option_from}
use Rattle.tree_notes.specs.Order.{joined, choices_joined, option_joined}

pub each_both : {A : Type 0} (P : A → Type 0) (xs ys : List A) → Each P xs → Each P ys → Each P (xs ++ ys)
each_both P [] ys h k = k
each_both P (x ∷ xs) ys h k = (h.0, each_both P xs ys h.1 k)

module _ (S N M : Type 0) (step : S → N → M) (next : S → N → S) (Q : M → Type 0) (holds : (k : S) (n : N) → Q (step k n)) where
  -- all notes of what is made
  abbrev Made : {X : Type 0} → From S X → (X → List M) → Type 0
  Made g c = (k : S) → Each Q (c (g k).0)

  made_two : {X Y : Type 0} (g : From S X) (c : X → List M) → Made g c → (g' : From S Y) (c' : Y → List M) → Made g' c' → (k : S) → Each Q (c (g k).0 ++ c' (g' (g k).1).0)
  made_two g c h g' c' h' k = each_both Q (c (g k).0) (c' (g' (g k).1).0) (h k) (h' (g k).1)

  pub made_notes : (ns : List N) (k : S) → Each Q (Nu.number_notes step next ns k).0
  made_notes [] k = tt
  made_notes (n ∷ ns) k = (holds k n, made_notes ns (next k n))

  abbrev FormMade : Form N → Type 0
  FormMade x = Made (Nu.number_form step next x) (Or.notes_form M)

  abbrev ExprMade : Expr N → Type 0
  ExprMade x = Made (Nu.number step next x) (Or.notes M)

  abbrev WForm : Type 0
  WForm = (x : Form N) × FormMade x

  abbrev WExpr : Type 0
  WExpr = (x : Expr N) × ExprMade x

  abbrev firsts : List WExpr → List (Expr N)
  firsts = map {A = WExpr} {B = Expr N} (λ q. q.0)

  abbrev in_pairs : {X Y : Type 0} → (X → Y) → List (Case × X) → List (Case × Y)
  in_pairs {X} {Y} g = map {A = Case × X} {B = Case × Y} (λ c. (c.0, g c.1))

  list_made : (ps : List WExpr) → Made (all_from (map (Nu.number step next) (firsts ps))) (λ xs. joined (map (Or.notes M) xs))
  list_made [] k = tt
  list_made (q ∷ ps) k = made_two (Nu.number step next q.0) (Or.notes M) q.1 (all_from (map (Nu.number step next) (firsts ps))) (λ xs. joined (map (Or.notes M) xs)) (list_made ps) k

  choices_made : (ps : List (Case × WExpr)) → Made (choices_from (in_pairs (Nu.number step next) (in_pairs (λ (q : WExpr). q.0) ps))) (λ xs. choices_joined (in_pairs (Or.notes M) xs))
  choices_made [] k = tt
  choices_made (q ∷ ps) k = made_two (Nu.number step next q.1.0) (Or.notes M) q.1.1 (choices_from (in_pairs (Nu.number step next) (in_pairs (λ (r : WExpr). r.0) ps))) (λ xs. choices_joined (in_pairs (Or.notes M) xs)) (choices_made ps) k

  abbrev bottom : Form-F N WForm WExpr → Form-F N (Form N) (Expr N)
  bottom y = map-Form N WForm WExpr (Form N) (Expr N) (λ q. q.0) (λ q. q.0) y

  abbrev count : Form-F N (Form N) (Expr N) → From S (Form-F M (Form M) (Expr M))
  count x = Nu.form_layer step next (map-Form N (Form N) (Expr N) (From S (Form M)) (From S (Expr M)) (Nu.number_form step next) (Nu.number step next) x)

  abbrev told : Form-F M (Form M) (Expr M) → List M
  told x = Or.form_notes M (map-Form M (Form M) (Expr M) (List M) (List M) (Or.notes_form M) (Or.notes M) x)

  abbrev L : List (Expr M) → List M
  L xs = joined (map (Or.notes M) xs)

  layer_made : (y : Form-F N WForm WExpr) → Made (count (bottom y)) told
  layer_made (Form-F.Leaf l) k = tt
  layer_made (Form-F.Case x) k = tt
  layer_made (Form-F.Var x) k = tt
  layer_made (Form-F.Last x) k = tt
  layer_made (Form-F.Asked x) k = tt
  layer_made (Form-F.Op o ps) k = list_made ps k
  layer_made (Form-F.Tuple ps) k = list_made ps k
  layer_made (Form-F.Pre q) k = q.1 k
  layer_made (Form-F.Fby q r) k = made_two (Nu.number step next q.0) (Or.notes M) q.1 (Nu.number step next r.0) (Or.notes M) r.1 k
  layer_made (Form-F.Init q r) k = made_two (Nu.number step next q.0) (Or.notes M) q.1 (Nu.number step next r.0) (Or.notes M) r.1 k
  layer_made (Form-F.When q x c) k = q.1 k
  layer_made (Form-F.Merge x ps) k = choices_made ps k
  layer_made (Form-F.Call run x ps None) k = each_both Q (L (all_from (map (Nu.number step next) (firsts ps)) k).0) [] (list_made ps k) tt
  layer_made (Form-F.Call run x ps (Some q)) k = made_two (all_from (map (Nu.number step next) (firsts ps))) L (list_made ps) (Nu.number step next q.0) (Or.notes M) q.1 k

  form_made : (y : Form-F N WForm WExpr) → FormMade (roll-Form N (bottom y))
  form_made y k =
      let made = fold-roll-Form N (From S (Form M)) (From S (Expr M)) (Nu.form_step step next) (Nu.expr_step step next) (bottom y) in
      subst (λ (g : From S (Form M)). Each Q (Or.notes_form M (g k).0)) (sym made)
      (subst (Each Q) (sym (fold-roll-Form M (List M) (List M) (Or.form_notes M) (Or.expr_notes M) (count (bottom y) k).0)) (layer_made y k))

  expr_made : (n : N) (q : WForm) → ExprMade (roll-Expr N (record { note = n; form = q.0 }))
  expr_made n q k =
      let made = fold-roll-Expr N (From S (Form M)) (From S (Expr M)) (Nu.form_step step next) (Nu.expr_step step next) (record { note = n; form = q.0 }) in
      subst (λ (g : From S (Expr M)). Each Q (Or.notes M (g k).0)) (sym made)
      (subst (Each Q) (sym (fold-roll-Expr M (List M) (List M) (Or.form_notes M) (Or.expr_notes M) (record { note = step k n; form = (Nu.number_form step next q.0 (next k n)).0 }))) (holds k n, q.1 (next k n)))

  exprs_made : (x : Expr N) → ExprMade x
  exprs_made = ind-Expr N FormMade ExprMade
      (λ x y from. subst (λ z. FormMade (roll-Form N z)) from (form_made y))
      (λ x y from. subst (λ z. ExprMade (roll-Expr N z)) from (expr_made y.note y.form))

  abbrev gx : Expr N → From S (Expr M)
  gx = Nu.number step next

  abbrev count_equation : Equation N → From S (Equation M)
  count_equation = fold-Equation N (From S (Equation M)) (From S (Arm M)) (From S (Guard M)) (From S (Handler M)) (From S (State M)) (From S (Test M)) (Nu.equation_step step next) (Nu.arm_step step next) (Nu.guard_step step next) (Nu.handler_step step next) (Nu.state_step step next) (Nu.test_step step next)

  abbrev told_equation : Equation M → List M
  told_equation = fold-Equation M (List M) (List M) (List M) (List M) (List M) (List M) (Or.equation_notes M) (Or.arm_notes M) (Or.guard_notes M) (Or.handler_notes M) (Or.state_notes M) (Or.test_notes M)

  abbrev EquationMade : Equation N → Type 0
  EquationMade x = Made (count_equation x) told_equation

  abbrev WEquation : Type 0
  WEquation = (x : Equation N) × EquationMade x

  abbrev equations_of : List WEquation → List (Equation N)
  equations_of = map {A = WEquation} {B = Equation N} (λ q. q.0)

  abbrev Lequation : List (Equation M) → List M
  Lequation xs = joined (map told_equation xs)

  abbrev equations_from : List WEquation → From S (List (Equation M))
  equations_from ps k = all_from (map count_equation (equations_of ps)) k

  all_equation : (ps : List WEquation) → Made (equations_from ps) Lequation
  all_equation [] k = tt
  all_equation (q ∷ ps) k = made_two (count_equation q.0) told_equation q.1 (equations_from ps) Lequation (all_equation ps) k

  abbrev count_arm : Arm N → From S (Arm M)
  count_arm = fold-Arm N (From S (Equation M)) (From S (Arm M)) (From S (Guard M)) (From S (Handler M)) (From S (State M)) (From S (Test M)) (Nu.equation_step step next) (Nu.arm_step step next) (Nu.guard_step step next) (Nu.handler_step step next) (Nu.state_step step next) (Nu.test_step step next)

  abbrev told_arm : Arm M → List M
  told_arm = fold-Arm M (List M) (List M) (List M) (List M) (List M) (List M) (Or.equation_notes M) (Or.arm_notes M) (Or.guard_notes M) (Or.handler_notes M) (Or.state_notes M) (Or.test_notes M)

  abbrev ArmMade : Arm N → Type 0
  ArmMade x = Made (count_arm x) told_arm

  abbrev WArm : Type 0
  WArm = (x : Arm N) × ArmMade x

  abbrev arms_of : List WArm → List (Arm N)
  arms_of = map {A = WArm} {B = Arm N} (λ q. q.0)

  abbrev Larm : List (Arm M) → List M
  Larm xs = joined (map told_arm xs)

  abbrev arms_from : List WArm → From S (List (Arm M))
  arms_from ps k = all_from (map count_arm (arms_of ps)) k

  all_arm : (ps : List WArm) → Made (arms_from ps) Larm
  all_arm [] k = tt
  all_arm (q ∷ ps) k = made_two (count_arm q.0) told_arm q.1 (arms_from ps) Larm (all_arm ps) k

  abbrev count_guard : Guard N → From S (Guard M)
  count_guard = fold-Guard N (From S (Equation M)) (From S (Arm M)) (From S (Guard M)) (From S (Handler M)) (From S (State M)) (From S (Test M)) (Nu.equation_step step next) (Nu.arm_step step next) (Nu.guard_step step next) (Nu.handler_step step next) (Nu.state_step step next) (Nu.test_step step next)

  abbrev told_guard : Guard M → List M
  told_guard = fold-Guard M (List M) (List M) (List M) (List M) (List M) (List M) (Or.equation_notes M) (Or.arm_notes M) (Or.guard_notes M) (Or.handler_notes M) (Or.state_notes M) (Or.test_notes M)

  abbrev GuardMade : Guard N → Type 0
  GuardMade x = Made (count_guard x) told_guard

  abbrev WGuard : Type 0
  WGuard = (x : Guard N) × GuardMade x

  abbrev guards_of : List WGuard → List (Guard N)
  guards_of = map {A = WGuard} {B = Guard N} (λ q. q.0)

  abbrev Lguard : List (Guard M) → List M
  Lguard xs = joined (map told_guard xs)

  abbrev guards_from : List WGuard → From S (List (Guard M))
  guards_from ps k = all_from (map count_guard (guards_of ps)) k

  all_guard : (ps : List WGuard) → Made (guards_from ps) Lguard
  all_guard [] k = tt
  all_guard (q ∷ ps) k = made_two (count_guard q.0) told_guard q.1 (guards_from ps) Lguard (all_guard ps) k

  abbrev count_handler : Handler N → From S (Handler M)
  count_handler = fold-Handler N (From S (Equation M)) (From S (Arm M)) (From S (Guard M)) (From S (Handler M)) (From S (State M)) (From S (Test M)) (Nu.equation_step step next) (Nu.arm_step step next) (Nu.guard_step step next) (Nu.handler_step step next) (Nu.state_step step next) (Nu.test_step step next)

  abbrev told_handler : Handler M → List M
  told_handler = fold-Handler M (List M) (List M) (List M) (List M) (List M) (List M) (Or.equation_notes M) (Or.arm_notes M) (Or.guard_notes M) (Or.handler_notes M) (Or.state_notes M) (Or.test_notes M)

  abbrev HandlerMade : Handler N → Type 0
  HandlerMade x = Made (count_handler x) told_handler

  abbrev WHandler : Type 0
  WHandler = (x : Handler N) × HandlerMade x

  abbrev handlers_of : List WHandler → List (Handler N)
  handlers_of = map {A = WHandler} {B = Handler N} (λ q. q.0)

  abbrev Lhandler : List (Handler M) → List M
  Lhandler xs = joined (map told_handler xs)

  abbrev handlers_from : List WHandler → From S (List (Handler M))
  handlers_from ps k = all_from (map count_handler (handlers_of ps)) k

  all_handler : (ps : List WHandler) → Made (handlers_from ps) Lhandler
  all_handler [] k = tt
  all_handler (q ∷ ps) k = made_two (count_handler q.0) told_handler q.1 (handlers_from ps) Lhandler (all_handler ps) k

  abbrev count_state : State N → From S (State M)
  count_state = fold-State N (From S (Equation M)) (From S (Arm M)) (From S (Guard M)) (From S (Handler M)) (From S (State M)) (From S (Test M)) (Nu.equation_step step next) (Nu.arm_step step next) (Nu.guard_step step next) (Nu.handler_step step next) (Nu.state_step step next) (Nu.test_step step next)

  abbrev told_state : State M → List M
  told_state = fold-State M (List M) (List M) (List M) (List M) (List M) (List M) (Or.equation_notes M) (Or.arm_notes M) (Or.guard_notes M) (Or.handler_notes M) (Or.state_notes M) (Or.test_notes M)

  abbrev StateMade : State N → Type 0
  StateMade x = Made (count_state x) told_state

  abbrev WState : Type 0
  WState = (x : State N) × StateMade x

  abbrev states_of : List WState → List (State N)
  states_of = map {A = WState} {B = State N} (λ q. q.0)

  abbrev Lstate : List (State M) → List M
  Lstate xs = joined (map told_state xs)

  abbrev states_from : List WState → From S (List (State M))
  states_from ps k = all_from (map count_state (states_of ps)) k

  all_state : (ps : List WState) → Made (states_from ps) Lstate
  all_state [] k = tt
  all_state (q ∷ ps) k = made_two (count_state q.0) told_state q.1 (states_from ps) Lstate (all_state ps) k

  abbrev count_test : Test N → From S (Test M)
  count_test = fold-Test N (From S (Equation M)) (From S (Arm M)) (From S (Guard M)) (From S (Handler M)) (From S (State M)) (From S (Test M)) (Nu.equation_step step next) (Nu.arm_step step next) (Nu.guard_step step next) (Nu.handler_step step next) (Nu.state_step step next) (Nu.test_step step next)

  abbrev told_test : Test M → List M
  told_test = fold-Test M (List M) (List M) (List M) (List M) (List M) (List M) (Or.equation_notes M) (Or.arm_notes M) (Or.guard_notes M) (Or.handler_notes M) (Or.state_notes M) (Or.test_notes M)

  abbrev TestMade : Test N → Type 0
  TestMade x = Made (count_test x) told_test

  abbrev WTest : Type 0
  WTest = (x : Test N) × TestMade x

  abbrev tests_of : List WTest → List (Test N)
  tests_of = map {A = WTest} {B = Test N} (λ q. q.0)

  abbrev Ltest : List (Test M) → List M
  Ltest xs = joined (map told_test xs)

  abbrev tests_from : List WTest → From S (List (Test M))
  tests_from ps k = all_from (map count_test (tests_of ps)) k

  all_test : (ps : List WTest) → Made (tests_from ps) Ltest
  all_test [] k = tt
  all_test (q ∷ ps) k = made_two (count_test q.0) told_test q.1 (tests_from ps) Ltest (all_test ps) k

  abbrev ebottom : Equation-F N WEquation WArm WGuard WHandler WState WTest → Equation-F N (Equation N) (Arm N) (Guard N) (Handler N) (State N) (Test N)
  ebottom y = map-Equation N WEquation WArm WGuard WHandler WState WTest (Equation N) (Arm N) (Guard N) (Handler N) (State N) (Test N) (λ q. q.0) (λ q. q.0) (λ q. q.0) (λ q. q.0) (λ q. q.0) (λ q. q.0) y

  abbrev ecount : Equation-F N (Equation N) (Arm N) (Guard N) (Handler N) (State N) (Test N) → From S (Equation-F M (Equation M) (Arm M) (Guard M) (Handler M) (State M) (Test M))
  ecount x = Nu.equation_layer step next (map-Equation N (Equation N) (Arm N) (Guard N) (Handler N) (State N) (Test N) (From S (Equation M)) (From S (Arm M)) (From S (Guard M)) (From S (Handler M)) (From S (State M)) (From S (Test M)) count_equation count_arm count_guard count_handler count_state count_test x)

  abbrev etold : Equation-F M (Equation M) (Arm M) (Guard M) (Handler M) (State M) (Test M) → List M
  etold x = Or.equation_notes M (map-Equation M (Equation M) (Arm M) (Guard M) (Handler M) (State M) (Test M) (List M) (List M) (List M) (List M) (List M) (List M) told_equation told_arm told_guard told_handler told_state told_test x)

  elayer_made : (y : Equation-F N WEquation WArm WGuard WHandler WState WTest) → Made (ecount (ebottom y)) etold
  elayer_made (Equation-F.Plain r x) k = exprs_made x k
  elayer_made (Equation-F.Clock r x) k = exprs_made x k
  elayer_made (Equation-F.Initial r x) k = exprs_made x k
  elayer_made (Equation-F.Emit r x) k = exprs_made x k
  elayer_made (Equation-F.Reset ps x) k = made_two (gx x) (Or.notes M) (exprs_made x) (equations_from ps) Lequation (all_equation ps) k
  elayer_made (Equation-F.Match x ps) k = made_two (gx x) (Or.notes M) (exprs_made x) (arms_from ps) Larm (all_arm ps) k
  elayer_made (Equation-F.Present ps None) k = each_both Q (Ltest (tests_from ps k).0) [] (all_test ps k) tt
  elayer_made (Equation-F.Present ps (Some h)) k = made_two (tests_from ps) Ltest (all_test ps) (count_handler h.0) told_handler h.1 k
  elayer_made (Equation-F.Automaton ps) k = all_state ps k

  equation_made : (y : Equation-F N WEquation WArm WGuard WHandler WState WTest) → EquationMade (roll-Equation N (ebottom y))
  equation_made y k =
      subst (λ (g : From S (Equation M)). Each Q (told_equation (g k).0)) (sym (fold-roll-Equation N (From S (Equation M)) (From S (Arm M)) (From S (Guard M)) (From S (Handler M)) (From S (State M)) (From S (Test M)) (Nu.equation_step step next) (Nu.arm_step step next) (Nu.guard_step step next) (Nu.handler_step step next) (Nu.state_step step next) (Nu.test_step step next) (ebottom y)))
      (subst (Each Q) (sym (fold-roll-Equation M (List M) (List M) (List M) (List M) (List M) (List M) (Or.equation_notes M) (Or.arm_notes M) (Or.guard_notes M) (Or.handler_notes M) (Or.state_notes M) (Or.test_notes M) (ecount (ebottom y) k).0)) (elayer_made y k))

  arm_made : (y : Arm-F N WEquation WArm WGuard WHandler WState WTest) → ArmMade (roll-Arm N (record { case = y.case; handler = y.handler.0 }))
  arm_made y k =
      subst (λ (g : From S (Arm M)). Each Q (told_arm (g k).0)) (sym (fold-roll-Arm N (From S (Equation M)) (From S (Arm M)) (From S (Guard M)) (From S (Handler M)) (From S (State M)) (From S (Test M)) (Nu.equation_step step next) (Nu.arm_step step next) (Nu.guard_step step next) (Nu.handler_step step next) (Nu.state_step step next) (Nu.test_step step next) (record { case = y.case; handler = y.handler.0 })))
      (subst (Each Q) (sym (fold-roll-Arm M (List M) (List M) (List M) (List M) (List M) (List M) (Or.equation_notes M) (Or.arm_notes M) (Or.guard_notes M) (Or.handler_notes M) (Or.state_notes M) (Or.test_notes M) (record { case = y.case; handler = (count_handler y.handler.0 k).0 }))) (y.handler.1 k))

  test_made : (y : Test-F N WEquation WArm WGuard WHandler WState WTest) → TestMade (roll-Test N (record { signal = y.signal; pat = y.pat; handler = y.handler.0 }))
  test_made y k =
      subst (λ (g : From S (Test M)). Each Q (told_test (g k).0)) (sym (fold-roll-Test N (From S (Equation M)) (From S (Arm M)) (From S (Guard M)) (From S (Handler M)) (From S (State M)) (From S (Test M)) (Nu.equation_step step next) (Nu.arm_step step next) (Nu.guard_step step next) (Nu.handler_step step next) (Nu.state_step step next) (Nu.test_step step next) (record { signal = y.signal; pat = y.pat; handler = y.handler.0 })))
      (subst (Each Q) (sym (fold-roll-Test M (List M) (List M) (List M) (List M) (List M) (List M) (Or.equation_notes M) (Or.arm_notes M) (Or.guard_notes M) (Or.handler_notes M) (Or.state_notes M) (Or.test_notes M) (record { signal = y.signal; pat = y.pat; handler = (count_handler y.handler.0 k).0 }))) (y.handler.1 k))

  handler_made : (y : Handler-F N WEquation WArm WGuard WHandler WState WTest) → HandlerMade (roll-Handler N (record { locals = equations_of y.locals; eqs = equations_of y.eqs }))
  handler_made y k =
      subst (λ (g : From S (Handler M)). Each Q (told_handler (g k).0)) (sym (fold-roll-Handler N (From S (Equation M)) (From S (Arm M)) (From S (Guard M)) (From S (Handler M)) (From S (State M)) (From S (Test M)) (Nu.equation_step step next) (Nu.arm_step step next) (Nu.guard_step step next) (Nu.handler_step step next) (Nu.state_step step next) (Nu.test_step step next) (record { locals = equations_of y.locals; eqs = equations_of y.eqs })))
      (subst (Each Q) (sym (fold-roll-Handler M (List M) (List M) (List M) (List M) (List M) (List M) (Or.equation_notes M) (Or.arm_notes M) (Or.guard_notes M) (Or.handler_notes M) (Or.state_notes M) (Or.test_notes M) (record { locals = (equations_from y.locals k).0; eqs = (equations_from y.eqs (equations_from y.locals k).1).0 }))) (made_two (equations_from y.locals) Lequation (all_equation y.locals) (equations_from y.eqs) Lequation (all_equation y.eqs) k))

  guard_made : (y : Guard-F N WEquation WArm WGuard WHandler WState WTest) → GuardMade (roll-Guard N (record { eqs = equations_of y.eqs; cond = y.cond; restart = y.restart; target = y.target }))
  guard_made y k =
      subst (λ (g : From S (Guard M)). Each Q (told_guard (g k).0)) (sym (fold-roll-Guard N (From S (Equation M)) (From S (Arm M)) (From S (Guard M)) (From S (Handler M)) (From S (State M)) (From S (Test M)) (Nu.equation_step step next) (Nu.arm_step step next) (Nu.guard_step step next) (Nu.handler_step step next) (Nu.state_step step next) (Nu.test_step step next) (record { eqs = equations_of y.eqs; cond = y.cond; restart = y.restart; target = y.target })))
      (subst (Each Q) (sym (fold-roll-Guard M (List M) (List M) (List M) (List M) (List M) (List M) (Or.equation_notes M) (Or.arm_notes M) (Or.guard_notes M) (Or.handler_notes M) (Or.state_notes M) (Or.test_notes M) (record { eqs = (equations_from y.eqs k).0; cond = (gx y.cond (equations_from y.eqs k).1).0; restart = y.restart; target = y.target }))) (made_two (equations_from y.eqs) Lequation (all_equation y.eqs) (gx y.cond) (Or.notes M) (exprs_made y.cond) k))

  state_made : (y : State-F N WEquation WArm WGuard WHandler WState WTest) → StateMade (roll-State N (record { name = y.name; handler = y.handler.0; strong = guards_of y.strong; weak = guards_of y.weak }))
  state_made y k =
      subst (λ (g : From S (State M)). Each Q (told_state (g k).0)) (sym (fold-roll-State N (From S (Equation M)) (From S (Arm M)) (From S (Guard M)) (From S (Handler M)) (From S (State M)) (From S (Test M)) (Nu.equation_step step next) (Nu.arm_step step next) (Nu.guard_step step next) (Nu.handler_step step next) (Nu.state_step step next) (Nu.test_step step next) (record { name = y.name; handler = y.handler.0; strong = guards_of y.strong; weak = guards_of y.weak })))
      (subst (Each Q) (sym (fold-roll-State M (List M) (List M) (List M) (List M) (List M) (List M) (Or.equation_notes M) (Or.arm_notes M) (Or.guard_notes M) (Or.handler_notes M) (Or.state_notes M) (Or.test_notes M) (record { name = y.name; handler = (count_handler y.handler.0 k).0; strong = (guards_from y.strong (count_handler y.handler.0 k).1).0; weak = (guards_from y.weak (guards_from y.strong (count_handler y.handler.0 k).1).1).0 }))) (each_both Q (told_handler (count_handler y.handler.0 k).0) (Lguard (guards_from y.strong (count_handler y.handler.0 k).1).0 ++ Lguard (guards_from y.weak (guards_from y.strong (count_handler y.handler.0 k).1).1).0) (y.handler.1 k) (made_two (guards_from y.strong) Lguard (all_guard y.strong) (guards_from y.weak) Lguard (all_guard y.weak) (count_handler y.handler.0 k).1)))

  equations_made : (x : Equation N) → EquationMade x
  equations_made = ind-Equation N EquationMade ArmMade GuardMade HandlerMade StateMade TestMade
      (λ x y from. subst (λ z. EquationMade (roll-Equation N z)) from (equation_made y))
      (λ x y from. subst (λ z. ArmMade (roll-Arm N z)) from (arm_made y))
      (λ x y from. subst (λ z. GuardMade (roll-Guard N z)) from (guard_made y))
      (λ x y from. subst (λ z. HandlerMade (roll-Handler N z)) from (handler_made y))
      (λ x y from. subst (λ z. StateMade (roll-State N z)) from (state_made y))
      (λ x y from. subst (λ z. TestMade (roll-Test N z)) from (test_made y))

  list_of_equations : (xs : List (Equation N)) → Made (all_from (map count_equation xs)) Lequation
  list_of_equations [] k = tt
  list_of_equations (x ∷ xs) k = made_two (count_equation x) told_equation (equations_made x) (all_from (map count_equation xs)) Lequation (list_of_equations xs) k

  pub made_body : (b : BodyOf N) (k : S) → Each Q (Or.notes_body M (Nu.number_body step next b k).0)
  made_body b k = made_two (all_from (map count_equation b.eqs)) Lequation (list_of_equations b.eqs) (gx b.result) (Or.notes M) (exprs_made b.result) k

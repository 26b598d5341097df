-- The notes of a tree are the notes of what is found in it: something holds of all of the one where it does of all of the other.
use Rattle.std.specs.Prelude.{◌≡◌, ℕ, suc, ◌+◌, Bool, true, false, List, [], ◌∷◌, ◌++◌, map, length, Option, Some, None, refl}
use Rattle.std.proofs.Common.{ap, ap₂, sym, ◌∙◌, subst}
use Rattle.ls_ast.specs.declared.tree.Pat.{Pat}
use Rattle.ls_ast.specs.declared.tree.BodyOf.{BodyOf}
use Rattle.ls_ast.specs.declared.tree.Case.{Case}
use Rattle.ls_ast.specs.declared.tree.Expr.{Expr, fold-roll-Expr, ind-Expr, roll-Expr}
use Rattle.ls_ast.specs.declared.tree.Form.{Form, fold-Form, fold-roll-Form, map-Form, roll-Form}
use Rattle.ls_ast.specs.declared.tree.Form.TheOpen.{Form-F}
use Rattle.ls_ast.specs.declared.tree.Equation.{Equation, fold-Equation, fold-roll-Equation, ind-Equation, map-Equation, roll-Equation}
use Rattle.ls_ast.specs.declared.tree.Equation.TheOpen.{Equation-F, Arm-F, Guard-F, Handler-F, State-F, Test-F}
use Rattle.ls_ast.specs.declared.tree.Arm.{Arm, fold-Arm, fold-roll-Arm, roll-Arm}
use Rattle.ls_ast.specs.declared.tree.Guard.{Guard, fold-Guard, fold-roll-Guard, roll-Guard}
use Rattle.ls_ast.specs.declared.tree.Handler.{Handler, fold-Handler, fold-roll-Handler, roll-Handler}
use Rattle.ls_ast.specs.declared.tree.State.{State, fold-State, fold-roll-State, roll-State}
use Rattle.ls_ast.specs.declared.tree.Test.{Test, fold-Test, fold-roll-Test, roll-Test}
use Rattle.ls_places.specs.Clocks.{choice_parts, form_parts}
use Rattle.ls_places.specs.Places
use Rattle.ls_places.specs.Places.{Place, in_reset, in_do, in_let}
use Rattle.ls_places.specs.declared.around.Where.{Where}
use Rattle.ls_places.specs.declared.places.Whole.{Whole}
use Rattle.tree_notes.specs.Each.{Each}
use Rattle.tree_notes.specs.Order.{joined}
use Rattle.clock_rules.specs.Layers.{Layer, Inside, Laid, laid_layers, form_layers, expr_layers, laid, layers}
use Rattle.clock_rules.specs.Facts.{placed, nodes_of}
use Rattle.tree_notes.specs.Order as Or
use Rattle.tree_notes.specs.Order.{choices_joined, option_joined}
use Rattle.clock_rules.proofs.Sides.{all_left, all_right, all_both}

nil_end : {A : Type 0} (xs : List A) → xs ++ [] ≡ xs
nil_end [] = refl
nil_end (x ∷ xs) = ap (λ z. x ∷ z) (nil_end xs)

module _ (N : Type 0) (fN : N → Bool) where
  abbrev lnotes : List (Layer N) → List N
  lnotes [] = []
  lnotes (l ∷ ls) = l.note ∷ lnotes ls

  lnotes_both : (xs ys : List (Layer N)) → lnotes (xs ++ ys) ≡ lnotes xs ++ lnotes ys
  lnotes_both [] ys = refl
  lnotes_both (x ∷ xs) ys = ap (λ z. x.note ∷ z) (lnotes_both xs ys)

  -- ---- expressions: the layers have the notes, in the same order

  abbrev inside : Form N → Inside N fN
  inside = fold-Form N (Inside N fN) (Laid N fN) (form_layers N fN) (expr_layers N fN)

  abbrev FormIs : Form N → Type 0
  FormIs x = lnotes (inside x).all ≡ Or.notes_form N x

  abbrev ExprIs : Expr N → Type 0
  ExprIs x = lnotes (laid N fN x).all ≡ Or.notes N x

  abbrev WForm : Type 0
  WForm = (x : Form N) × FormIs x

  abbrev WExpr : Type 0
  WExpr = (x : Expr N) × ExprIs x

  abbrev first_of : WExpr → Expr N
  first_of p = p.0

  abbrev in_pairs : {X Y : Type 0} → (X → Y) → List (Case × X) → List (Case × Y)
  in_pairs {X} {Y} g = map {A = Case × X} {B = Case × Y} (λ c. (c.0, g c.1))

  list_is : (ps : List WExpr) → lnotes (laid_layers N fN (map (laid N fN) (map first_of ps))) ≡ joined (map (Or.notes N) (map first_of ps))
  list_is [] = refl
  list_is (p ∷ ps) = lnotes_both (laid N fN p.0).all (laid_layers N fN (map (laid N fN) (map first_of ps))) ∙ ap₂ (λ x y. x ++ y) p.1 (list_is ps)

  choices_are : (ps : List (Case × WExpr)) → lnotes (laid_layers N fN (choice_parts (in_pairs (laid N fN) (in_pairs first_of ps)))) ≡ choices_joined (in_pairs (Or.notes N) (in_pairs first_of ps))
  choices_are [] = refl
  choices_are (p ∷ ps) = lnotes_both (laid N fN p.1.0).all (laid_layers N fN (choice_parts (in_pairs (laid N fN) (in_pairs first_of ps)))) ∙ ap₂ (λ x y. x ++ y) p.1.1 (choices_are ps)

  one_is : (p : WExpr) → lnotes ((laid N fN p.0).all ++ []) ≡ Or.notes N p.0
  one_is p = ap lnotes (nil_end (laid N fN p.0).all) ∙ p.1

  two_are : (p q : WExpr) → lnotes ((laid N fN p.0).all ++ ((laid N fN q.0).all ++ [])) ≡ Or.notes N p.0 ++ Or.notes N q.0
  two_are p q = lnotes_both (laid N fN p.0).all ((laid N fN q.0).all ++ []) ∙ ap₂ (λ x y. x ++ y) p.1 (one_is q)

  layers_end : (xs ys : List (Laid N fN)) → laid_layers N fN (xs ++ ys) ≡ laid_layers N fN xs ++ laid_layers N fN ys
  layers_end [] ys = refl
  layers_end (x ∷ xs) ys = ap (λ z. x.all ++ z) (layers_end xs ys) ∙ assoc x.all (laid_layers N fN xs) (laid_layers N fN ys)
    where
      assoc : {A : Type 0} (a b c : List A) → a ++ (b ++ c) ≡ (a ++ b) ++ c
      assoc [] b c = refl
      assoc (x ∷ a) b c = ap (λ z. x ∷ z) (assoc a b c)

  args_are : (ps : List WExpr) (os : List (Laid N fN)) (c : List N) → lnotes (laid_layers N fN os) ≡ c → lnotes (laid_layers N fN (map (laid N fN) (map first_of ps) ++ os)) ≡ joined (map (Or.notes N) (map first_of ps)) ++ c
  args_are ps os c e = ap lnotes (layers_end (map (laid N fN) (map first_of ps)) os) ∙ lnotes_both (laid_layers N fN (map (laid N fN) (map first_of ps))) (laid_layers N fN os) ∙ ap₂ (λ x y. x ++ y) (list_is ps) e

  abbrev bottom : Form-F N WForm WExpr → Form-F N (Form N) (Expr N)
  bottom y = map-Form N WForm WExpr (Form N) (Expr N) (λ p. p.0) (λ p. p.0) y

  layer_is : (y : Form-F N WForm WExpr) → lnotes (laid_layers N fN (form_parts (map-Form N (Form N) (Expr N) (Inside N fN) (Laid N fN) inside (laid N fN) (bottom y))))
      ≡ Or.form_notes N (map-Form N (Form N) (Expr N) (List N) (List N) (Or.notes_form N) (Or.notes N) (bottom y))
  layer_is (Form-F.Leaf l) = refl
  layer_is (Form-F.Case x) = refl
  layer_is (Form-F.Var x) = refl
  layer_is (Form-F.Last x) = refl
  layer_is (Form-F.Asked x) = refl
  layer_is (Form-F.Op o ps) = list_is ps
  layer_is (Form-F.Tuple ps) = list_is ps
  layer_is (Form-F.Pre q) = one_is q
  layer_is (Form-F.Fby q r) = two_are q r
  layer_is (Form-F.Init q r) = two_are q r
  layer_is (Form-F.When q x c) = one_is q
  layer_is (Form-F.Merge x ps) = choices_are ps
  layer_is (Form-F.Call run x ps None) = args_are ps [] [] refl
  layer_is (Form-F.Call run x ps (Some q)) = args_are ps (laid N fN q.0 ∷ []) (Or.notes N q.0) (one_is q)

  pub exprs_are : (x : Expr N) → ExprIs x
  exprs_are = ind-Expr N FormIs ExprIs
      (λ x y from. subst (λ z. FormIs (roll-Form N z)) from
      (ap (λ (i : Inside N fN). lnotes i.all) (fold-roll-Form N (Inside N fN) (Laid N fN) (form_layers N fN) (expr_layers N fN) (bottom y)) ∙ layer_is y
      ∙ sym (fold-roll-Form N (List N) (List N) (Or.form_notes N) (Or.expr_notes N) (bottom y))))
      (λ x y from. subst (λ z. ExprIs (roll-Expr N z)) from
      (ap (λ (l : Laid N fN). lnotes l.all) (fold-roll-Expr N (Inside N fN) (Laid N fN) (form_layers N fN) (expr_layers N fN) (record { note = y.note; form = y.form.0 }))
      ∙ ap (λ z. y.note ∷ z) y.form.1
      ∙ sym (fold-roll-Expr N (List N) (List N) (Or.form_notes N) (Or.expr_notes N) (record { note = y.note; form = y.form.0 }))))

  -- ---- what a walk adds

  module _ (Q : N → Type 0) (first : ℕ) (cases : ℕ → Option ℕ) (sN : Expr N → Bool) where
    abbrev Found : Type 0
    Found = Places.Found N

    -- something holds of the notes of all expressions found
    abbrev Noted : List (Whole N) → Type 0
    Noted [] = Unit {0}
    Noted (x ∷ xs) = Each Q (Or.notes N x.expr) × Noted xs

    abbrev Iff : Type 0 → Type 0 → Type 0
    Iff P R = (P → R) × (R → P)

    noted_end : (xs : List (Whole N)) (x : Whole N) → Iff (Noted (xs ++ x ∷ [])) (Noted xs × Each Q (Or.notes N x.expr))
    noted_end [] x = ((λ h. (tt, h.0)), (λ h. (h.1, tt)))
    noted_end (y ∷ xs) x = let r = noted_end xs x in ((λ h. let s = r.0 h.1 in ((h.0, s.0), s.1)), (λ h. (h.0.0, r.1 (h.0.1, h.1))))

    abbrev at_place : Expr N → Place → Whole N
    at_place e p = record { expr = e; place = p }

    abbrev Adds : Places.Walk N → List N → Type 0
    Adds a c = (w : Where) (q : Found) → Iff (Noted (a w q).exprs) (Noted q.exprs × Each Q c)

    abbrev ArmAdds : Places.InArm N → List N → Type 0
    ArmAdds a c = (m j : ℕ) → Adds (a m j) c

    both_iff : (c c' : List N) (P R S : Type 0) → Iff P (R × Each Q c') → Iff R (S × Each Q c) → Iff P (S × Each Q (c ++ c'))
    both_iff c c' P R S f g = (
      (λ h. let r = f.0 h in let s = g.0 r.0 in (s.0, all_both Q c c' s.1 r.1)),
      (λ h. f.1 (g.1 (h.0, all_left Q c c' h.1), all_right Q c c' h.1)),
    )

    -- the pattern of a test finds no expression
    pattern_same : (s : ℕ) (o : Option Pat) (w : Where) (q : Found) → (Places.bind_pattern N s o w q).exprs ≡ q.exprs
    pattern_same s None w q = refl
    pattern_same s (Some p) w q = refl

    source : (P : Type 0) (es es' : List (Whole N)) (c : List N) → es ≡ es' → Iff P (Noted es × Each Q c) → Iff P (Noted es' × Each Q c)
    source P es es' c e f = subst (λ z. Iff P (Noted z × Each Q c)) e f

    end_nil : (c : List N) (P R : Type 0) → Iff P (R × Each Q c) → Iff P (R × Each Q (c ++ []))
    end_nil c P R f = subst (λ z. Iff P (R × Each Q z)) (sym (nil_end c)) f

    abbrev walk_equation : Equation N → Places.Walk N
    walk_equation = Places.walk_of N first cases sN

    abbrev told_equation : Equation N → List N
    told_equation = fold-Equation N (List N) (List N) (List N) (List N) (List N) (List N) (Or.equation_notes N) (Or.arm_notes N) (Or.guard_notes N) (Or.handler_notes N) (Or.state_notes N) (Or.test_notes N)

    abbrev walk_arm : Arm N → Places.AnArm N
    walk_arm = Places.arm_of N first cases sN

    abbrev told_arm : Arm N → List N
    told_arm = fold-Arm N (List N) (List N) (List N) (List N) (List N) (List N) (Or.equation_notes N) (Or.arm_notes N) (Or.guard_notes N) (Or.handler_notes N) (Or.state_notes N) (Or.test_notes N)

    abbrev walk_guard : Guard N → Places.AGuard N
    walk_guard = Places.guard_of N first cases sN

    abbrev told_guard : Guard N → List N
    told_guard = fold-Guard N (List N) (List N) (List N) (List N) (List N) (List N) (Or.equation_notes N) (Or.arm_notes N) (Or.guard_notes N) (Or.handler_notes N) (Or.state_notes N) (Or.test_notes N)

    abbrev walk_handler : Handler N → Places.InArm N
    walk_handler = Places.handler_of N first cases sN

    abbrev told_handler : Handler N → List N
    told_handler = fold-Handler N (List N) (List N) (List N) (List N) (List N) (List N) (Or.equation_notes N) (Or.arm_notes N) (Or.guard_notes N) (Or.handler_notes N) (Or.state_notes N) (Or.test_notes N)

    abbrev walk_state : State N → Places.AState N
    walk_state = Places.state_of N first cases sN

    abbrev told_state : State N → List N
    told_state = fold-State N (List N) (List N) (List N) (List N) (List N) (List N) (Or.equation_notes N) (Or.arm_notes N) (Or.guard_notes N) (Or.handler_notes N) (Or.state_notes N) (Or.test_notes N)

    abbrev walk_test : Test N → Places.ATest N
    walk_test = Places.test_of N first cases sN

    abbrev told_test : Test N → List N
    told_test = fold-Test N (List N) (List N) (List N) (List N) (List N) (List N) (Or.equation_notes N) (Or.arm_notes N) (Or.guard_notes N) (Or.handler_notes N) (Or.state_notes N) (Or.test_notes N)

    abbrev EquationP : Equation N → Type 0
    EquationP x = Adds (walk_equation x) (told_equation x)

    abbrev ArmP : Arm N → Type 0
    ArmP x = ArmAdds (walk_arm x).walk (told_arm x)

    abbrev GuardP : Guard N → Type 0
    GuardP x = ArmAdds (walk_guard x).walk (told_guard x)

    abbrev HandlerP : Handler N → Type 0
    HandlerP x = ArmAdds (walk_handler x) (told_handler x)

    abbrev StateP : State N → Type 0
    StateP x = ArmAdds (walk_state x).walk (told_state x)

    abbrev TestP : Test N → Type 0
    TestP x = ArmAdds (walk_test x).walk (told_test x)

    abbrev WEquation : Type 0
    WEquation = (x : Equation N) × EquationP x

    abbrev equations_of : List WEquation → List (Equation N)
    equations_of = map {A = WEquation} {B = Equation N} (λ q. q.0)

    abbrev WArm : Type 0
    WArm = (x : Arm N) × ArmP x

    abbrev arms_of : List WArm → List (Arm N)
    arms_of = map {A = WArm} {B = Arm N} (λ q. q.0)

    abbrev WGuard : Type 0
    WGuard = (x : Guard N) × GuardP x

    abbrev guards_of : List WGuard → List (Guard N)
    guards_of = map {A = WGuard} {B = Guard N} (λ q. q.0)

    abbrev WHandler : Type 0
    WHandler = (x : Handler N) × HandlerP x

    abbrev handlers_of : List WHandler → List (Handler N)
    handlers_of = map {A = WHandler} {B = Handler N} (λ q. q.0)

    abbrev WState : Type 0
    WState = (x : State N) × StateP x

    abbrev states_of : List WState → List (State N)
    states_of = map {A = WState} {B = State N} (λ q. q.0)

    abbrev WTest : Type 0
    WTest = (x : Test N) × TestP x

    abbrev tests_of : List WTest → List (Test N)
    tests_of = map {A = WTest} {B = Test N} (λ q. q.0)

    nothing_more : (P : Type 0) → Iff P (P × Each Q [])
    nothing_more P = ((λ h. (h, tt)), (λ h. h.0))

    eqs_add : (ps : List WEquation) → Adds (Places.walk_all N (map walk_equation (equations_of ps))) (joined (map told_equation (equations_of ps)))
    eqs_add [] w q = nothing_more (Noted q.exprs)
    eqs_add (r ∷ ps) w q = both_iff (told_equation r.0) (joined (map told_equation (equations_of ps))) (Noted (Places.walk_all N (map walk_equation (equations_of ps)) w (walk_equation r.0 w q)).exprs)
        (Noted (walk_equation r.0 w q).exprs) (Noted q.exprs) (eqs_add ps w (walk_equation r.0 w q)) (r.1 w q)

    guards_add : (ps : List WGuard) → ArmAdds (Places.walk_guards N (map walk_guard (guards_of ps))) (joined (map told_guard (guards_of ps)))
    guards_add [] m j w q = nothing_more (Noted q.exprs)
    guards_add (r ∷ ps) m j w q = both_iff (told_guard r.0) (joined (map told_guard (guards_of ps))) (Noted (Places.walk_guards N (map walk_guard (guards_of ps)) m j w ((walk_guard r.0).walk m j w q)).exprs)
        (Noted ((walk_guard r.0).walk m j w q).exprs) (Noted q.exprs) (guards_add ps m j w ((walk_guard r.0).walk m j w q)) (r.1 m j w q)

    arms_add : (ps : List WArm) (m j : ℕ) → Adds (Places.arms_from N m j (Places.arm_walks N (map walk_arm (arms_of ps)))) (joined (map told_arm (arms_of ps)))
    arms_add [] m j w q = nothing_more (Noted q.exprs)
    arms_add (r ∷ ps) m j w q = both_iff (told_arm r.0) (joined (map told_arm (arms_of ps))) (Noted (Places.arms_from N m (suc j) (Places.arm_walks N (map walk_arm (arms_of ps))) w ((walk_arm r.0).walk m j w q)).exprs)
        (Noted ((walk_arm r.0).walk m j w q).exprs) (Noted q.exprs) (arms_add ps m (suc j) w ((walk_arm r.0).walk m j w q)) (r.1 m j w q)

    states_add : (ps : List WState) (m j : ℕ) → Adds (Places.arms_from N m j (Places.state_walks N (map walk_state (states_of ps)))) (joined (map told_state (states_of ps)))
    states_add [] m j w q = nothing_more (Noted q.exprs)
    states_add (r ∷ ps) m j w q = both_iff (told_state r.0) (joined (map told_state (states_of ps))) (Noted (Places.arms_from N m (suc j) (Places.state_walks N (map walk_state (states_of ps))) w ((walk_state r.0).walk m j w q)).exprs)
        (Noted ((walk_state r.0).walk m j w q).exprs) (Noted q.exprs) (states_add ps m (suc j) w ((walk_state r.0).walk m j w q)) (r.1 m j w q)

    tests_add : (ps : List WTest) (xs : List (Places.InArm N)) (c : List N) → ((m j : ℕ) → Adds (Places.arms_from N m j xs) c) → (m j : ℕ)
        → Adds (Places.arms_from N m j (Places.test_walks N (map walk_test (tests_of ps)) ++ xs)) (joined (map told_test (tests_of ps)) ++ c)
    tests_add [] xs c h m j w q = h m j w q
    tests_add (r ∷ ps) xs c h m j w q =
        let whole = both_iff (told_test r.0) (joined (map told_test (tests_of ps)) ++ c) (Noted (Places.arms_from N m (suc j) (Places.test_walks N (map walk_test (tests_of ps)) ++ xs) w ((walk_test r.0).walk m j w q)).exprs)
        (Noted ((walk_test r.0).walk m j w q).exprs) (Noted q.exprs) (tests_add ps xs c h m (suc j) w ((walk_test r.0).walk m j w q)) (r.1 m j w q) in
        subst (λ z. Iff (Noted (Places.arms_from N m (suc j) (Places.test_walks N (map walk_test (tests_of ps)) ++ xs) w ((walk_test r.0).walk m j w q)).exprs) (Noted q.exprs × Each Q z))
        (assoc (told_test r.0) (joined (map told_test (tests_of ps))) c) whole
      where
        assoc : {A : Type 0} (a b c : List A) → a ++ (b ++ c) ≡ (a ++ b) ++ c
        assoc [] b c = refl
        assoc (x ∷ a) b c = ap (λ z. x ∷ z) (assoc a b c)

    one_arm : (a : Places.InArm N) (c : List N) → ArmAdds a c → (m j : ℕ) → Adds (Places.arms_from N m j (a ∷ [])) c
    one_arm a c h m j w q = h m j w q

    abbrev ebottom : Equation-F N WEquation WArm WGuard WHandler WState WTest → Equation-F N (Equation N) (Arm N) (Guard N) (Handler N) (State N) (Test N)
    ebottom y = map-Equation N WEquation WArm WGuard WHandler WState WTest (Equation N) (Arm N) (Guard N) (Handler N) (State N) (Test N) (λ p. p.0) (λ p. p.0) (λ p. p.0) (λ p. p.0) (λ p. p.0) (λ p. p.0) y

    abbrev walks : Equation-F N (Equation N) (Arm N) (Guard N) (Handler N) (State N) (Test N) → Equation-F N (Places.Walk N) (Places.AnArm N) (Places.AGuard N) (Places.InArm N) (Places.AState N) (Places.ATest N)
    walks = map-Equation N (Equation N) (Arm N) (Guard N) (Handler N) (State N) (Test N) (Places.Walk N) (Places.AnArm N) (Places.AGuard N) (Places.InArm N) (Places.AState N) (Places.ATest N) walk_equation walk_arm walk_guard walk_handler walk_state walk_test

    abbrev tolds : Equation-F N (Equation N) (Arm N) (Guard N) (Handler N) (State N) (Test N) → List N
    tolds x = Or.equation_notes N (map-Equation N (Equation N) (Arm N) (Guard N) (Handler N) (State N) (Test N) (List N) (List N) (List N) (List N) (List N) (List N) told_equation told_arm told_guard told_handler told_state told_test x)

    layer_adds : (y : Equation-F N WEquation WArm WGuard WHandler WState WTest) → Adds (Places.equation_step N first cases sN (walks (ebottom y))) (tolds (ebottom y))
    layer_adds (Equation-F.Plain r x) w q = noted_end q.exprs (at_place x w.place)
    layer_adds (Equation-F.Clock r x) w q = noted_end q.exprs (at_place x w.place)
    layer_adds (Equation-F.Initial r x) w q = noted_end q.exprs (at_place x w.place)
    layer_adds (Equation-F.Emit r x) w q = noted_end q.exprs (at_place x w.place)
    layer_adds (Equation-F.Reset ps x) w q =
        let after : Found = Places.open_reset N x w q in
        both_iff (Or.notes N x) (joined (map told_equation (equations_of ps))) (Noted (Places.walk_all N (map walk_equation (equations_of ps)) (in_reset (length q.resets) w) after).exprs) (Noted (q.exprs ++ at_place x w.place ∷ [])) (Noted q.exprs)
        (eqs_add ps (in_reset (length q.resets) w) after) (noted_end q.exprs (at_place x w.place))
    layer_adds (Equation-F.Match x ps) w q =
        let m : ℕ = Places.next N first cases sN q in
        let after : Found = Places.open_match N x (Places.arm_cases N (map walk_arm (arms_of ps))) w q in
        both_iff (Or.notes N x) (joined (map told_arm (arms_of ps))) (Noted (Places.arms_from N m 0 (Places.arm_walks N (map walk_arm (arms_of ps))) w after).exprs) (Noted (q.exprs ++ at_place x w.place ∷ [])) (Noted q.exprs)
        (arms_add ps m 0 w after) (noted_end q.exprs (at_place x w.place))
    layer_adds (Equation-F.Present ps None) w q =
        tests_add ps [] [] (λ m j v r. nothing_more (Noted r.exprs)) (Places.next N first cases sN q) 0 w (Places.open_present N (Places.test_signals N (map walk_test (tests_of ps))) w q)
    layer_adds (Equation-F.Present ps (Some h)) w q =
        tests_add ps (walk_handler h.0 ∷ []) (told_handler h.0) (one_arm (walk_handler h.0) (told_handler h.0) h.1) (Places.next N first cases sN q) 0 w (Places.open_present N (Places.test_signals N (map walk_test (tests_of ps))) w q)
    layer_adds (Equation-F.Automaton ps) w q = states_add ps (Places.next N first cases sN q) 0 w (Places.open_modes N w.place q)

    equation_adds : (y : Equation-F N WEquation WArm WGuard WHandler WState WTest) → EquationP (roll-Equation N (ebottom y))
    equation_adds y w q =
        subst (λ (c : List N). Iff (Noted (walk_equation (roll-Equation N (ebottom y)) w q).exprs) (Noted q.exprs × Each Q c)) (sym (fold-roll-Equation N (List N) (List N) (List N) (List N) (List N) (List N) (Or.equation_notes N) (Or.arm_notes N) (Or.guard_notes N) (Or.handler_notes N) (Or.state_notes N) (Or.test_notes N) (ebottom y)))
        (subst (λ (a : Places.Walk N). Iff (Noted (a w q).exprs) (Noted q.exprs × Each Q (tolds (ebottom y)))) (sym (fold-roll-Equation N (Places.Walk N) (Places.AnArm N) (Places.AGuard N) (Places.InArm N) (Places.AState N) (Places.ATest N) (Places.equation_step N first cases sN) (Places.arm_step N first cases sN) (Places.guard_step N first cases sN) (Places.handler_step N first cases sN) (Places.state_step N first cases sN) (Places.test_step N first cases sN) (ebottom y))) (layer_adds y w q))

    arm_adds : (y : Arm-F N WEquation WArm WGuard WHandler WState WTest) → ArmP (roll-Arm N (record { case = y.case; handler = y.handler.0 }))
    arm_adds y m j w q =
        subst (λ (c : List N). Iff (Noted ((walk_arm (roll-Arm N (record { case = y.case; handler = y.handler.0 }))).walk m j w q).exprs) (Noted q.exprs × Each Q c)) (sym (fold-roll-Arm N (List N) (List N) (List N) (List N) (List N) (List N) (Or.equation_notes N) (Or.arm_notes N) (Or.guard_notes N) (Or.handler_notes N) (Or.state_notes N) (Or.test_notes N) (record { case = y.case; handler = y.handler.0 })))
        (subst (λ (a : Places.AnArm N). Iff (Noted (a.walk m j w q).exprs) (Noted q.exprs × Each Q (told_handler y.handler.0))) (sym (fold-roll-Arm N (Places.Walk N) (Places.AnArm N) (Places.AGuard N) (Places.InArm N) (Places.AState N) (Places.ATest N) (Places.equation_step N first cases sN) (Places.arm_step N first cases sN) (Places.guard_step N first cases sN) (Places.handler_step N first cases sN) (Places.state_step N first cases sN) (Places.test_step N first cases sN) (record { case = y.case; handler = y.handler.0 }))) (y.handler.1 m j w q))

    test_adds : (y : Test-F N WEquation WArm WGuard WHandler WState WTest) → TestP (roll-Test N (record { signal = y.signal; pat = y.pat; handler = y.handler.0 }))
    test_adds y m j w q =
        subst (λ (c : List N). Iff (Noted ((walk_test (roll-Test N (record { signal = y.signal; pat = y.pat; handler = y.handler.0 }))).walk m j w q).exprs) (Noted q.exprs × Each Q c)) (sym (fold-roll-Test N (List N) (List N) (List N) (List N) (List N) (List N) (Or.equation_notes N) (Or.arm_notes N) (Or.guard_notes N) (Or.handler_notes N) (Or.state_notes N) (Or.test_notes N) (record { signal = y.signal; pat = y.pat; handler = y.handler.0 })))
        (subst (λ (a : Places.ATest N). Iff (Noted (a.walk m j w q).exprs) (Noted q.exprs × Each Q (told_handler y.handler.0))) (sym (fold-roll-Test N (Places.Walk N) (Places.AnArm N) (Places.AGuard N) (Places.InArm N) (Places.AState N) (Places.ATest N) (Places.equation_step N first cases sN) (Places.arm_step N first cases sN) (Places.guard_step N first cases sN) (Places.handler_step N first cases sN) (Places.state_step N first cases sN) (Places.test_step N first cases sN) (record { signal = y.signal; pat = y.pat; handler = y.handler.0 }))) (source (Noted (walk_handler y.handler.0 m j w (Places.bind_pattern N y.signal.0 y.pat (in_let m j w) q)).exprs) (Places.bind_pattern N y.signal.0 y.pat (in_let m j w) q).exprs q.exprs (told_handler y.handler.0) (pattern_same y.signal.0 y.pat (in_let m j w) q) (y.handler.1 m j w (Places.bind_pattern N y.signal.0 y.pat (in_let m j w) q))))

    handler_adds : (y : Handler-F N WEquation WArm WGuard WHandler WState WTest) → HandlerP (roll-Handler N (record { locals = equations_of y.locals; eqs = equations_of y.eqs }))
    handler_adds y m j w q =
        subst (λ (c : List N). Iff (Noted ((walk_handler (roll-Handler N (record { locals = equations_of y.locals; eqs = equations_of y.eqs }))) m j w q).exprs) (Noted q.exprs × Each Q c)) (sym (fold-roll-Handler N (List N) (List N) (List N) (List N) (List N) (List N) (Or.equation_notes N) (Or.arm_notes N) (Or.guard_notes N) (Or.handler_notes N) (Or.state_notes N) (Or.test_notes N) (record { locals = equations_of y.locals; eqs = equations_of y.eqs })))
        (subst (λ (a : Places.InArm N). Iff (Noted (a m j w q).exprs) (Noted q.exprs × Each Q (joined (map told_equation (equations_of y.locals)) ++ joined (map told_equation (equations_of y.eqs))))) (sym (fold-roll-Handler N (Places.Walk N) (Places.AnArm N) (Places.AGuard N) (Places.InArm N) (Places.AState N) (Places.ATest N) (Places.equation_step N first cases sN) (Places.arm_step N first cases sN) (Places.guard_step N first cases sN) (Places.handler_step N first cases sN) (Places.state_step N first cases sN) (Places.test_step N first cases sN) (record { locals = equations_of y.locals; eqs = equations_of y.eqs }))) (let mid : Found = Places.walk_all N (map walk_equation (equations_of y.locals)) (in_let m j w) q in both_iff (joined (map told_equation (equations_of y.locals))) (joined (map told_equation (equations_of y.eqs))) (Noted (Places.walk_all N (map walk_equation (equations_of y.eqs)) (in_do m j w) mid).exprs) (Noted mid.exprs) (Noted q.exprs) (eqs_add y.eqs (in_do m j w) mid) (eqs_add y.locals (in_let m j w) q)))

    guard_adds : (y : Guard-F N WEquation WArm WGuard WHandler WState WTest) → GuardP (roll-Guard N (record { eqs = equations_of y.eqs; cond = y.cond; restart = y.restart; target = y.target }))
    guard_adds y m j w q =
        subst (λ (c : List N). Iff (Noted ((walk_guard (roll-Guard N (record { eqs = equations_of y.eqs; cond = y.cond; restart = y.restart; target = y.target }))).walk m j w q).exprs) (Noted q.exprs × Each Q c)) (sym (fold-roll-Guard N (List N) (List N) (List N) (List N) (List N) (List N) (Or.equation_notes N) (Or.arm_notes N) (Or.guard_notes N) (Or.handler_notes N) (Or.state_notes N) (Or.test_notes N) (record { eqs = equations_of y.eqs; cond = y.cond; restart = y.restart; target = y.target })))
        (subst (λ (a : Places.AGuard N). Iff (Noted (a.walk m j w q).exprs) (Noted q.exprs × Each Q (joined (map told_equation (equations_of y.eqs)) ++ Or.notes N y.cond))) (sym (fold-roll-Guard N (Places.Walk N) (Places.AnArm N) (Places.AGuard N) (Places.InArm N) (Places.AState N) (Places.ATest N) (Places.equation_step N first cases sN) (Places.arm_step N first cases sN) (Places.guard_step N first cases sN) (Places.handler_step N first cases sN) (Places.state_step N first cases sN) (Places.test_step N first cases sN) (record { eqs = equations_of y.eqs; cond = y.cond; restart = y.restart; target = y.target }))) (let mid : Found = Places.walk_all N (map walk_equation (equations_of y.eqs)) (in_let m j w) q in both_iff (joined (map told_equation (equations_of y.eqs))) (Or.notes N y.cond) (Noted (mid.exprs ++ at_place y.cond (in_let m j w).place ∷ [])) (Noted mid.exprs) (Noted q.exprs) (noted_end mid.exprs (at_place y.cond (in_let m j w).place)) (eqs_add y.eqs (in_let m j w) q)))

    state_adds : (y : State-F N WEquation WArm WGuard WHandler WState WTest) → StateP (roll-State N (record { name = y.name; handler = y.handler.0; strong = guards_of y.strong; weak = guards_of y.weak }))
    state_adds y m j w q =
        subst (λ (c : List N). Iff (Noted ((walk_state (roll-State N (record { name = y.name; handler = y.handler.0; strong = guards_of y.strong; weak = guards_of y.weak }))).walk m j w q).exprs) (Noted q.exprs × Each Q c)) (sym (fold-roll-State N (List N) (List N) (List N) (List N) (List N) (List N) (Or.equation_notes N) (Or.arm_notes N) (Or.guard_notes N) (Or.handler_notes N) (Or.state_notes N) (Or.test_notes N) (record { name = y.name; handler = y.handler.0; strong = guards_of y.strong; weak = guards_of y.weak })))
        (subst (λ (a : Places.AState N). Iff (Noted (a.walk m j w q).exprs) (Noted q.exprs × Each Q (told_handler y.handler.0 ++ (joined (map told_guard (guards_of y.strong)) ++ joined (map told_guard (guards_of y.weak)))))) (sym (fold-roll-State N (Places.Walk N) (Places.AnArm N) (Places.AGuard N) (Places.InArm N) (Places.AState N) (Places.ATest N) (Places.equation_step N first cases sN) (Places.arm_step N first cases sN) (Places.guard_step N first cases sN) (Places.handler_step N first cases sN) (Places.state_step N first cases sN) (Places.test_step N first cases sN) (record { name = y.name; handler = y.handler.0; strong = guards_of y.strong; weak = guards_of y.weak }))) (let mid : Found = walk_handler y.handler.0 m j w q in let mid2 : Found = Places.walk_guards N (map walk_guard (guards_of y.strong)) (m + 1) j w mid in
        let end : Found = Places.walk_guards N (map walk_guard (guards_of y.weak)) m j w mid2 in
        both_iff (told_handler y.handler.0) (joined (map told_guard (guards_of y.strong)) ++ joined (map told_guard (guards_of y.weak))) (Noted end.exprs) (Noted mid.exprs) (Noted q.exprs)
        (both_iff (joined (map told_guard (guards_of y.strong))) (joined (map told_guard (guards_of y.weak))) (Noted end.exprs) (Noted mid2.exprs) (Noted mid.exprs) (guards_add y.weak m j w mid2) (guards_add y.strong (m + 1) j w mid)) (y.handler.1 m j w q)))

    equations_add : (x : Equation N) → EquationP x
    equations_add = ind-Equation N EquationP ArmP GuardP HandlerP StateP TestP
        (λ x y from. subst (λ z. EquationP (roll-Equation N z)) from (equation_adds y))
        (λ x y from. subst (λ z. ArmP (roll-Arm N z)) from (arm_adds y))
        (λ x y from. subst (λ z. GuardP (roll-Guard N z)) from (guard_adds y))
        (λ x y from. subst (λ z. HandlerP (roll-Handler N z)) from (handler_adds y))
        (λ x y from. subst (λ z. StateP (roll-State N z)) from (state_adds y))
        (λ x y from. subst (λ z. TestP (roll-Test N z)) from (test_adds y))

    body_adds : (xs : List (Equation N)) → Adds (Places.walk_all N (map walk_equation xs)) (joined (map told_equation xs))
    body_adds [] w q = nothing_more (Noted q.exprs)
    body_adds (x ∷ xs) w q = both_iff (told_equation x) (joined (map told_equation xs)) (Noted (Places.walk_all N (map walk_equation xs) w (walk_equation x w q)).exprs)
        (Noted (walk_equation x w q).exprs) (Noted q.exprs) (body_adds xs w (walk_equation x w q)) (equations_add x w q)

    found_iff : (b : BodyOf N) → Iff (Noted (Places.find N first cases sN b).exprs) (Unit {0} × Each Q (Or.notes_body N b))
    found_iff b =
        let q : Found = Places.walk_all N (map walk_equation b.eqs) Places.at_top (Places.nothing N) in
        both_iff (joined (map told_equation b.eqs)) (Or.notes N b.result) (Noted (q.exprs ++ at_place b.result [] ∷ [])) (Noted q.exprs) (Unit {0}) (noted_end q.exprs (at_place b.result [])) (body_adds b.eqs Places.at_top (Places.nothing N))

    -- ---- nodes

    abbrev NodeQ : Layer N × Place → Type 0
    NodeQ n = Q n.0.note

    placed_iff : (p : Place) (ls : List (Layer N)) → Iff (Each NodeQ (placed N p ls)) (Each Q (lnotes ls))
    placed_iff p [] = ((λ h. tt), (λ h. tt))
    placed_iff p (l ∷ ls) = let r = placed_iff p ls in ((λ h. (h.0, r.0 h.1)), (λ h. (h.0, r.1 h.1)))

    nodes_iff : (xs : List (Whole N)) → Iff (Each NodeQ (nodes_of N fN xs)) (Noted xs)
    nodes_iff [] = ((λ h. tt), (λ h. tt))
    nodes_iff (x ∷ xs) =
        let r = placed_iff x.place (layers N fN x.expr) in let s = nodes_iff xs in let e = exprs_are x.expr in (
          (λ h. (subst (Each Q) e (r.0 (all_left NodeQ (placed N x.place (layers N fN x.expr)) (nodes_of N fN xs) h)), s.0 (all_right NodeQ (placed N x.place (layers N fN x.expr)) (nodes_of N fN xs) h))),
          (λ h. all_both NodeQ (placed N x.place (layers N fN x.expr)) (nodes_of N fN xs) (r.1 (subst (Each Q) (sym e) h.0)) (s.1 h.1)),
        )

    -- what holds of all nodes holds of all notes of the tree
    pub notes_of_nodes : (b : BodyOf N) → Each NodeQ (nodes_of N fN (Places.find N first cases sN b).exprs) → Each Q (Or.notes_body N b)
    notes_of_nodes b h = ((found_iff b).0 ((nodes_iff (Places.find N first cases sN b).exprs).0 h)).1

    pub nodes_of_notes : (b : BodyOf N) → Each Q (Or.notes_body N b) → Each NodeQ (nodes_of N fN (Places.find N first cases sN b).exprs)
    nodes_of_notes b h = (nodes_iff (Places.find N first cases sN b).exprs).1 ((found_iff b).1 (tt, h))

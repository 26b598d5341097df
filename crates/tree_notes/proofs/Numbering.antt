-- Every annotation of a tree is the numbered tree with the note of each number.
use Rattle.std.specs.Prelude.{◌≡◌, List, [], ◌∷◌, ◌++◌, map, Option, Some, None, refl}
use Rattle.std.proofs.Common.{ap, ap₂, sym, ◌∙◌, subst}
use Rattle.ls_ast.specs.declared.tree.BodyOf.{BodyOf}
use Rattle.ls_ast.specs.declared.tree.DefOf.{DefOf}
use Rattle.ls_ast.specs.declared.tree.Case.{Case}
use Rattle.ls_ast.specs.declared.tree.Expr.{Expr, fold-roll-Expr, ind-Expr, roll-Expr}
use Rattle.ls_ast.specs.declared.tree.Form.{Form, fold-roll-Form, map-Form, roll-Form}
use Rattle.ls_ast.specs.declared.tree.Form.TheOpen.{Form-F}
use Rattle.ls_ast.specs.declared.tree.Equation.{Equation, fold-Equation, fold-roll-Equation, ind-Equation, map-Equation, roll-Equation}
use Rattle.ls_ast.specs.declared.tree.Equation.TheOpen.{Equation-F, Arm-F, Guard-F, Handler-F, State-F, Test-F}
use Rattle.ls_ast.specs.declared.tree.Arm.{Arm, fold-Arm, fold-roll-Arm, roll-Arm}
use Rattle.ls_ast.specs.declared.tree.Guard.{Guard, fold-Guard, fold-roll-Guard, roll-Guard}
use Rattle.ls_ast.specs.declared.tree.Handler.{Handler, fold-Handler, fold-roll-Handler, roll-Handler}
use Rattle.ls_ast.specs.declared.tree.State.{State, fold-State, fold-roll-State, roll-State}
use Rattle.ls_ast.specs.declared.tree.Test.{Test, fold-Test, fold-roll-Test, roll-Test}
use Rattle.tree_notes.specs.Agreement as Ag
use Rattle.tree_notes.specs.Noted as T
use Rattle.tree_notes.specs.Numbered as Nu
use Rattle.tree_notes.specs.Order as Or
use Rattle.tree_notes.specs.Order.{joined, choices_joined, option_joined}
use Rattle.tree_notes.specs.Numbered.{From, one, two, three, all_from, choices_from, option_from}

-- A are the notes of an annotation, N those of the tree, M those with numbers; `pick` gives the annotation's note back
module _ (S A N M : Type 0) (e : A → N) (step : S → N → M) (next : S → N → S) (pick : M → A) where
  abbrev advance : S → List A → S
  advance = Ag.advance S A N M e step next pick

  abbrev Agree : S → List A → Type 0
  Agree = Ag.Agree S A N M e step next pick

  advance_both : (k : S) (xs ys : List A) → advance k (xs ++ ys) ≡ advance (advance k xs) ys
  advance_both k [] ys = refl
  advance_both k (x ∷ xs) ys = advance_both (next k (e x)) xs ys

  pub agree_left : (k : S) (xs ys : List A) → Agree k (xs ++ ys) → Agree k xs
  agree_left k [] ys h = tt
  agree_left k (x ∷ xs) ys h = (h.0, agree_left (next k (e x)) xs ys h.1)

  pub agree_right : (k : S) (xs ys : List A) → Agree k (xs ++ ys) → Agree (advance k xs) ys
  agree_right k [] ys h = h
  agree_right k (x ∷ xs) ys h = agree_right (next k (e x)) xs ys h.1

  -- what is made gives z back, by way of h, and counts the notes c
  abbrev Good : {X Z : Type 0} → From S X → (X → Z) → Z → List A → Type 0
  Good g h z c = (k : S) → Agree k c → (h (g k).0 ≡ z) × ((g k).1 ≡ advance k c)

  good_one : {X Z V : Type 0} (F : Z → V) (g : From S X) (h : X → Z) (z : Z) (c : List A) → Good g h z c → (k : S) → Agree k c → (F (h (g k).0) ≡ F z) × ((g k).1 ≡ advance k c)
  good_one F g h z c q k a = let r = q k a in (ap F r.0, r.1)

  good_two : {X Y Z W V : Type 0} (F : Z → W → V) (g : From S X) (h : X → Z) (z : Z) (c : List A) → Good g h z c → (g' : From S Y) (h' : Y → W) (w : W) (c' : List A) → Good g' h' w c'
      → (k : S) → Agree k (c ++ c') → (F (h (g k).0) (h' (g' (g k).1).0) ≡ F z w) × ((g' (g k).1).1 ≡ advance k (c ++ c'))
  good_two F g h z c q g' h' w c' q' k a =
      let r = q k (agree_left k c c' a) in
      let s = q' (g k).1 (subst (λ j. Agree j c') (sym r.1) (agree_right k c c' a)) in
      (ap₂ F r.0 s.0, s.1 ∙ ap (λ j. advance j c') r.1 ∙ sym (advance_both k c c'))

  good_list : {X Z : Type 0} (W : Type 0) (g : W → From S X) (h : X → Z) (z : W → Z) (c : W → List A) → ((w : W) → Good (g w) h (z w) (c w))
      → (ws : List W) → Good (all_from (map g ws)) (map h) (map z ws) (joined (map c ws))
  good_list W g h z c q [] k a = (refl, refl)
  good_list W g h z c q (w ∷ ws) k a = good_two (λ x xs. x ∷ xs) (g w) h (z w) (c w) (q w) (all_from (map g ws)) (map h) (map z ws) (joined (map c ws)) (good_list W g h z c q ws) k a

  abbrev in_pairs : {X Y : Type 0} → (X → Y) → List (Case × X) → List (Case × Y)
  in_pairs {X} {Y} g = map {A = Case × X} {B = Case × Y} (λ c. (c.0, g c.1))

  good_choices : {X Z : Type 0} (W : Type 0) (g : W → From S X) (h : X → Z) (z : W → Z) (c : W → List A) → ((w : W) → Good (g w) h (z w) (c w))
      → (ws : List (Case × W)) → Good (choices_from (in_pairs g ws)) (in_pairs h) (in_pairs z ws) (choices_joined (in_pairs c ws))
  good_choices W g h z c q [] k a = (refl, refl)
  good_choices {X} {Z} W g h z c q (w ∷ ws) k a = good_two (λ (x : Z) xs. (w.0, x) ∷ xs) (g w.1) h (z w.1) (c w.1) (q w.1) (choices_from (in_pairs g ws)) (in_pairs h) (in_pairs z ws) (choices_joined (in_pairs c ws)) (good_choices W g h z c q ws) k a

  -- ---- expressions

  abbrev FormGood : Form A → Type 0
  FormGood x = Good (Nu.number_form step next (T.in_form A N e x)) (T.in_form M A pick) x (Or.notes_form A x)

  abbrev ExprGood : Expr A → Type 0
  ExprGood x = Good (Nu.number step next (T.in_expr A N e x)) (T.in_expr M A pick) x (Or.notes A x)

  abbrev WForm : Type 0
  WForm = (x : Form A) × FormGood x

  abbrev WExpr : Type 0
  WExpr = (x : Expr A) × ExprGood x

  abbrev bottom : Form-F A WForm WExpr → Form-F A (Form A) (Expr A)
  bottom y = map-Form A WForm WExpr (Form A) (Expr A) (λ p. p.0) (λ p. p.0) y

  abbrev up : Form-F A (Form A) (Expr A) → Form-F N (Form N) (Expr N)
  up x = T.retag (map-Form A (Form A) (Expr A) (Form N) (Expr N) (T.in_form A N e) (T.in_expr A N e) x)

  abbrev count : Form-F N (Form N) (Expr N) → From S (Form-F M (Form M) (Expr M))
  count x = Nu.form_layer step next (map-Form N (Form N) (Expr N) (From S (Form M)) (From S (Expr M)) (Nu.number_form step next) (Nu.number step next) x)

  abbrev back : Form-F M (Form M) (Expr M) → Form-F A (Form A) (Expr A)
  back x = T.retag (map-Form M (Form M) (Expr M) (Form A) (Expr A) (T.in_form M A pick) (T.in_expr M A pick) x)

  abbrev told : Form-F A (Form A) (Expr A) → List A
  told x = Or.form_notes A (map-Form A (Form A) (Expr A) (List A) (List A) (Or.notes_form A) (Or.notes A) x)

  abbrev g_of : WExpr → From S (Expr M)
  g_of p = Nu.number step next (T.in_expr A N e p.0)

  abbrev first_of : WExpr → Expr A
  first_of p = p.0

  abbrev notes_of : WExpr → List A
  notes_of p = Or.notes A p.0

  -- the lists in a layer, mapped three times, are mapped once
  fused : (ps : List WExpr) → map (Nu.number step next) (map (T.in_expr A N e) (map first_of ps)) ≡ map g_of ps
  fused [] = refl
  fused (p ∷ ps) = ap (λ z. g_of p ∷ z) (fused ps)

  fused_notes : (ps : List WExpr) → map (Or.notes A) (map first_of ps) ≡ map notes_of ps
  fused_notes [] = refl
  fused_notes (p ∷ ps) = ap (λ z. notes_of p ∷ z) (fused_notes ps)

  fused_pairs : (ps : List (Case × WExpr)) → in_pairs (Nu.number step next) (in_pairs (T.in_expr A N e) (in_pairs first_of ps)) ≡ in_pairs g_of ps
  fused_pairs [] = refl
  fused_pairs (p ∷ ps) = ap (λ z. (p.0, g_of p.1) ∷ z) (fused_pairs ps)

  fused_note_pairs : (ps : List (Case × WExpr)) → in_pairs (Or.notes A) (in_pairs first_of ps) ≡ in_pairs notes_of ps
  fused_note_pairs [] = refl
  fused_note_pairs (p ∷ ps) = ap (λ z. (p.0, notes_of p.1) ∷ z) (fused_note_pairs ps)

  args_good : (ps : List WExpr) → Good (all_from (map (Nu.number step next) (map (T.in_expr A N e) (map first_of ps)))) (map (T.in_expr M A pick)) (map first_of ps) (joined (map (Or.notes A) (map first_of ps)))
  args_good ps = subst (λ gs. Good (all_from gs) (map (T.in_expr M A pick)) (map first_of ps) (joined (map (Or.notes A) (map first_of ps)))) (sym (fused ps))
      (subst (λ cs. Good (all_from (map g_of ps)) (map (T.in_expr M A pick)) (map first_of ps) (joined cs)) (sym (fused_notes ps))
      (good_list WExpr g_of (T.in_expr M A pick) first_of notes_of (λ p. p.1) ps))

  branches_good : (ps : List (Case × WExpr)) → Good (choices_from (in_pairs (Nu.number step next) (in_pairs (T.in_expr A N e) (in_pairs first_of ps)))) (in_pairs (T.in_expr M A pick)) (in_pairs first_of ps) (choices_joined (in_pairs (Or.notes A) (in_pairs first_of ps)))
  branches_good ps = subst (λ gs. Good (choices_from gs) (in_pairs (T.in_expr M A pick)) (in_pairs first_of ps) (choices_joined (in_pairs (Or.notes A) (in_pairs first_of ps)))) (sym (fused_pairs ps))
      (subst (λ cs. Good (choices_from (in_pairs g_of ps)) (in_pairs (T.in_expr M A pick)) (in_pairs first_of ps) (choices_joined cs)) (sym (fused_note_pairs ps))
      (good_choices WExpr g_of (T.in_expr M A pick) first_of notes_of (λ p. p.1) ps))

  layer_good : (y : Form-F A WForm WExpr) → Good (count (up (bottom y))) back (bottom y) (told (bottom y))
  layer_good (Form-F.Leaf l) k a = (refl, refl)
  layer_good (Form-F.Case x) k a = (refl, refl)
  layer_good (Form-F.Var x) k a = (refl, refl)
  layer_good (Form-F.Last x) k a = (refl, refl)
  layer_good (Form-F.Asked x) k a = (refl, refl)
  layer_good (Form-F.Op o ps) k a = good_one (Form-F.Op o) (all_from (map (Nu.number step next) (map (T.in_expr A N e) (map first_of ps)))) (map (T.in_expr M A pick)) (map first_of ps) (joined (map (Or.notes A) (map first_of ps))) (args_good ps) k a
  layer_good (Form-F.Tuple ps) k a = good_one Form-F.Tuple (all_from (map (Nu.number step next) (map (T.in_expr A N e) (map first_of ps)))) (map (T.in_expr M A pick)) (map first_of ps) (joined (map (Or.notes A) (map first_of ps))) (args_good ps) k a
  layer_good (Form-F.Pre p) k a = good_one Form-F.Pre (g_of p) (T.in_expr M A pick) p.0 (notes_of p) p.1 k a
  layer_good (Form-F.Fby p q) k a = good_two Form-F.Fby (g_of p) (T.in_expr M A pick) p.0 (notes_of p) p.1 (g_of q) (T.in_expr M A pick) q.0 (notes_of q) q.1 k a
  layer_good (Form-F.Init p q) k a = good_two Form-F.Init (g_of p) (T.in_expr M A pick) p.0 (notes_of p) p.1 (g_of q) (T.in_expr M A pick) q.0 (notes_of q) q.1 k a
  layer_good (Form-F.When p x c) k a = good_one (λ z. Form-F.When z x c) (g_of p) (T.in_expr M A pick) p.0 (notes_of p) p.1 k a
  layer_good (Form-F.Merge x ps) k a = good_one (Form-F.Merge x) (choices_from (in_pairs (Nu.number step next) (in_pairs (T.in_expr A N e) (in_pairs first_of ps)))) (in_pairs (T.in_expr M A pick)) (in_pairs first_of ps) (choices_joined (in_pairs (Or.notes A) (in_pairs first_of ps))) (branches_good ps) k a
  layer_good (Form-F.Call run x ps None) k a = good_two (λ zs (o : Option (Expr A)). Form-F.Call run x zs o) (all_from (map (Nu.number step next) (map (T.in_expr A N e) (map first_of ps)))) (map (T.in_expr M A pick)) (map first_of ps) (joined (map (Or.notes A) (map first_of ps))) (args_good ps)
      (λ j. (tt, j)) (λ (z : Unit {0}). None) None [] (λ j b. (refl, refl)) k a
  layer_good (Form-F.Call run x ps (Some p)) k a = good_two (λ zs (z : Expr A). Form-F.Call run x zs (Some z)) (all_from (map (Nu.number step next) (map (T.in_expr A N e) (map first_of ps)))) (map (T.in_expr M A pick)) (map first_of ps) (joined (map (Or.notes A) (map first_of ps))) (args_good ps)
      (g_of p) (T.in_expr M A pick) p.0 (notes_of p) p.1 k a

  form_good : (y : Form-F A WForm WExpr) → FormGood (roll-Form A (bottom y))
  form_good y k a =
      let x = bottom y in
      let r = layer_good y k (subst (Agree k) (fold-roll-Form A (List A) (List A) (Or.form_notes A) (Or.expr_notes A) x) a) in
      let made : Nu.number_form step next (T.in_form A N e (roll-Form A x)) ≡ (λ j. one (roll-Form M) (count (up x)) j) =
      ap (Nu.number_form step next) (fold-roll-Form A (Form N) (Expr N) (T.form_notes A N e) (T.expr_notes A N e) x)
      ∙ fold-roll-Form N (From S (Form M)) (From S (Expr M)) (Nu.form_step step next) (Nu.expr_step step next) (up x) in (
        ap (λ (g : From S (Form M)). T.in_form M A pick (g k).0) made
            ∙ fold-roll-Form M (Form A) (Expr A) (T.form_notes M A pick) (T.expr_notes M A pick) (count (up x) k).0
            ∙ ap (roll-Form A) r.0,
        ap (λ (g : From S (Form M)). (g k).1) made ∙ r.1 ∙ ap (advance k) (sym (fold-roll-Form A (List A) (List A) (Or.form_notes A) (Or.expr_notes A) x)),
      )

  expr_good : (n : A) (p : WForm) → ExprGood (roll-Expr A (record { note = n; form = p.0 }))
  expr_good n p k a =
      let told' : Or.notes A (roll-Expr A (record { note = n; form = p.0 })) ≡ n ∷ Or.notes_form A p.0 =
      fold-roll-Expr A (List A) (List A) (Or.form_notes A) (Or.expr_notes A) (record { note = n; form = p.0 }) in
      let b : Agree k (n ∷ Or.notes_form A p.0) = subst (Agree k) told' a in
      let r = p.1 (next k (e n)) b.1 in
      let g : From S (Form M) = Nu.number_form step next (T.in_form A N e p.0) in
      let made : Nu.number step next (T.in_expr A N e (roll-Expr A (record { note = n; form = p.0 }))) ≡ (λ j. (record { note = step j (e n); form = (g (next j (e n))).0 }, (g (next j (e n))).1)) =
      ap (Nu.number step next) (fold-roll-Expr A (Form N) (Expr N) (T.form_notes A N e) (T.expr_notes A N e) (record { note = n; form = p.0 }))
      ∙ fold-roll-Expr N (From S (Form M)) (From S (Expr M)) (Nu.form_step step next) (Nu.expr_step step next) (record { note = e n; form = T.in_form A N e p.0 }) in (
        ap (λ (h : From S (Expr M)). T.in_expr M A pick (h k).0) made
            ∙ fold-roll-Expr M (Form A) (Expr A) (T.form_notes M A pick) (T.expr_notes M A pick) (record { note = step k (e n); form = (g (next k (e n))).0 })
            ∙ (λ i. record { note = b.0 i; form = r.0 i }),
        ap (λ (h : From S (Expr M)). (h k).1) made ∙ r.1 ∙ ap (advance k) (sym told'),
      )

  pub exprs_good : (x : Expr A) → ExprGood x
  exprs_good = ind-Expr A FormGood ExprGood
      (λ x y from. subst (λ z. FormGood (roll-Form A z)) from (form_good y))
      (λ x y from. subst (λ z. ExprGood (roll-Expr A z)) from (expr_good y.note y.form))

  -- ---- equations

  abbrev to_equation : Equation A → Equation N
  to_equation = fold-Equation A (Equation N) (Arm N) (Guard N) (Handler N) (State N) (Test N) (T.equation_step A N e) (T.arm_step A N e) (T.guard_step A N e) (T.handler_step A N e) (T.state_step A N e) (T.test_step A N e)

  abbrev back_equation : Equation M → Equation A
  back_equation = fold-Equation M (Equation A) (Arm A) (Guard A) (Handler A) (State A) (Test A) (T.equation_step M A pick) (T.arm_step M A pick) (T.guard_step M A pick) (T.handler_step M A pick) (T.state_step M A pick) (T.test_step M A pick)

  abbrev count_equation : Equation N → From S (Equation M)
  count_equation = fold-Equation N (From S (Equation M)) (From S (Arm M)) (From S (Guard M)) (From S (Handler M)) (From S (State M)) (From S (Test M)) (Nu.equation_step step next) (Nu.arm_step step next) (Nu.guard_step step next) (Nu.handler_step step next) (Nu.state_step step next) (Nu.test_step step next)

  abbrev told_equation : Equation A → List A
  told_equation = fold-Equation A (List A) (List A) (List A) (List A) (List A) (List A) (Or.equation_notes A) (Or.arm_notes A) (Or.guard_notes A) (Or.handler_notes A) (Or.state_notes A) (Or.test_notes A)

  abbrev EquationGood : Equation A → Type 0
  EquationGood x = Good (count_equation (to_equation x)) back_equation x (told_equation x)

  abbrev WEquation : Type 0
  WEquation = (x : Equation A) × EquationGood x

  -- a list of them
  all_equation : (ps : List WEquation) → Good (all_from (map count_equation (map to_equation (map (λ p. p.0) ps)))) (map back_equation) (map (λ p. p.0) ps) (joined (map told_equation (map (λ p. p.0) ps)))
  all_equation [] k a = (refl, refl)
  all_equation (p ∷ ps) k a = good_two (λ x xs. x ∷ xs) (count_equation (to_equation p.0)) back_equation p.0 (told_equation p.0) p.1
      (all_from (map count_equation (map to_equation (map (λ q. q.0) ps)))) (map back_equation) (map (λ q. q.0) ps) (joined (map told_equation (map (λ q. q.0) ps))) (all_equation ps) k a

  abbrev to_arm : Arm A → Arm N
  to_arm = fold-Arm A (Equation N) (Arm N) (Guard N) (Handler N) (State N) (Test N) (T.equation_step A N e) (T.arm_step A N e) (T.guard_step A N e) (T.handler_step A N e) (T.state_step A N e) (T.test_step A N e)

  abbrev back_arm : Arm M → Arm A
  back_arm = fold-Arm M (Equation A) (Arm A) (Guard A) (Handler A) (State A) (Test A) (T.equation_step M A pick) (T.arm_step M A pick) (T.guard_step M A pick) (T.handler_step M A pick) (T.state_step M A pick) (T.test_step M A pick)

  abbrev count_arm : Arm N → From S (Arm M)
  count_arm = fold-Arm N (From S (Equation M)) (From S (Arm M)) (From S (Guard M)) (From S (Handler M)) (From S (State M)) (From S (Test M)) (Nu.equation_step step next) (Nu.arm_step step next) (Nu.guard_step step next) (Nu.handler_step step next) (Nu.state_step step next) (Nu.test_step step next)

  abbrev told_arm : Arm A → List A
  told_arm = fold-Arm A (List A) (List A) (List A) (List A) (List A) (List A) (Or.equation_notes A) (Or.arm_notes A) (Or.guard_notes A) (Or.handler_notes A) (Or.state_notes A) (Or.test_notes A)

  abbrev ArmGood : Arm A → Type 0
  ArmGood x = Good (count_arm (to_arm x)) back_arm x (told_arm x)

  abbrev WArm : Type 0
  WArm = (x : Arm A) × ArmGood x

  -- a list of them
  all_arm : (ps : List WArm) → Good (all_from (map count_arm (map to_arm (map (λ p. p.0) ps)))) (map back_arm) (map (λ p. p.0) ps) (joined (map told_arm (map (λ p. p.0) ps)))
  all_arm [] k a = (refl, refl)
  all_arm (p ∷ ps) k a = good_two (λ x xs. x ∷ xs) (count_arm (to_arm p.0)) back_arm p.0 (told_arm p.0) p.1
      (all_from (map count_arm (map to_arm (map (λ q. q.0) ps)))) (map back_arm) (map (λ q. q.0) ps) (joined (map told_arm (map (λ q. q.0) ps))) (all_arm ps) k a

  abbrev to_guard : Guard A → Guard N
  to_guard = fold-Guard A (Equation N) (Arm N) (Guard N) (Handler N) (State N) (Test N) (T.equation_step A N e) (T.arm_step A N e) (T.guard_step A N e) (T.handler_step A N e) (T.state_step A N e) (T.test_step A N e)

  abbrev back_guard : Guard M → Guard A
  back_guard = fold-Guard M (Equation A) (Arm A) (Guard A) (Handler A) (State A) (Test A) (T.equation_step M A pick) (T.arm_step M A pick) (T.guard_step M A pick) (T.handler_step M A pick) (T.state_step M A pick) (T.test_step M A pick)

  abbrev count_guard : Guard N → From S (Guard M)
  count_guard = fold-Guard N (From S (Equation M)) (From S (Arm M)) (From S (Guard M)) (From S (Handler M)) (From S (State M)) (From S (Test M)) (Nu.equation_step step next) (Nu.arm_step step next) (Nu.guard_step step next) (Nu.handler_step step next) (Nu.state_step step next) (Nu.test_step step next)

  abbrev told_guard : Guard A → List A
  told_guard = fold-Guard A (List A) (List A) (List A) (List A) (List A) (List A) (Or.equation_notes A) (Or.arm_notes A) (Or.guard_notes A) (Or.handler_notes A) (Or.state_notes A) (Or.test_notes A)

  abbrev GuardGood : Guard A → Type 0
  GuardGood x = Good (count_guard (to_guard x)) back_guard x (told_guard x)

  abbrev WGuard : Type 0
  WGuard = (x : Guard A) × GuardGood x

  -- a list of them
  all_guard : (ps : List WGuard) → Good (all_from (map count_guard (map to_guard (map (λ p. p.0) ps)))) (map back_guard) (map (λ p. p.0) ps) (joined (map told_guard (map (λ p. p.0) ps)))
  all_guard [] k a = (refl, refl)
  all_guard (p ∷ ps) k a = good_two (λ x xs. x ∷ xs) (count_guard (to_guard p.0)) back_guard p.0 (told_guard p.0) p.1
      (all_from (map count_guard (map to_guard (map (λ q. q.0) ps)))) (map back_guard) (map (λ q. q.0) ps) (joined (map told_guard (map (λ q. q.0) ps))) (all_guard ps) k a

  abbrev to_handler : Handler A → Handler N
  to_handler = fold-Handler A (Equation N) (Arm N) (Guard N) (Handler N) (State N) (Test N) (T.equation_step A N e) (T.arm_step A N e) (T.guard_step A N e) (T.handler_step A N e) (T.state_step A N e) (T.test_step A N e)

  abbrev back_handler : Handler M → Handler A
  back_handler = fold-Handler M (Equation A) (Arm A) (Guard A) (Handler A) (State A) (Test A) (T.equation_step M A pick) (T.arm_step M A pick) (T.guard_step M A pick) (T.handler_step M A pick) (T.state_step M A pick) (T.test_step M A pick)

  abbrev count_handler : Handler N → From S (Handler M)
  count_handler = fold-Handler N (From S (Equation M)) (From S (Arm M)) (From S (Guard M)) (From S (Handler M)) (From S (State M)) (From S (Test M)) (Nu.equation_step step next) (Nu.arm_step step next) (Nu.guard_step step next) (Nu.handler_step step next) (Nu.state_step step next) (Nu.test_step step next)

  abbrev told_handler : Handler A → List A
  told_handler = fold-Handler A (List A) (List A) (List A) (List A) (List A) (List A) (Or.equation_notes A) (Or.arm_notes A) (Or.guard_notes A) (Or.handler_notes A) (Or.state_notes A) (Or.test_notes A)

  abbrev HandlerGood : Handler A → Type 0
  HandlerGood x = Good (count_handler (to_handler x)) back_handler x (told_handler x)

  abbrev WHandler : Type 0
  WHandler = (x : Handler A) × HandlerGood x

  -- a list of them
  all_handler : (ps : List WHandler) → Good (all_from (map count_handler (map to_handler (map (λ p. p.0) ps)))) (map back_handler) (map (λ p. p.0) ps) (joined (map told_handler (map (λ p. p.0) ps)))
  all_handler [] k a = (refl, refl)
  all_handler (p ∷ ps) k a = good_two (λ x xs. x ∷ xs) (count_handler (to_handler p.0)) back_handler p.0 (told_handler p.0) p.1
      (all_from (map count_handler (map to_handler (map (λ q. q.0) ps)))) (map back_handler) (map (λ q. q.0) ps) (joined (map told_handler (map (λ q. q.0) ps))) (all_handler ps) k a

  abbrev to_state : State A → State N
  to_state = fold-State A (Equation N) (Arm N) (Guard N) (Handler N) (State N) (Test N) (T.equation_step A N e) (T.arm_step A N e) (T.guard_step A N e) (T.handler_step A N e) (T.state_step A N e) (T.test_step A N e)

  abbrev back_state : State M → State A
  back_state = fold-State M (Equation A) (Arm A) (Guard A) (Handler A) (State A) (Test A) (T.equation_step M A pick) (T.arm_step M A pick) (T.guard_step M A pick) (T.handler_step M A pick) (T.state_step M A pick) (T.test_step M A pick)

  abbrev count_state : State N → From S (State M)
  count_state = fold-State N (From S (Equation M)) (From S (Arm M)) (From S (Guard M)) (From S (Handler M)) (From S (State M)) (From S (Test M)) (Nu.equation_step step next) (Nu.arm_step step next) (Nu.guard_step step next) (Nu.handler_step step next) (Nu.state_step step next) (Nu.test_step step next)

  abbrev told_state : State A → List A
  told_state = fold-State A (List A) (List A) (List A) (List A) (List A) (List A) (Or.equation_notes A) (Or.arm_notes A) (Or.guard_notes A) (Or.handler_notes A) (Or.state_notes A) (Or.test_notes A)

  abbrev StateGood : State A → Type 0
  StateGood x = Good (count_state (to_state x)) back_state x (told_state x)

  abbrev WState : Type 0
  WState = (x : State A) × StateGood x

  -- a list of them
  all_state : (ps : List WState) → Good (all_from (map count_state (map to_state (map (λ p. p.0) ps)))) (map back_state) (map (λ p. p.0) ps) (joined (map told_state (map (λ p. p.0) ps)))
  all_state [] k a = (refl, refl)
  all_state (p ∷ ps) k a = good_two (λ x xs. x ∷ xs) (count_state (to_state p.0)) back_state p.0 (told_state p.0) p.1
      (all_from (map count_state (map to_state (map (λ q. q.0) ps)))) (map back_state) (map (λ q. q.0) ps) (joined (map told_state (map (λ q. q.0) ps))) (all_state ps) k a

  abbrev to_test : Test A → Test N
  to_test = fold-Test A (Equation N) (Arm N) (Guard N) (Handler N) (State N) (Test N) (T.equation_step A N e) (T.arm_step A N e) (T.guard_step A N e) (T.handler_step A N e) (T.state_step A N e) (T.test_step A N e)

  abbrev back_test : Test M → Test A
  back_test = fold-Test M (Equation A) (Arm A) (Guard A) (Handler A) (State A) (Test A) (T.equation_step M A pick) (T.arm_step M A pick) (T.guard_step M A pick) (T.handler_step M A pick) (T.state_step M A pick) (T.test_step M A pick)

  abbrev count_test : Test N → From S (Test M)
  count_test = fold-Test N (From S (Equation M)) (From S (Arm M)) (From S (Guard M)) (From S (Handler M)) (From S (State M)) (From S (Test M)) (Nu.equation_step step next) (Nu.arm_step step next) (Nu.guard_step step next) (Nu.handler_step step next) (Nu.state_step step next) (Nu.test_step step next)

  abbrev told_test : Test A → List A
  told_test = fold-Test A (List A) (List A) (List A) (List A) (List A) (List A) (Or.equation_notes A) (Or.arm_notes A) (Or.guard_notes A) (Or.handler_notes A) (Or.state_notes A) (Or.test_notes A)

  abbrev TestGood : Test A → Type 0
  TestGood x = Good (count_test (to_test x)) back_test x (told_test x)

  abbrev WTest : Type 0
  WTest = (x : Test A) × TestGood x

  -- a list of them
  all_test : (ps : List WTest) → Good (all_from (map count_test (map to_test (map (λ p. p.0) ps)))) (map back_test) (map (λ p. p.0) ps) (joined (map told_test (map (λ p. p.0) ps)))
  all_test [] k a = (refl, refl)
  all_test (p ∷ ps) k a = good_two (λ x xs. x ∷ xs) (count_test (to_test p.0)) back_test p.0 (told_test p.0) p.1
      (all_from (map count_test (map to_test (map (λ q. q.0) ps)))) (map back_test) (map (λ q. q.0) ps) (joined (map told_test (map (λ q. q.0) ps))) (all_test ps) k a

  abbrev ebottom : Equation-F A WEquation WArm WGuard WHandler WState WTest → Equation-F A (Equation A) (Arm A) (Guard A) (Handler A) (State A) (Test A)
  ebottom y = map-Equation A WEquation WArm WGuard WHandler WState WTest (Equation A) (Arm A) (Guard A) (Handler A) (State A) (Test A) (λ p. p.0) (λ p. p.0) (λ p. p.0) (λ p. p.0) (λ p. p.0) (λ p. p.0) y

  abbrev eup : Equation-F A (Equation A) (Arm A) (Guard A) (Handler A) (State A) (Test A) → Equation-F N (Equation N) (Arm N) (Guard N) (Handler N) (State N) (Test N)
  eup x = T.equation_notes A N e (map-Equation A (Equation A) (Arm A) (Guard A) (Handler A) (State A) (Test A) (Equation N) (Arm N) (Guard N) (Handler N) (State N) (Test N) to_equation to_arm to_guard to_handler to_state to_test x)

  abbrev ecount : Equation-F N (Equation N) (Arm N) (Guard N) (Handler N) (State N) (Test N) → From S (Equation-F M (Equation M) (Arm M) (Guard M) (Handler M) (State M) (Test M))
  ecount x = Nu.equation_layer step next (map-Equation N (Equation N) (Arm N) (Guard N) (Handler N) (State N) (Test N) (From S (Equation M)) (From S (Arm M)) (From S (Guard M)) (From S (Handler M)) (From S (State M)) (From S (Test M)) count_equation count_arm count_guard count_handler count_state count_test x)

  abbrev eback : Equation-F M (Equation M) (Arm M) (Guard M) (Handler M) (State M) (Test M) → Equation-F A (Equation A) (Arm A) (Guard A) (Handler A) (State A) (Test A)
  eback x = T.equation_notes M A pick (map-Equation M (Equation M) (Arm M) (Guard M) (Handler M) (State M) (Test M) (Equation A) (Arm A) (Guard A) (Handler A) (State A) (Test A) back_equation back_arm back_guard back_handler back_state back_test x)

  abbrev etold : Equation-F A (Equation A) (Arm A) (Guard A) (Handler A) (State A) (Test A) → List A
  etold x = Or.equation_notes A (map-Equation A (Equation A) (Arm A) (Guard A) (Handler A) (State A) (Test A) (List A) (List A) (List A) (List A) (List A) (List A) told_equation told_arm told_guard told_handler told_state told_test x)

  abbrev gx : Expr A → From S (Expr M)
  gx x = Nu.number step next (T.in_expr A N e x)

  abbrev bx : Expr M → Expr A
  bx = T.in_expr M A pick

  elayer_good : (y : Equation-F A WEquation WArm WGuard WHandler WState WTest) → Good (ecount (eup (ebottom y))) eback (ebottom y) (etold (ebottom y))
  elayer_good (Equation-F.Plain q x) k a = good_one (Equation-F.Plain q) (gx x) bx x (Or.notes A x) (exprs_good x) k a
  elayer_good (Equation-F.Clock q x) k a = good_one (Equation-F.Clock q) (gx x) bx x (Or.notes A x) (exprs_good x) k a
  elayer_good (Equation-F.Initial q x) k a = good_one (Equation-F.Initial q) (gx x) bx x (Or.notes A x) (exprs_good x) k a
  elayer_good (Equation-F.Emit q x) k a = good_one (Equation-F.Emit q) (gx x) bx x (Or.notes A x) (exprs_good x) k a
  elayer_good (Equation-F.Reset ps x) k a = good_two (λ (z : Expr A) zs. Equation-F.Reset zs z) (gx x) bx x (Or.notes A x) (exprs_good x) (all_from (map count_equation (map to_equation (map (λ q. q.0) ps)))) (map back_equation) (map (λ q. q.0) ps) (joined (map told_equation (map (λ q. q.0) ps))) (all_equation ps) k a
  elayer_good (Equation-F.Match x ps) k a = good_two (λ (z : Expr A) zs. Equation-F.Match z zs) (gx x) bx x (Or.notes A x) (exprs_good x) (all_from (map count_arm (map to_arm (map (λ q. q.0) ps)))) (map back_arm) (map (λ q. q.0) ps) (joined (map told_arm (map (λ q. q.0) ps))) (all_arm ps) k a
  elayer_good (Equation-F.Present ps None) k a = good_two (λ zs (o : Option (Handler A)). Equation-F.Present zs o) (all_from (map count_test (map to_test (map (λ q. q.0) ps)))) (map back_test) (map (λ q. q.0) ps) (joined (map told_test (map (λ q. q.0) ps))) (all_test ps) (λ j. (tt, j)) (λ (z : Unit {0}). None) None [] (λ j b. (refl, refl)) k a
  elayer_good (Equation-F.Present ps (Some h)) k a = good_two (λ zs (z : Handler A). Equation-F.Present zs (Some z)) (all_from (map count_test (map to_test (map (λ q. q.0) ps)))) (map back_test) (map (λ q. q.0) ps) (joined (map told_test (map (λ q. q.0) ps))) (all_test ps) (count_handler (to_handler h.0)) back_handler h.0 (told_handler h.0) h.1 k a
  elayer_good (Equation-F.Automaton ps) k a = good_one Equation-F.Automaton (all_from (map count_state (map to_state (map (λ q. q.0) ps)))) (map back_state) (map (λ q. q.0) ps) (joined (map told_state (map (λ q. q.0) ps))) (all_state ps) k a

  equation_good : (y : Equation-F A WEquation WArm WGuard WHandler WState WTest) → EquationGood (roll-Equation A (ebottom y))
  equation_good y k a =
      let told' : told_equation (roll-Equation A (ebottom y)) ≡ etold (ebottom y) =
      fold-roll-Equation A (List A) (List A) (List A) (List A) (List A) (List A) (Or.equation_notes A) (Or.arm_notes A) (Or.guard_notes A) (Or.handler_notes A) (Or.state_notes A) (Or.test_notes A) (ebottom y) in
      let r = elayer_good y k (subst (Agree k) told' a) in
      let made : count_equation (to_equation (roll-Equation A (ebottom y))) ≡ (λ j. one (roll-Equation M) (ecount (eup (ebottom y))) j) =
      ap count_equation (fold-roll-Equation A (Equation N) (Arm N) (Guard N) (Handler N) (State N) (Test N) (T.equation_step A N e) (T.arm_step A N e) (T.guard_step A N e) (T.handler_step A N e) (T.state_step A N e) (T.test_step A N e) (ebottom y))
      ∙ fold-roll-Equation N (From S (Equation M)) (From S (Arm M)) (From S (Guard M)) (From S (Handler M)) (From S (State M)) (From S (Test M)) (Nu.equation_step step next) (Nu.arm_step step next) (Nu.guard_step step next) (Nu.handler_step step next) (Nu.state_step step next) (Nu.test_step step next) (eup (ebottom y)) in (
        ap (λ (g : From S (Equation M)). back_equation (g k).0) made
            ∙ fold-roll-Equation M (Equation A) (Arm A) (Guard A) (Handler A) (State A) (Test A) (T.equation_step M A pick) (T.arm_step M A pick) (T.guard_step M A pick) (T.handler_step M A pick) (T.state_step M A pick) (T.test_step M A pick) ((ecount (eup (ebottom y)) k).0) ∙ ap (roll-Equation A) r.0,
        ap (λ (g : From S (Equation M)). (g k).1) made ∙ r.1 ∙ ap (advance k) (sym told'),
      )

  abbrev eqs_of : List WEquation → List (Equation A)
  eqs_of = map {A = WEquation} {B = Equation A} (λ q. q.0)

  abbrev guards_of : List WGuard → List (Guard A)
  guards_of = map {A = WGuard} {B = Guard A} (λ q. q.0)

  abbrev eqs_from : List WEquation → From S (List (Equation M))
  eqs_from ps k = all_from (map count_equation (map to_equation (eqs_of ps))) k

  abbrev guards_from : List WGuard → From S (List (Guard M))
  guards_from ps k = all_from (map count_guard (map to_guard (guards_of ps))) k

  arm_good : (y : Arm-F A WEquation WArm WGuard WHandler WState WTest) → ArmGood (roll-Arm A (record { case = y.case; handler = y.handler.0 }))
  arm_good y k a =
      let told' : told_arm (roll-Arm A (record { case = y.case; handler = y.handler.0 })) ≡ told_handler y.handler.0 =
      fold-roll-Arm A (List A) (List A) (List A) (List A) (List A) (List A) (Or.equation_notes A) (Or.arm_notes A) (Or.guard_notes A) (Or.handler_notes A) (Or.state_notes A) (Or.test_notes A) (record { case = y.case; handler = y.handler.0 }) in
      let r = y.handler.1 k (subst (Agree k) told' a) in
      let made : count_arm (to_arm (roll-Arm A (record { case = y.case; handler = y.handler.0 }))) ≡ (λ j. (record { case = y.case; handler = (count_handler (to_handler y.handler.0) j).0 }, (count_handler (to_handler y.handler.0) j).1)) =
      ap count_arm (fold-roll-Arm A (Equation N) (Arm N) (Guard N) (Handler N) (State N) (Test N) (T.equation_step A N e) (T.arm_step A N e) (T.guard_step A N e) (T.handler_step A N e) (T.state_step A N e) (T.test_step A N e) (record { case = y.case; handler = y.handler.0 }))
      ∙ fold-roll-Arm N (From S (Equation M)) (From S (Arm M)) (From S (Guard M)) (From S (Handler M)) (From S (State M)) (From S (Test M)) (Nu.equation_step step next) (Nu.arm_step step next) (Nu.guard_step step next) (Nu.handler_step step next) (Nu.state_step step next) (Nu.test_step step next) (record { case = y.case; handler = to_handler y.handler.0 }) in (
        ap (λ (g : From S (Arm M)). back_arm (g k).0) made
            ∙ fold-roll-Arm M (Equation A) (Arm A) (Guard A) (Handler A) (State A) (Test A) (T.equation_step M A pick) (T.arm_step M A pick) (T.guard_step M A pick) (T.handler_step M A pick) (T.state_step M A pick) (T.test_step M A pick) (record { case = y.case; handler = (count_handler (to_handler y.handler.0) k).0 }) ∙ (λ i. record { case = y.case; handler = r.0 i }),
        ap (λ (g : From S (Arm M)). (g k).1) made ∙ r.1 ∙ ap (advance k) (sym told'),
      )

  test_good : (y : Test-F A WEquation WArm WGuard WHandler WState WTest) → TestGood (roll-Test A (record { signal = y.signal; pat = y.pat; handler = y.handler.0 }))
  test_good y k a =
      let told' : told_test (roll-Test A (record { signal = y.signal; pat = y.pat; handler = y.handler.0 })) ≡ told_handler y.handler.0 =
      fold-roll-Test A (List A) (List A) (List A) (List A) (List A) (List A) (Or.equation_notes A) (Or.arm_notes A) (Or.guard_notes A) (Or.handler_notes A) (Or.state_notes A) (Or.test_notes A) (record { signal = y.signal; pat = y.pat; handler = y.handler.0 }) in
      let r = y.handler.1 k (subst (Agree k) told' a) in
      let made : count_test (to_test (roll-Test A (record { signal = y.signal; pat = y.pat; handler = y.handler.0 }))) ≡ (λ j. (record { signal = y.signal; pat = y.pat; handler = (count_handler (to_handler y.handler.0) j).0 }, (count_handler (to_handler y.handler.0) j).1)) =
      ap count_test (fold-roll-Test A (Equation N) (Arm N) (Guard N) (Handler N) (State N) (Test N) (T.equation_step A N e) (T.arm_step A N e) (T.guard_step A N e) (T.handler_step A N e) (T.state_step A N e) (T.test_step A N e) (record { signal = y.signal; pat = y.pat; handler = y.handler.0 }))
      ∙ fold-roll-Test N (From S (Equation M)) (From S (Arm M)) (From S (Guard M)) (From S (Handler M)) (From S (State M)) (From S (Test M)) (Nu.equation_step step next) (Nu.arm_step step next) (Nu.guard_step step next) (Nu.handler_step step next) (Nu.state_step step next) (Nu.test_step step next) (record { signal = y.signal; pat = y.pat; handler = to_handler y.handler.0 }) in (
        ap (λ (g : From S (Test M)). back_test (g k).0) made
            ∙ fold-roll-Test M (Equation A) (Arm A) (Guard A) (Handler A) (State A) (Test A) (T.equation_step M A pick) (T.arm_step M A pick) (T.guard_step M A pick) (T.handler_step M A pick) (T.state_step M A pick) (T.test_step M A pick) (record { signal = y.signal; pat = y.pat; handler = (count_handler (to_handler y.handler.0) k).0 }) ∙ (λ i. record { signal = y.signal; pat = y.pat; handler = r.0 i }),
        ap (λ (g : From S (Test M)). (g k).1) made ∙ r.1 ∙ ap (advance k) (sym told'),
      )

  handler_good : (y : Handler-F A WEquation WArm WGuard WHandler WState WTest) → HandlerGood (roll-Handler A (record { locals = eqs_of y.locals; eqs = eqs_of y.eqs }))
  handler_good y k a =
      let told' : told_handler (roll-Handler A (record { locals = eqs_of y.locals; eqs = eqs_of y.eqs })) ≡ joined (map told_equation (eqs_of y.locals)) ++ joined (map told_equation (eqs_of y.eqs)) =
      fold-roll-Handler A (List A) (List A) (List A) (List A) (List A) (List A) (Or.equation_notes A) (Or.arm_notes A) (Or.guard_notes A) (Or.handler_notes A) (Or.state_notes A) (Or.test_notes A) (record { locals = eqs_of y.locals; eqs = eqs_of y.eqs }) in
      let r = good_two (Nu.make_handler {S = S} {N = A} {M = A} (λ j z. z) (λ j z. j)) (eqs_from y.locals) (map back_equation) (eqs_of y.locals) (joined (map told_equation (eqs_of y.locals))) (all_equation y.locals) (eqs_from y.eqs) (map back_equation) (eqs_of y.eqs) (joined (map told_equation (eqs_of y.eqs))) (all_equation y.eqs) k (subst (Agree k) told' a) in
      let made : count_handler (to_handler (roll-Handler A (record { locals = eqs_of y.locals; eqs = eqs_of y.eqs }))) ≡ (λ j. two (Nu.make_handler step next) (eqs_from y.locals) (eqs_from y.eqs) j) =
      ap count_handler (fold-roll-Handler A (Equation N) (Arm N) (Guard N) (Handler N) (State N) (Test N) (T.equation_step A N e) (T.arm_step A N e) (T.guard_step A N e) (T.handler_step A N e) (T.state_step A N e) (T.test_step A N e) (record { locals = eqs_of y.locals; eqs = eqs_of y.eqs }))
      ∙ fold-roll-Handler N (From S (Equation M)) (From S (Arm M)) (From S (Guard M)) (From S (Handler M)) (From S (State M)) (From S (Test M)) (Nu.equation_step step next) (Nu.arm_step step next) (Nu.guard_step step next) (Nu.handler_step step next) (Nu.state_step step next) (Nu.test_step step next) (record { locals = map to_equation (eqs_of y.locals); eqs = map to_equation (eqs_of y.eqs) }) in (
        ap (λ (g : From S (Handler M)). back_handler (g k).0) made
            ∙ fold-roll-Handler M (Equation A) (Arm A) (Guard A) (Handler A) (State A) (Test A) (T.equation_step M A pick) (T.arm_step M A pick) (T.guard_step M A pick) (T.handler_step M A pick) (T.state_step M A pick) (T.test_step M A pick) (record { locals = (eqs_from y.locals k).0; eqs = (eqs_from y.eqs (eqs_from y.locals k).1).0 }) ∙ r.0,
        ap (λ (g : From S (Handler M)). (g k).1) made ∙ r.1 ∙ ap (advance k) (sym told'),
      )

  guard_good : (y : Guard-F A WEquation WArm WGuard WHandler WState WTest) → GuardGood (roll-Guard A (record { eqs = eqs_of y.eqs; cond = y.cond; restart = y.restart; target = y.target }))
  guard_good y k a =
      let told' : told_guard (roll-Guard A (record { eqs = eqs_of y.eqs; cond = y.cond; restart = y.restart; target = y.target })) ≡ joined (map told_equation (eqs_of y.eqs)) ++ Or.notes A y.cond =
      fold-roll-Guard A (List A) (List A) (List A) (List A) (List A) (List A) (Or.equation_notes A) (Or.arm_notes A) (Or.guard_notes A) (Or.handler_notes A) (Or.state_notes A) (Or.test_notes A) (record { eqs = eqs_of y.eqs; cond = y.cond; restart = y.restart; target = y.target }) in
      let r = good_two {V = Guard A} (λ eqs cond. record { eqs = eqs; cond = cond; restart = y.restart; target = y.target }) (eqs_from y.eqs) (map back_equation) (eqs_of y.eqs) (joined (map told_equation (eqs_of y.eqs))) (all_equation y.eqs) (gx y.cond) bx y.cond (Or.notes A y.cond) (exprs_good y.cond) k (subst (Agree k) told' a) in
      let made : count_guard (to_guard (roll-Guard A (record { eqs = eqs_of y.eqs; cond = y.cond; restart = y.restart; target = y.target }))) ≡ (λ j. two {Z = Guard M} (λ eqs cond. record { eqs = eqs; cond = cond; restart = y.restart; target = y.target }) (eqs_from y.eqs) (gx y.cond) j) =
      ap count_guard (fold-roll-Guard A (Equation N) (Arm N) (Guard N) (Handler N) (State N) (Test N) (T.equation_step A N e) (T.arm_step A N e) (T.guard_step A N e) (T.handler_step A N e) (T.state_step A N e) (T.test_step A N e) (record { eqs = eqs_of y.eqs; cond = y.cond; restart = y.restart; target = y.target }))
      ∙ fold-roll-Guard N (From S (Equation M)) (From S (Arm M)) (From S (Guard M)) (From S (Handler M)) (From S (State M)) (From S (Test M)) (Nu.equation_step step next) (Nu.arm_step step next) (Nu.guard_step step next) (Nu.handler_step step next) (Nu.state_step step next) (Nu.test_step step next) (record { eqs = map to_equation (eqs_of y.eqs); cond = T.in_expr A N e y.cond; restart = y.restart; target = y.target }) in (
        ap (λ (g : From S (Guard M)). back_guard (g k).0) made
            ∙ fold-roll-Guard M (Equation A) (Arm A) (Guard A) (Handler A) (State A) (Test A) (T.equation_step M A pick) (T.arm_step M A pick) (T.guard_step M A pick) (T.handler_step M A pick) (T.state_step M A pick) (T.test_step M A pick) (record { eqs = (eqs_from y.eqs k).0; cond = (gx y.cond (eqs_from y.eqs k).1).0; restart = y.restart; target = y.target }) ∙ r.0,
        ap (λ (g : From S (Guard M)). (g k).1) made ∙ r.1 ∙ ap (advance k) (sym told'),
      )

  state_good : (y : State-F A WEquation WArm WGuard WHandler WState WTest) → StateGood (roll-State A (record { name = y.name; handler = y.handler.0; strong = guards_of y.strong; weak = guards_of y.weak }))
  state_good y k a =
      let told' : told_state (roll-State A (record { name = y.name; handler = y.handler.0; strong = guards_of y.strong; weak = guards_of y.weak })) ≡ told_handler y.handler.0 ++ (joined (map told_guard (guards_of y.strong)) ++ joined (map told_guard (guards_of y.weak))) =
      fold-roll-State A (List A) (List A) (List A) (List A) (List A) (List A) (Or.equation_notes A) (Or.arm_notes A) (Or.guard_notes A) (Or.handler_notes A) (Or.state_notes A) (Or.test_notes A) (record { name = y.name; handler = y.handler.0; strong = guards_of y.strong; weak = guards_of y.weak }) in
      let r = good_two {V = State A} (λ h (sw : List (Guard A) × List (Guard A)). roll-State A (record { name = y.name; handler = h; strong = sw.0; weak = sw.1 })) (count_handler (to_handler y.handler.0)) back_handler y.handler.0 (told_handler y.handler.0) y.handler.1 (λ j. two {Z = List (Guard M) × List (Guard M)} (λ s w. (s, w)) (guards_from y.strong) (guards_from y.weak) j) (λ (sw : List (Guard M) × List (Guard M)). (map back_guard sw.0, map back_guard sw.1)) (guards_of y.strong, guards_of y.weak) (joined (map told_guard (guards_of y.strong)) ++ joined (map told_guard (guards_of y.weak))) (good_two {V = List (Guard A) × List (Guard A)} (λ s w. (s, w)) (guards_from y.strong) (map back_guard) (guards_of y.strong) (joined (map told_guard (guards_of y.strong))) (all_guard y.strong) (guards_from y.weak) (map back_guard) (guards_of y.weak) (joined (map told_guard (guards_of y.weak))) (all_guard y.weak)) k (subst (Agree k) told' a) in
      let made : count_state (to_state (roll-State A (record { name = y.name; handler = y.handler.0; strong = guards_of y.strong; weak = guards_of y.weak }))) ≡ (λ j. three {Z = State M} (λ h s w. roll-State M (record { name = y.name; handler = h; strong = s; weak = w })) (count_handler (to_handler y.handler.0)) (guards_from y.strong) (guards_from y.weak) j) =
      ap count_state (fold-roll-State A (Equation N) (Arm N) (Guard N) (Handler N) (State N) (Test N) (T.equation_step A N e) (T.arm_step A N e) (T.guard_step A N e) (T.handler_step A N e) (T.state_step A N e) (T.test_step A N e) (record { name = y.name; handler = y.handler.0; strong = guards_of y.strong; weak = guards_of y.weak }))
      ∙ fold-roll-State N (From S (Equation M)) (From S (Arm M)) (From S (Guard M)) (From S (Handler M)) (From S (State M)) (From S (Test M)) (Nu.equation_step step next) (Nu.arm_step step next) (Nu.guard_step step next) (Nu.handler_step step next) (Nu.state_step step next) (Nu.test_step step next) (record { name = y.name; handler = to_handler y.handler.0; strong = map to_guard (guards_of y.strong); weak = map to_guard (guards_of y.weak) }) in (
        ap (λ (g : From S (State M)). back_state (g k).0) made
            ∙ fold-roll-State M (Equation A) (Arm A) (Guard A) (Handler A) (State A) (Test A) (T.equation_step M A pick) (T.arm_step M A pick) (T.guard_step M A pick) (T.handler_step M A pick) (T.state_step M A pick) (T.test_step M A pick) (record { name = y.name; handler = (count_handler (to_handler y.handler.0) k).0; strong = (guards_from y.strong (count_handler (to_handler y.handler.0) k).1).0; weak = (guards_from y.weak (guards_from y.strong (count_handler (to_handler y.handler.0) k).1).1).0 }) ∙ r.0,
        ap (λ (g : From S (State M)). (g k).1) made ∙ r.1 ∙ ap (advance k) (sym told'),
      )

  pub equations_good : (x : Equation A) → EquationGood x
  equations_good = ind-Equation A EquationGood ArmGood GuardGood HandlerGood StateGood TestGood
      (λ x y from. subst (λ z. EquationGood (roll-Equation A z)) from (equation_good y))
      (λ x y from. subst (λ z. ArmGood (roll-Arm A z)) from (arm_good y))
      (λ x y from. subst (λ z. GuardGood (roll-Guard A z)) from (guard_good y))
      (λ x y from. subst (λ z. HandlerGood (roll-Handler A z)) from (handler_good y))
      (λ x y from. subst (λ z. StateGood (roll-State A z)) from (state_good y))
      (λ x y from. subst (λ z. TestGood (roll-Test A z)) from (test_good y))

  all_equations : (xs : List (Equation A)) → Good (all_from (map count_equation (map to_equation xs))) (map back_equation) xs (joined (map told_equation xs))
  all_equations [] k a = (refl, refl)
  all_equations (x ∷ xs) k a = good_two (λ y ys. y ∷ ys) (count_equation (to_equation x)) back_equation x (told_equation x) (equations_good x)
      (all_from (map count_equation (map to_equation xs))) (map back_equation) xs (joined (map told_equation xs)) (all_equations xs) k a

  pub notes_good : (ns : List A) → Good (Nu.number_notes step next (map e ns)) (map pick) ns ns
  notes_good [] k a = (refl, refl)
  notes_good (n ∷ ns) k a = let r = notes_good ns (next k (e n)) a.1 in (ap₂ (λ x xs. x ∷ xs) a.0 r.0, r.1)

  -- an annotation of a body is the numbered body with the note of each number
  pub body_good : (b : BodyOf A) (k : S) → Agree k (Or.notes_body A b)
      → (T.in_body M A pick (Nu.number_body step next (T.in_body A N e b) k).0 ≡ b) × ((Nu.number_body step next (T.in_body A N e b) k).1 ≡ advance k (Or.notes_body A b))
  body_good b k a = good_two {V = BodyOf A} (λ eqs result. record { result = result; eqs = eqs }) (all_from (map count_equation (map to_equation b.eqs))) (map back_equation) b.eqs (joined (map told_equation b.eqs)) (all_equations b.eqs)
      (gx b.result) bx b.result (Or.notes A b.result) (exprs_good b.result) k a

  -- an annotation of a definition is the numbered definition with the note of each number
  pub definition_good : (d : DefOf A) (k : S) → Agree k (Or.notes_definition A d)
      → (T.in_definition M A pick (Nu.number_definition step next (T.in_definition A N e d) k).0 ≡ d) × ((Nu.number_definition step next (T.in_definition A N e d) k).1 ≡ advance k (Or.notes_definition A d))
  definition_good (DefOf.Cases line name cases) k a = (refl, refl)
  definition_good (DefOf.Let line node name params marks notes body) k a = good_two {V = DefOf A} (DefOf.Let line node name params marks)
      (Nu.number_notes step next (map e notes)) (map pick) notes notes (notes_good notes)
      (Nu.number_body step next (T.in_body A N e body)) (T.in_body M A pick) body (Or.notes_body A body) (body_good body) k a

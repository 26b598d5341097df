-- What is found in a body with other notes is what is found in it, with the other notes.
use Rattle.std.specs.Prelude.{◌≡◌, ℕ, suc, ◌+◌, Bool, true, false, List, [], ◌∷◌, ◌++◌, map, length, Option, Some, None, unwrap_or, refl}
use Rattle.std.proofs.Common.{ap, ap₂, sym, ◌∙◌, subst}
use Rattle.std.proofs.lemmas.List.{map-append, length-map}
use Rattle.ls_ast.specs.declared.tree.Pat.{Pat}
use Rattle.ls_ast.specs.declared.tree.BodyOf.{BodyOf}
use Rattle.ls_ast.specs.declared.tree.Expr.{Expr}
use Rattle.ls_ast.specs.declared.tree.Equation.{Equation, fold-roll-Equation, ind-Equation, map-Equation, roll-Equation}
use Rattle.ls_ast.specs.declared.tree.Equation.TheOpen.{Equation-F, Arm-F, Guard-F, Handler-F, State-F, Test-F}
use Rattle.ls_ast.specs.declared.tree.Arm.{Arm, fold-Arm, fold-roll-Arm, roll-Arm}
use Rattle.ls_ast.specs.declared.tree.Guard.{Guard, fold-Guard, fold-roll-Guard, roll-Guard}
use Rattle.ls_ast.specs.declared.tree.Handler.{Handler, fold-Handler, fold-roll-Handler, roll-Handler}
use Rattle.ls_ast.specs.declared.tree.State.{State, fold-State, fold-roll-State, roll-State}
use Rattle.ls_ast.specs.declared.tree.Test.{Test, fold-Test, fold-roll-Test, roll-Test}
use Rattle.ls_places.specs.Patterns.{names_of}
use Rattle.ls_places.specs.Places
use Rattle.ls_places.specs.Places.{Place, arms, spot, in_reset, in_do, in_let}
use Rattle.ls_places.specs.declared.around.Where.{Where}
use Rattle.ls_places.specs.declared.places.Named.TheVariants as named
use Rattle.ls_places.specs.declared.places.Right.TheVariants as rhs
use Rattle.ls_places.specs.declared.places.Whole.{Whole}
use Rattle.tree_notes.specs.Noted as T

module _ (N M : Type 0) (f : N → M) where
  abbrev pub to_expr : Expr N → Expr M
  to_expr = T.in_expr N M f

  abbrev pub to_whole : Whole N → Whole M
  to_whole x = record { expr = to_expr x.expr; place = x.place }

  abbrev pub to_found : Places.Found N → Places.Found M
  to_found p = record {
    vars = p.vars;
    sites = p.sites;
    starts = p.starts;
    names = p.names;
    resets = p.resets;
    exprs = map to_whole p.exprs;
  }

  -- ---- single steps

  next_in : (p : Places.Found N) → Places.next_expr M (to_found p) ≡ Places.next_expr N p
  next_in p = length-map p.exprs to_whole

  reading_in : (e : Expr N) (p : Place) (w : Places.Found N) → Places.reading M (to_expr e) p (to_found w) ≡ to_found (Places.reading N e p w)
  reading_in e p w = λ i. record (to_found w) { exprs = sym (map-append to_whole w.exprs (record { expr = e; place = p } ∷ [])) i }

  plain_in : (q : Pat) (s : Bool) (e : Expr N) (w : Where) (p : Places.Found N) → Places.plain_at M q s (to_expr e) w (to_found p) ≡ to_found (Places.plain_at N q s e w p)
  plain_in q s e w p = λ i. Places.site_at M (names_of q) s (rhs.Part q (next_in p i)) w (reading_in e w.place p i)

  whole_in : (x : ℕ) (s : Bool) (e : Expr N) (w : Where) (p : Places.Found N) → Places.whole_at M x s (to_expr e) w (to_found p) ≡ to_found (Places.whole_at N x s e w p)
  whole_in x s e w p = λ i. Places.site_at M (x ∷ []) s (rhs.Whole (next_in p i)) w (reading_in e w.place p i)

  start_in : (x : ℕ) (e : Expr N) (w : Where) (p : Places.Found N) → Places.start_at M x (to_expr e) w (to_found p) ≡ to_found (Places.start_at N x e w p)
  start_in x e w p =
      (λ i. Places.reading M (to_expr e) w.place (record (to_found p) { starts = p.starts ++ record { name = x; list = arms (spot w); right = next_in p i } ∷ [] }))
      ∙ reading_in e w.place (record p { starts = p.starts ++ record { name = x; list = arms (spot w); right = Places.next_expr N p } ∷ [] })

  pattern_in : (s : ℕ) (o : Option Pat) (w : Where) (p : Places.Found N) → Places.bind_pattern M s o w (to_found p) ≡ to_found (Places.bind_pattern N s o w p)
  pattern_in s None w p = refl
  pattern_in s (Some q) w p = refl

  -- ---- walks

  abbrev WalkIs : Places.Walk N → Places.Walk M → Type 0
  WalkIs a b = (w : Where) (p : Places.Found N) → b w (to_found p) ≡ to_found (a w p)

  abbrev ArmIs : Places.InArm N → Places.InArm M → Type 0
  ArmIs a b = (m j : ℕ) → WalkIs (a m j) (b m j)

  pub record AnArmIs (a : Places.AnArm N) (b : Places.AnArm M) : Type 0 where
    pub case : b.case ≡ a.case
    pub walk : ArmIs a.walk b.walk

  pub record ATestIs (a : Places.ATest N) (b : Places.ATest M) : Type 0 where
    pub signal : b.signal ≡ a.signal
    pub walk : ArmIs a.walk b.walk

  pub record AGuardIs (a : Places.AGuard N) (b : Places.AGuard M) : Type 0 where
    pub transition : (m j : ℕ) (w : Where) (p : Places.Found N) → b.transition m j w (to_found p) ≡ a.transition m j w p
    pub walk : ArmIs a.walk b.walk

  pub record AStateIs (a : Places.AState N) (b : Places.AState M) : Type 0 where
    pub name : b.name ≡ a.name
    pub strong : (m j : ℕ) (w : Where) (p : Places.Found N) → b.strong m j w (to_found p) ≡ a.strong m j w p
    pub weak : (m j : ℕ) (w : Where) (p : Places.Found N) → b.weak m j w (to_found p) ≡ a.weak m j w p
    pub walk : ArmIs a.walk b.walk

  module _ (first : ℕ) (cases : ℕ → Option ℕ) (sN : Expr N → Bool) (sM : Expr M → Bool) (agree : (e : Expr N) → sM (to_expr e) ≡ sN e) where
    abbrev eqN : Equation N → Places.Walk N
    eqN = Places.walk_of N first cases sN

    abbrev eqM : Equation M → Places.Walk M
    eqM = Places.walk_of M first cases sM

    abbrev EqP : Equation N → Type 0
    EqP e = WalkIs (eqN e) (eqM (T.in_equation N M f e))

    abbrev in_arm : Arm N → Arm M
    in_arm = fold-Arm N (Equation M) (Arm M) (Guard M) (Handler M) (State M) (Test M) (T.equation_step N M f) (T.arm_step N M f) (T.guard_step N M f) (T.handler_step N M f) (T.state_step N M f) (T.test_step N M f)

    abbrev in_guard : Guard N → Guard M
    in_guard = fold-Guard N (Equation M) (Arm M) (Guard M) (Handler M) (State M) (Test M) (T.equation_step N M f) (T.arm_step N M f) (T.guard_step N M f) (T.handler_step N M f) (T.state_step N M f) (T.test_step N M f)

    abbrev in_handler : Handler N → Handler M
    in_handler = fold-Handler N (Equation M) (Arm M) (Guard M) (Handler M) (State M) (Test M) (T.equation_step N M f) (T.arm_step N M f) (T.guard_step N M f) (T.handler_step N M f) (T.state_step N M f) (T.test_step N M f)

    abbrev in_state : State N → State M
    in_state = fold-State N (Equation M) (Arm M) (Guard M) (Handler M) (State M) (Test M) (T.equation_step N M f) (T.arm_step N M f) (T.guard_step N M f) (T.handler_step N M f) (T.state_step N M f) (T.test_step N M f)

    abbrev in_test : Test N → Test M
    in_test = fold-Test N (Equation M) (Arm M) (Guard M) (Handler M) (State M) (Test M) (T.equation_step N M f) (T.arm_step N M f) (T.guard_step N M f) (T.handler_step N M f) (T.state_step N M f) (T.test_step N M f)

    abbrev armN : Arm N → Places.AnArm N
    armN = Places.arm_of N first cases sN

    abbrev armM : Arm M → Places.AnArm M
    armM = Places.arm_of M first cases sM

    abbrev guardN : Guard N → Places.AGuard N
    guardN = Places.guard_of N first cases sN

    abbrev guardM : Guard M → Places.AGuard M
    guardM = Places.guard_of M first cases sM

    abbrev handlerN : Handler N → Places.InArm N
    handlerN = Places.handler_of N first cases sN

    abbrev handlerM : Handler M → Places.InArm M
    handlerM = Places.handler_of M first cases sM

    abbrev stateN : State N → Places.AState N
    stateN = Places.state_of N first cases sN

    abbrev stateM : State M → Places.AState M
    stateM = Places.state_of M first cases sM

    abbrev testN : Test N → Places.ATest N
    testN = Places.test_of N first cases sN

    abbrev testM : Test M → Places.ATest M
    testM = Places.test_of M first cases sM

    abbrev ArmP : Arm N → Type 0
    ArmP a = AnArmIs (armN a) (armM (in_arm a))

    abbrev GuardP : Guard N → Type 0
    GuardP g = AGuardIs (guardN g) (guardM (in_guard g))

    abbrev HandlerP : Handler N → Type 0
    HandlerP h = ArmIs (handlerN h) (handlerM (in_handler h))

    abbrev StateP : State N → Type 0
    StateP s = AStateIs (stateN s) (stateM (in_state s))

    abbrev TestP : Test N → Type 0
    TestP t = ATestIs (testN t) (testM (in_test t))

    abbrev WEq : Type 0
    WEq = (e : Equation N) × EqP e

    abbrev WArm : Type 0
    WArm = (a : Arm N) × ArmP a

    abbrev WGuard : Type 0
    WGuard = (g : Guard N) × GuardP g

    abbrev WHandler : Type 0
    WHandler = (h : Handler N) × HandlerP h

    abbrev WState : Type 0
    WState = (s : State N) × StateP s

    abbrev WTest : Type 0
    WTest = (t : Test N) × TestP t

    -- ---- lists of walks

    eqs_in : (ps : List WEq) → WalkIs (Places.walk_all N (map eqN (map (λ p. p.0) ps))) (Places.walk_all M (map eqM (map (T.in_equation N M f) (map (λ p. p.0) ps))))
    eqs_in [] w p = refl
    eqs_in (q ∷ ps) w p = ap (Places.walk_all M (map eqM (map (T.in_equation N M f) (map (λ r. r.0) ps))) w) (q.1 w p) ∙ eqs_in ps w (eqN q.0 w p)

    arms_in : (ps : List WArm) (m j : ℕ) → WalkIs (Places.arms_from N m j (Places.arm_walks N (map armN (map (λ p. p.0) ps)))) (Places.arms_from M m j (Places.arm_walks M (map armM (map in_arm (map (λ p. p.0) ps)))))
    arms_in [] m j w p = refl
    arms_in (q ∷ ps) m j w p = ap (Places.arms_from M m (suc j) (Places.arm_walks M (map armM (map in_arm (map (λ r. r.0) ps)))) w) (q.1.walk m j w p) ∙ arms_in ps m (suc j) w ((armN q.0).walk m j w p)

    cases_in : (ps : List WArm) → Places.arm_cases M (map armM (map in_arm (map (λ p. p.0) ps))) ≡ Places.arm_cases N (map armN (map (λ p. p.0) ps))
    cases_in [] = refl
    cases_in (q ∷ ps) = ap₂ (λ x xs. x ∷ xs) q.1.case (cases_in ps)

    states_in : (ps : List WState) (m j : ℕ) → WalkIs (Places.arms_from N m j (Places.state_walks N (map stateN (map (λ p. p.0) ps)))) (Places.arms_from M m j (Places.state_walks M (map stateM (map in_state (map (λ p. p.0) ps)))))
    states_in [] m j w p = refl
    states_in (q ∷ ps) m j w p = ap (Places.arms_from M m (suc j) (Places.state_walks M (map stateM (map in_state (map (λ r. r.0) ps)))) w) (q.1.walk m j w p) ∙ states_in ps m (suc j) w ((stateN q.0).walk m j w p)

    strongs_in : (ps : List WState) (m j : ℕ) (w : Where) (p : Places.Found N) → Places.strongs_from M m j (map stateM (map in_state (map (λ p. p.0) ps))) w (to_found p) ≡ Places.strongs_from N m j (map stateN (map (λ p. p.0) ps)) w p
    strongs_in [] m j w p = refl
    strongs_in (q ∷ ps) m j w p = ap₂ (λ x xs. x ∷ xs) (λ i. (q.1.name i, q.1.strong m j w p i))
        (ap (Places.strongs_from M m (suc j) (map stateM (map in_state (map (λ r. r.0) ps))) w) (q.1.walk m j w p) ∙ strongs_in ps m (suc j) w ((stateN q.0).walk m j w p))

    weaks_in : (ps : List WState) (m j : ℕ) (w : Where) (p : Places.Found N) → Places.weaks_from M m j (map stateM (map in_state (map (λ p. p.0) ps))) w (to_found p) ≡ Places.weaks_from N m j (map stateN (map (λ p. p.0) ps)) w p
    weaks_in [] m j w p = refl
    weaks_in (q ∷ ps) m j w p = ap₂ (λ x xs. x ∷ xs) (λ i. (q.1.name i, q.1.weak m j w p i))
        (ap (Places.weaks_from M m (suc j) (map stateM (map in_state (map (λ r. r.0) ps))) w) (q.1.walk m j w p) ∙ weaks_in ps m (suc j) w ((stateN q.0).walk m j w p))

    guards_in : (ps : List WGuard) → ArmIs (Places.walk_guards N (map guardN (map (λ p. p.0) ps))) (Places.walk_guards M (map guardM (map in_guard (map (λ p. p.0) ps))))
    guards_in [] m j w p = refl
    guards_in (q ∷ ps) m j w p = ap (Places.walk_guards M (map guardM (map in_guard (map (λ r. r.0) ps))) m j w) (q.1.walk m j w p) ∙ guards_in ps m j w ((guardN q.0).walk m j w p)

    transitions_in : (ps : List WGuard) (m j : ℕ) (w : Where) (p : Places.Found N) → Places.transitions M (map guardM (map in_guard (map (λ p. p.0) ps))) m j w (to_found p) ≡ Places.transitions N (map guardN (map (λ p. p.0) ps)) m j w p
    transitions_in [] m j w p = refl
    transitions_in (q ∷ ps) m j w p = ap₂ (λ x xs. x ∷ xs) (q.1.transition m j w p)
        (ap (Places.transitions M (map guardM (map in_guard (map (λ r. r.0) ps))) m j w) (q.1.walk m j w p) ∙ transitions_in ps m j w ((guardN q.0).walk m j w p))

    -- the tests of a `present`, and then its `else`
    tests_in : (ps : List WTest) (xs : List (Places.InArm N)) (ys : List (Places.InArm M)) → ((m j : ℕ) → WalkIs (Places.arms_from N m j xs) (Places.arms_from M m j ys)) → (m j : ℕ)
        → WalkIs (Places.arms_from N m j (Places.test_walks N (map testN (map (λ p. p.0) ps)) ++ xs)) (Places.arms_from M m j (Places.test_walks M (map testM (map in_test (map (λ p. p.0) ps))) ++ ys))
    tests_in [] xs ys h m j w p = h m j w p
    tests_in (q ∷ ps) xs ys h m j w p = ap (Places.arms_from M m (suc j) (Places.test_walks M (map testM (map in_test (map (λ r. r.0) ps))) ++ ys) w) (q.1.walk m j w p) ∙ tests_in ps xs ys h m (suc j) w ((testN q.0).walk m j w p)

    signals_in : (ps : List WTest) → Places.test_signals M (map testM (map in_test (map (λ p. p.0) ps))) ≡ Places.test_signals N (map testN (map (λ p. p.0) ps))
    signals_in [] = refl
    signals_in (q ∷ ps) = ap₂ (λ x xs. x ∷ xs) q.1.signal (signals_in ps)

    -- ---- one layer

    abbrev bottom : Equation-F N WEq WArm WGuard WHandler WState WTest → Equation-F N (Equation N) (Arm N) (Guard N) (Handler N) (State N) (Test N)
    bottom y = map-Equation N WEq WArm WGuard WHandler WState WTest (Equation N) (Arm N) (Guard N) (Handler N) (State N) (Test N) (λ p. p.0) (λ p. p.0) (λ p. p.0) (λ p. p.0) (λ p. p.0) (λ p. p.0) y

    abbrev up : Equation-F N (Equation N) (Arm N) (Guard N) (Handler N) (State N) (Test N) → Equation-F N (Equation M) (Arm M) (Guard M) (Handler M) (State M) (Test M)
    up = map-Equation N (Equation N) (Arm N) (Guard N) (Handler N) (State N) (Test N) (Equation M) (Arm M) (Guard M) (Handler M) (State M) (Test M) (T.in_equation N M f) in_arm in_guard in_handler in_state in_test

    abbrev walksN : Equation-F N (Equation N) (Arm N) (Guard N) (Handler N) (State N) (Test N) → Equation-F N (Places.Walk N) (Places.AnArm N) (Places.AGuard N) (Places.InArm N) (Places.AState N) (Places.ATest N)
    walksN = map-Equation N (Equation N) (Arm N) (Guard N) (Handler N) (State N) (Test N) (Places.Walk N) (Places.AnArm N) (Places.AGuard N) (Places.InArm N) (Places.AState N) (Places.ATest N) eqN armN guardN handlerN stateN testN

    abbrev walksM : Equation-F M (Equation M) (Arm M) (Guard M) (Handler M) (State M) (Test M) → Equation-F M (Places.Walk M) (Places.AnArm M) (Places.AGuard M) (Places.InArm M) (Places.AState M) (Places.ATest M)
    walksM = map-Equation M (Equation M) (Arm M) (Guard M) (Handler M) (State M) (Test M) (Places.Walk M) (Places.AnArm M) (Places.AGuard M) (Places.InArm M) (Places.AState M) (Places.ATest M) eqM armM guardM handlerM stateM testM

    abbrev stepN : Equation-F N (Places.Walk N) (Places.AnArm N) (Places.AGuard N) (Places.InArm N) (Places.AState N) (Places.ATest N) → Places.Walk N
    stepN = Places.equation_step N first cases sN

    abbrev stepM : Equation-F M (Places.Walk M) (Places.AnArm M) (Places.AGuard M) (Places.InArm M) (Places.AState M) (Places.ATest M) → Places.Walk M
    stepM = Places.equation_step M first cases sM

    reset_in : (e : Expr N) (a : Places.Walk N) (b : Places.Walk M) → WalkIs a b → (w : Where) (p : Places.Found N)
        → b (in_reset (length p.resets) w) (Places.open_reset M (to_expr e) w (to_found p)) ≡ to_found (a (in_reset (length p.resets) w) (Places.open_reset N e w p))
    reset_in e a b h w p =
        ap (b (in_reset (length p.resets) w))
        ((λ i. Places.reading M (to_expr e) w.place (record (to_found p) { resets = p.resets ++ next_in p i ∷ [] }))
        ∙ reading_in e w.place (record p { resets = p.resets ++ Places.next_expr N p ∷ [] }))
        ∙ h (in_reset (length p.resets) w) (Places.open_reset N e w p)

    match_in : (e : Expr N) (cN cM : List (Option ℕ)) → cM ≡ cN → (w : Where) (p : Places.Found N) → Places.open_match M (to_expr e) cM w (to_found p) ≡ to_found (Places.open_match N e cN w p)
    match_in e cN cM c w p = λ i. Places.naming M (named.Match (next_in p i) (c i) w.place) (reading_in e w.place p i)

    layer : (y : Equation-F N WEq WArm WGuard WHandler WState WTest) → WalkIs (stepN (walksN (bottom y))) (stepM (walksM (T.equation_notes N M f (up (bottom y)))))
    layer (Equation-F.Plain q e) w p = (λ i. Places.plain_at M q (agree e i) (to_expr e) w (to_found p)) ∙ plain_in q (sN e) e w p
    layer (Equation-F.Clock x e) w p = ap (Places.clock_at M x.0 w) (whole_in x.0 false e w p)
    layer (Equation-F.Initial x e) w p = start_in x.0 e w p
    layer (Equation-F.Emit x e) w p = whole_in x.0 true e w p
    layer (Equation-F.Reset ps e) w p =
        reset_in e (Places.walk_all N (map eqN (map (λ q. q.0) ps))) (Places.walk_all M (map eqM (map (T.in_equation N M f) (map (λ q. q.0) ps)))) (eqs_in ps) w p
    layer (Equation-F.Match e ps) w p =
        ap (Places.arms_from M (Places.next N first cases sN p) 0 (Places.arm_walks M (map armM (map in_arm (map (λ q. q.0) ps)))) w)
        (match_in e (Places.arm_cases N (map armN (map (λ q. q.0) ps))) (Places.arm_cases M (map armM (map in_arm (map (λ q. q.0) ps)))) (cases_in ps) w p)
        ∙ arms_in ps (Places.next N first cases sN p) 0 w (Places.open_match N e (Places.arm_cases N (map armN (map (λ q. q.0) ps))) w p)
    layer (Equation-F.Present ps None) w p =
        ap (λ c. Places.arms_from M (Places.next N first cases sN p) 0 (Places.test_walks M (map testM (map in_test (map (λ q. q.0) ps))) ++ []) w (Places.open_present M c w (to_found p))) (signals_in ps)
        ∙ tests_in ps [] [] (λ m j v q. refl) (Places.next N first cases sN p) 0 w (Places.open_present N (Places.test_signals N (map testN (map (λ q. q.0) ps))) w p)
    layer (Equation-F.Present ps (Some h)) w p =
        ap (λ c. Places.arms_from M (Places.next N first cases sN p) 0 (Places.test_walks M (map testM (map in_test (map (λ q. q.0) ps))) ++ handlerM (in_handler h.0) ∷ []) w (Places.open_present M c w (to_found p))) (signals_in ps)
        ∙ tests_in ps (handlerN h.0 ∷ []) (handlerM (in_handler h.0) ∷ []) (λ m j v q. h.1 m j v q) (Places.next N first cases sN p) 0 w (Places.open_present N (Places.test_signals N (map testN (map (λ q. q.0) ps))) w p)
    layer (Equation-F.Automaton ps) w p =
        λ i. Places.close_modes M (length p.names)
        (strongs_in ps (Places.next N first cases sN p) 0 w (Places.open_modes N w.place p) i)
        (weaks_in ps (Places.next N first cases sN p) 0 w (Places.open_modes N w.place p) i) w.place
        (states_in ps (Places.next N first cases sN p) 0 w (Places.open_modes N w.place p) i)

    equation_in : (y : Equation-F N WEq WArm WGuard WHandler WState WTest) → EqP (roll-Equation N (bottom y))
    equation_in y w p =
        ap (λ (g : Equation M). eqM g w (to_found p)) (fold-roll-Equation N (Equation M) (Arm M) (Guard M) (Handler M) (State M) (Test M) (T.equation_step N M f) (T.arm_step N M f) (T.guard_step N M f) (T.handler_step N M f) (T.state_step N M f) (T.test_step N M f) (bottom y))
        ∙ ap (λ (g : Places.Walk M). g w (to_found p)) (fold-roll-Equation M (Places.Walk M) (Places.AnArm M) (Places.AGuard M) (Places.InArm M) (Places.AState M) (Places.ATest M)
        (Places.equation_step M first cases sM) (Places.arm_step M first cases sM) (Places.guard_step M first cases sM) (Places.handler_step M first cases sM) (Places.state_step M first cases sM) (Places.test_step M first cases sM) (T.equation_notes N M f (up (bottom y))))
        ∙ layer y w p
        ∙ ap (λ (g : Places.Walk N). to_found (g w p)) (sym (fold-roll-Equation N (Places.Walk N) (Places.AnArm N) (Places.AGuard N) (Places.InArm N) (Places.AState N) (Places.ATest N)
        (Places.equation_step N first cases sN) (Places.arm_step N first cases sN) (Places.guard_step N first cases sN) (Places.handler_step N first cases sN) (Places.state_step N first cases sN) (Places.test_step N first cases sN) (bottom y)))

    -- the layers of the parts of blocks
    abbrev MEq : Type 0
    MEq = Equation M

    turned : {A B : Type 0} (R : A → B → Type 0) (a a' : A) (b b' : B) → a ≡ a' → b ≡ b' → R a' b' → R a b
    turned R a a' b b' p q r = subst (λ z. R z b) (sym p) (subst (R a') (sym q) r)

    arm_in : (y : Arm-F N WEq WArm WGuard WHandler WState WTest) → ArmP (roll-Arm N (record { case = y.case; handler = y.handler.0 }))
    arm_in y =
        turned AnArmIs
        (armN (roll-Arm N (record { case = y.case; handler = y.handler.0 })))
        (Places.arm_step N first cases sN (record { case = y.case; handler = handlerN y.handler.0 }))
        (armM (in_arm (roll-Arm N (record { case = y.case; handler = y.handler.0 }))))
        (Places.arm_step M first cases sM (record { case = y.case; handler = handlerM (in_handler y.handler.0) }))
        (fold-roll-Arm N (Places.Walk N) (Places.AnArm N) (Places.AGuard N) (Places.InArm N) (Places.AState N) (Places.ATest N)
        (Places.equation_step N first cases sN) (Places.arm_step N first cases sN) (Places.guard_step N first cases sN) (Places.handler_step N first cases sN) (Places.state_step N first cases sN) (Places.test_step N first cases sN) (record { case = y.case; handler = y.handler.0 }))
        (ap armM (fold-roll-Arm N (Equation M) (Arm M) (Guard M) (Handler M) (State M) (Test M) (T.equation_step N M f) (T.arm_step N M f) (T.guard_step N M f) (T.handler_step N M f) (T.state_step N M f) (T.test_step N M f) (record { case = y.case; handler = y.handler.0 }))
        ∙ fold-roll-Arm M (Places.Walk M) (Places.AnArm M) (Places.AGuard M) (Places.InArm M) (Places.AState M) (Places.ATest M)
        (Places.equation_step M first cases sM) (Places.arm_step M first cases sM) (Places.guard_step M first cases sM) (Places.handler_step M first cases sM) (Places.state_step M first cases sM) (Places.test_step M first cases sM) (record { case = y.case; handler = in_handler y.handler.0 }))
        (record { case = refl; walk = y.handler.1 })

    test_in : (y : Test-F N WEq WArm WGuard WHandler WState WTest) → TestP (roll-Test N (record { signal = y.signal; pat = y.pat; handler = y.handler.0 }))
    test_in y =
        turned ATestIs
        (testN (roll-Test N (record { signal = y.signal; pat = y.pat; handler = y.handler.0 })))
        (Places.test_step N first cases sN (record { signal = y.signal; pat = y.pat; handler = handlerN y.handler.0 }))
        (testM (in_test (roll-Test N (record { signal = y.signal; pat = y.pat; handler = y.handler.0 }))))
        (Places.test_step M first cases sM (record { signal = y.signal; pat = y.pat; handler = handlerM (in_handler y.handler.0) }))
        (fold-roll-Test N (Places.Walk N) (Places.AnArm N) (Places.AGuard N) (Places.InArm N) (Places.AState N) (Places.ATest N)
        (Places.equation_step N first cases sN) (Places.arm_step N first cases sN) (Places.guard_step N first cases sN) (Places.handler_step N first cases sN) (Places.state_step N first cases sN) (Places.test_step N first cases sN) (record { signal = y.signal; pat = y.pat; handler = y.handler.0 }))
        (ap testM (fold-roll-Test N (Equation M) (Arm M) (Guard M) (Handler M) (State M) (Test M) (T.equation_step N M f) (T.arm_step N M f) (T.guard_step N M f) (T.handler_step N M f) (T.state_step N M f) (T.test_step N M f) (record { signal = y.signal; pat = y.pat; handler = y.handler.0 }))
        ∙ fold-roll-Test M (Places.Walk M) (Places.AnArm M) (Places.AGuard M) (Places.InArm M) (Places.AState M) (Places.ATest M)
        (Places.equation_step M first cases sM) (Places.arm_step M first cases sM) (Places.guard_step M first cases sM) (Places.handler_step M first cases sM) (Places.state_step M first cases sM) (Places.test_step M first cases sM) (record { signal = y.signal; pat = y.pat; handler = in_handler y.handler.0 }))
        (record { signal = refl; walk = λ m j w p. ap (handlerM (in_handler y.handler.0) m j w) (pattern_in y.signal.0 y.pat (in_let m j w) p) ∙ y.handler.1 m j w (Places.bind_pattern N y.signal.0 y.pat (in_let m j w) p) })

    abbrev firsts_eq : List WEq → List (Equation N)
    firsts_eq = map {A = WEq} {B = Equation N} (λ p. p.0)

    abbrev firsts_guard : List WGuard → List (Guard N)
    firsts_guard = map {A = WGuard} {B = Guard N} (λ p. p.0)

    guard_in : (y : Guard-F N WEq WArm WGuard WHandler WState WTest) → GuardP (roll-Guard N (record { eqs = firsts_eq y.eqs; cond = y.cond; restart = y.restart; target = y.target }))
    guard_in y =
        turned AGuardIs
        (guardN (roll-Guard N (record { eqs = firsts_eq y.eqs; cond = y.cond; restart = y.restart; target = y.target })))
        (Places.guard_step N first cases sN (record { eqs = map eqN (firsts_eq y.eqs); cond = y.cond; restart = y.restart; target = y.target }))
        (guardM (in_guard (roll-Guard N (record { eqs = firsts_eq y.eqs; cond = y.cond; restart = y.restart; target = y.target }))))
        (Places.guard_step M first cases sM (record { eqs = map eqM (map (T.in_equation N M f) (firsts_eq y.eqs)); cond = to_expr y.cond; restart = y.restart; target = y.target }))
        (fold-roll-Guard N (Places.Walk N) (Places.AnArm N) (Places.AGuard N) (Places.InArm N) (Places.AState N) (Places.ATest N)
        (Places.equation_step N first cases sN) (Places.arm_step N first cases sN) (Places.guard_step N first cases sN) (Places.handler_step N first cases sN) (Places.state_step N first cases sN) (Places.test_step N first cases sN) (record { eqs = firsts_eq y.eqs; cond = y.cond; restart = y.restart; target = y.target }))
        (ap guardM (fold-roll-Guard N (Equation M) (Arm M) (Guard M) (Handler M) (State M) (Test M) (T.equation_step N M f) (T.arm_step N M f) (T.guard_step N M f) (T.handler_step N M f) (T.state_step N M f) (T.test_step N M f) (record { eqs = firsts_eq y.eqs; cond = y.cond; restart = y.restart; target = y.target }))
        ∙ fold-roll-Guard M (Places.Walk M) (Places.AnArm M) (Places.AGuard M) (Places.InArm M) (Places.AState M) (Places.ATest M)
        (Places.equation_step M first cases sM) (Places.arm_step M first cases sM) (Places.guard_step M first cases sM) (Places.handler_step M first cases sM) (Places.state_step M first cases sM) (Places.test_step M first cases sM) (record { eqs = map (T.in_equation N M f) (firsts_eq y.eqs); cond = to_expr y.cond; restart = y.restart; target = y.target }))
        (record {
          transition = λ m j w p i. record {
            cond = (ap (Places.next_expr M) (eqs_in y.eqs (in_let m j w) p) ∙ next_in (Places.walk_all N (map eqN (firsts_eq y.eqs)) (in_let m j w) p)) i;
            restart = y.restart;
            target = y.target.0;
          };
          walk = λ m j w p. ap (Places.reading M (to_expr y.cond) (in_let m j w).place) (eqs_in y.eqs (in_let m j w) p)
              ∙ reading_in y.cond (in_let m j w).place (Places.walk_all N (map eqN (firsts_eq y.eqs)) (in_let m j w) p);
        })

    handler_in : (y : Handler-F N WEq WArm WGuard WHandler WState WTest) → HandlerP (roll-Handler N (record { locals = firsts_eq y.locals; eqs = firsts_eq y.eqs }))
    handler_in y =
        turned ArmIs
        (handlerN (roll-Handler N (record { locals = firsts_eq y.locals; eqs = firsts_eq y.eqs })))
        (Places.handler_step N first cases sN (record { locals = map eqN (firsts_eq y.locals); eqs = map eqN (firsts_eq y.eqs) }))
        (handlerM (in_handler (roll-Handler N (record { locals = firsts_eq y.locals; eqs = firsts_eq y.eqs }))))
        (Places.handler_step M first cases sM (record { locals = map eqM (map (T.in_equation N M f) (firsts_eq y.locals)); eqs = map eqM (map (T.in_equation N M f) (firsts_eq y.eqs)) }))
        (fold-roll-Handler N (Places.Walk N) (Places.AnArm N) (Places.AGuard N) (Places.InArm N) (Places.AState N) (Places.ATest N)
        (Places.equation_step N first cases sN) (Places.arm_step N first cases sN) (Places.guard_step N first cases sN) (Places.handler_step N first cases sN) (Places.state_step N first cases sN) (Places.test_step N first cases sN) (record { locals = firsts_eq y.locals; eqs = firsts_eq y.eqs }))
        (ap handlerM (fold-roll-Handler N (Equation M) (Arm M) (Guard M) (Handler M) (State M) (Test M) (T.equation_step N M f) (T.arm_step N M f) (T.guard_step N M f) (T.handler_step N M f) (T.state_step N M f) (T.test_step N M f) (record { locals = firsts_eq y.locals; eqs = firsts_eq y.eqs }))
        ∙ fold-roll-Handler M (Places.Walk M) (Places.AnArm M) (Places.AGuard M) (Places.InArm M) (Places.AState M) (Places.ATest M)
        (Places.equation_step M first cases sM) (Places.arm_step M first cases sM) (Places.guard_step M first cases sM) (Places.handler_step M first cases sM) (Places.state_step M first cases sM) (Places.test_step M first cases sM) (record { locals = map (T.in_equation N M f) (firsts_eq y.locals); eqs = map (T.in_equation N M f) (firsts_eq y.eqs) }))
        (λ m j w p. ap (Places.walk_all M (map eqM (map (T.in_equation N M f) (firsts_eq y.eqs))) (in_do m j w)) (eqs_in y.locals (in_let m j w) p)
        ∙ eqs_in y.eqs (in_do m j w) (Places.walk_all N (map eqN (firsts_eq y.locals)) (in_let m j w) p))

    state_in : (y : State-F N WEq WArm WGuard WHandler WState WTest) → StateP (roll-State N (record { name = y.name; handler = y.handler.0; strong = firsts_guard y.strong; weak = firsts_guard y.weak }))
    state_in y =
        turned AStateIs
        (stateN (roll-State N (record { name = y.name; handler = y.handler.0; strong = firsts_guard y.strong; weak = firsts_guard y.weak })))
        (Places.state_step N first cases sN (record { name = y.name; handler = handlerN y.handler.0; strong = map guardN (firsts_guard y.strong); weak = map guardN (firsts_guard y.weak) }))
        (stateM (in_state (roll-State N (record { name = y.name; handler = y.handler.0; strong = firsts_guard y.strong; weak = firsts_guard y.weak }))))
        (Places.state_step M first cases sM (record { name = y.name; handler = handlerM (in_handler y.handler.0); strong = map guardM (map in_guard (firsts_guard y.strong)); weak = map guardM (map in_guard (firsts_guard y.weak)) }))
        (fold-roll-State N (Places.Walk N) (Places.AnArm N) (Places.AGuard N) (Places.InArm N) (Places.AState N) (Places.ATest N)
        (Places.equation_step N first cases sN) (Places.arm_step N first cases sN) (Places.guard_step N first cases sN) (Places.handler_step N first cases sN) (Places.state_step N first cases sN) (Places.test_step N first cases sN) (record { name = y.name; handler = y.handler.0; strong = firsts_guard y.strong; weak = firsts_guard y.weak }))
        (ap stateM (fold-roll-State N (Equation M) (Arm M) (Guard M) (Handler M) (State M) (Test M) (T.equation_step N M f) (T.arm_step N M f) (T.guard_step N M f) (T.handler_step N M f) (T.state_step N M f) (T.test_step N M f) (record { name = y.name; handler = y.handler.0; strong = firsts_guard y.strong; weak = firsts_guard y.weak }))
        ∙ fold-roll-State M (Places.Walk M) (Places.AnArm M) (Places.AGuard M) (Places.InArm M) (Places.AState M) (Places.ATest M)
        (Places.equation_step M first cases sM) (Places.arm_step M first cases sM) (Places.guard_step M first cases sM) (Places.handler_step M first cases sM) (Places.state_step M first cases sM) (Places.test_step M first cases sM) (record { name = y.name; handler = in_handler y.handler.0; strong = map in_guard (firsts_guard y.strong); weak = map in_guard (firsts_guard y.weak) }))
        (record {
          name = refl;
          strong = λ m j w p. ap (Places.transitions M (map guardM (map in_guard (firsts_guard y.strong))) (m + 1) j w) (y.handler.1 m j w p)
              ∙ transitions_in y.strong (m + 1) j w (handlerN y.handler.0 m j w p);
          weak = λ m j w p.
              ap (Places.transitions M (map guardM (map in_guard (firsts_guard y.weak))) m j w)
              (ap (Places.walk_guards M (map guardM (map in_guard (firsts_guard y.strong))) (m + 1) j w) (y.handler.1 m j w p) ∙ guards_in y.strong (m + 1) j w (handlerN y.handler.0 m j w p))
              ∙ transitions_in y.weak m j w (Places.walk_guards N (map guardN (firsts_guard y.strong)) (m + 1) j w (handlerN y.handler.0 m j w p));
          walk = λ m j w p.
              ap (λ z. Places.walk_guards M (map guardM (map in_guard (firsts_guard y.weak))) m j w (Places.walk_guards M (map guardM (map in_guard (firsts_guard y.strong))) (m + 1) j w z)) (y.handler.1 m j w p)
              ∙ ap (Places.walk_guards M (map guardM (map in_guard (firsts_guard y.weak))) m j w) (guards_in y.strong (m + 1) j w (handlerN y.handler.0 m j w p))
              ∙ guards_in y.weak m j w (Places.walk_guards N (map guardN (firsts_guard y.strong)) (m + 1) j w (handlerN y.handler.0 m j w p));
        })

    walks_in : (e : Equation N) → EqP e
    walks_in = ind-Equation N EqP ArmP GuardP HandlerP StateP TestP
        (λ x y from. subst (λ z. EqP (roll-Equation N z)) from (equation_in y))
        (λ x y from. subst (λ z. ArmP (roll-Arm N z)) from (arm_in y))
        (λ x y from. subst (λ z. GuardP (roll-Guard N z)) from (guard_in y))
        (λ x y from. subst (λ z. HandlerP (roll-Handler N z)) from (handler_in y))
        (λ x y from. subst (λ z. StateP (roll-State N z)) from (state_in y))
        (λ x y from. subst (λ z. TestP (roll-Test N z)) from (test_in y))

    body_in : (eqs : List (Equation N)) (w : Where) (p : Places.Found N) → Places.walk_all M (map eqM (map (T.in_equation N M f) eqs)) w (to_found p) ≡ to_found (Places.walk_all N (map eqN eqs) w p)
    body_in [] w p = refl
    body_in (e ∷ eqs) w p = ap (Places.walk_all M (map eqM (map (T.in_equation N M f) eqs)) w) (walks_in e w p) ∙ body_in eqs w (eqN e w p)

    pub find_in : (b : BodyOf N) → Places.find M first cases sM (T.in_body N M f b) ≡ to_found (Places.find N first cases sN b)
    find_in b =
        ap (Places.reading M (to_expr b.result) []) (body_in b.eqs Places.at_top (Places.nothing N))
        ∙ reading_in b.result [] (Places.walk_all N (map eqN b.eqs) Places.at_top (Places.nothing N))

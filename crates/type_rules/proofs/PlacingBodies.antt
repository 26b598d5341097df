-- The places of functions and signals in a body are those of the names.
use Rattle.std.specs.Prelude.{◌≡◌, ℕ, suc, ◌+◌, Bool, true, false, List, [], ◌∷◌, ◌++◌, map, slice_get, Option, Some, None, if◌then◌else◌}
use Rattle.ls_ast.specs.declared.tree.Mark.{Mark}
use Rattle.ls_ast.specs.declared.tree.BodyOf.{BodyOf}
use Rattle.ls_ast.specs.declared.tree.Expr.{Expr}
use Rattle.ls_ast.specs.declared.tree.Equation.{Equation}
use Rattle.ls_ast.specs.declared.tree.Equation.TheOpen.{Equation-F, Arm-F, Guard-F, Handler-F, State-F, Test-F}
use Rattle.ls_terms.specs.declared.types.TypeTerm.{TypeTerm}
use Rattle.ls_sig.specs.declared.binder.Binder.{Binder}
use Rattle.ls_places.specs.declared.places.Variable.{Variable}
use Rattle.ls_sig.specs.declared.sigs.Sig.{Sig}
use Rattle.type_rules.specs.Schemes.{joined}
use Rattle.tree_notes.specs.Each.{Each}
use Rattle.type_rules.proofs.Agreeing.{each_left, each_right, each_both}
use Rattle.type_rules.specs.declared.demand.Demand.{Demand}
use Rattle.type_rules.specs.Expressions.{Reading}
use Rattle.type_rules.specs.declared.around.Around.{Around}
use Rattle.type_rules.specs.Bodies as B
use Rattle.type_rules.specs.Bodies.{Shape, shape_of, in_do, in_let, at_top, parts_have, Asks, ArmAsks, CaseAsks}
use Rattle.type_rules.proofs.Placing.{Alike, Good, R', meets_left, meets_right, places_alike}
use Rattle.type_rules.specs.Places.{places_of, eq_places, arm_places, guard_places, handler_places, state_places, test_places, equation_places, body_places}
use Rattle.tree_notes.proofs.RelatedEquations.{related_equations, lefts_Equation, lefts_Arm, lefts_Guard, lefts_Handler, lefts_State, lefts_Test, rights_Equation, rights_Arm, rights_Guard, rights_Handler, rights_State, rights_Test}

module _ {N : Type 0} (bound : N → Binder) (ty : N → ℕ) (sigs : List Sig) (case_type : ℕ → Option TypeTerm) (params : List ℕ) (marks : ℕ → Mark) (vs : List Variable) (type_of : Binder → Option ℕ)
    (f g : ℕ → TypeTerm) (placed : (x : Binder) (v : ℕ) → type_of x ≡ Some v → Alike f g v) where
  abbrev G : List (Demand ℕ) → List ℕ → Type 0
  G = Good f g

  abbrev said : Expr N → Reading ℕ
  said = B.said N ℕ bound ty sigs case_type params marks vs type_of

  said_alike : (e : Expr N) → R' f g (said e) (places_of ty e)
  said_alike = places_alike bound ty sigs case_type marks (λ k. B.is_signal_at N ℕ bound ty sigs case_type params marks vs type_of (slice_get vs k)) type_of f g placed

  after : (ds es : List (Demand ℕ)) (ks : List ℕ) → G es ks → G (ds ++ es) ks
  after ds es ks h m m' = h (meets_right f ds es m) (meets_right g ds es m')

  both : (ds es : List (Demand ℕ)) (ks ls : List ℕ) → G ds ks → G es ls → G (ds ++ es) (ks ++ ls)
  both ds es ks ls h k m m' = each_both (Alike f g) ks ls (h (meets_left f ds es m) (meets_left g ds es m')) (k (meets_right f ds es m) (meets_right g ds es m'))

  abbrev R1 : Asks N ℕ → List ℕ → Type 0
  R1 a ks = (w : Around) (m : ℕ) → G (a.at w m) ks

  abbrev R3 : ArmAsks N ℕ → List ℕ → Type 0
  R3 a ks = (m j : ℕ) (w : Around) (n : ℕ) → G (a.at m j w n) ks

  abbrev R2 : CaseAsks N ℕ → List ℕ → Type 0
  R2 c ks = R3 c.arm ks

  abbrev T1 : Type 0
  T1 = (a : Asks N ℕ) × (ks : List ℕ) × R1 a ks

  abbrev T2 : Type 0
  T2 = (a : CaseAsks N ℕ) × (ks : List ℕ) × R2 a ks

  abbrev T3 : Type 0
  T3 = (a : ArmAsks N ℕ) × (ks : List ℕ) × R3 a ks

  all_good : (ps : List T1) (w : Around) (m : ℕ) → G (B.ask_all N ℕ (map (λ p. p.0) ps) w m) (joined (map (λ p. p.1) ps))
  all_good [] w m = λ u u'. tt
  all_good (p ∷ ps) w m = both (p.0.at w m) (B.ask_all N ℕ (map (λ p. p.0) ps) w (m + p.0.names)) p.1 (joined (map (λ p. p.1) ps)) (p.2 w m) (all_good ps w (m + p.0.names))

  arms_good : (m j : ℕ) (ps : List T3) (w : Around) (n : ℕ) → G (B.ask_arms N ℕ m j (map (λ p. p.0) ps) w n) (joined (map (λ p. p.1) ps))
  arms_good m j [] w n = λ u u'. tt
  arms_good m j (p ∷ ps) w n =
      both (p.0.at m j w n) (B.ask_arms N ℕ m (suc j) (map (λ p. p.0) ps) w (n + p.0.names)) p.1 (joined (map (λ p. p.1) ps)) (p.2 m j w n) (arms_good m (suc j) ps w (n + p.0.names))

  cases_good : (m j : ℕ) (ps : List T2) (w : Around) (n : ℕ) → G (B.ask_arms N ℕ m j (B.arms_of N ℕ (map (λ p. p.0) ps)) w n) (joined (map (λ p. p.1) ps))
  cases_good m j [] w n = λ u u'. tt
  cases_good m j (p ∷ ps) w n =
      both (p.0.arm.at m j w n) (B.ask_arms N ℕ m (suc j) (B.arms_of N ℕ (map (λ p. p.0) ps)) w (n + p.0.arm.names)) p.1 (joined (map (λ p. p.1) ps)) (p.2 m j w n) (cases_good m (suc j) ps w (n + p.0.arm.names))

  guards_good : (ps : List T3) (m j : ℕ) (w : Around) (n : ℕ) → G (B.ask_guards N ℕ (map (λ p. p.0) ps) m j w n) (joined (map (λ p. p.1) ps))
  guards_good [] m j w n = λ u u'. tt
  guards_good (p ∷ ps) m j w n =
      both (p.0.at m j w n) (B.ask_guards N ℕ (map (λ p. p.0) ps) m j w (n + p.0.names)) p.1 (joined (map (λ p. p.1) ps)) (p.2 m j w n) (guards_good ps m j w (n + p.0.names))

  -- tests, and the arm behind them
  tests_good : (m j : ℕ) (ps : List T3) (h : T3) (w : Around) (n : ℕ) → G (B.ask_arms N ℕ m j (map (λ p. p.0) ps ++ h.0 ∷ []) w n) (joined (map (λ p. p.1) ps) ++ h.1)
  tests_good m j [] h w n u u' = h.2 m j w n (meets_left f (h.0.at m j w n) [] u) (meets_left g (h.0.at m j w n) [] u')
  tests_good m j (p ∷ ps) h w n u u' =
      let rest = B.ask_arms N ℕ m (suc j) (map (λ p. p.0) ps ++ h.0 ∷ []) w (n + p.0.names) in
      let x = p.2 m j w n (meets_left f (p.0.at m j w n) rest u) (meets_left g (p.0.at m j w n) rest u') in
      let y = tests_good m (suc j) ps h w (n + p.0.names) (meets_right f (p.0.at m j w n) rest u) (meets_right g (p.0.at m j w n) rest u') in
      three p.1 (joined (map (λ p. p.1) ps)) h.1 x y
    where
      three : (ks ls js : List ℕ) → Each (Alike f g) ks → Each (Alike f g) (ls ++ js) → Each (Alike f g) (ks ++ ls ++ js)
      three ks ls js a b = each_both (Alike f g) (ks ++ ls) js (each_both (Alike f g) ks ls a (each_left (Alike f g) ls js b)) (each_right (Alike f g) ls js b)

  none_good : (m j : ℕ) (ps : List T3) (w : Around) (n : ℕ) → G (B.ask_arms N ℕ m j (map (λ p. p.0) ps ++ []) w n) (joined (map (λ p. p.1) ps))
  none_good m j [] w n = λ u u'. tt
  none_good m j (p ∷ ps) w n =
      both (p.0.at m j w n) (B.ask_arms N ℕ m (suc j) (map (λ p. p.0) ps ++ []) w (n + p.0.names)) p.1 (joined (map (λ p. p.1) ps)) (p.2 m j w n) (none_good m (suc j) ps w (n + p.0.names))

  signal_good : (o : Option ℕ) (e : Expr N) (w : Around) → G (B.signal_equation N ℕ bound ty sigs case_type params marks vs type_of o (said e) w) (places_of ty e)
  signal_good None e w = λ m m'. absurd m.0
  signal_good (Some x) e w = after (B.same_as N ℕ bound ty sigs case_type params marks vs type_of (B.bound_at N ℕ bound ty sigs case_type params marks vs type_of w x) (said e).ty) (said e).whole (places_of ty e) (said_alike e).2

  either : (c : Bool) (ds es : List (Demand ℕ)) (ks : List ℕ) → G ds ks → G es ks → G (if c then ds else es) ks
  either true ds es ks p q = p
  either false ds es ks p q = q

  stream_good : (e : Expr N) → G (said e).stream (places_of ty e)
  stream_good e = (said_alike e).0

  bool_good : (e : Expr N) → G (B.is_bool N ℕ bound ty sigs case_type params marks vs type_of (said e)) (places_of ty e)
  bool_good e m m' = stream_good e m.1 m'.1

  abbrev s1 : Equation-F N (Asks N ℕ) (CaseAsks N ℕ) (ArmAsks N ℕ) (ArmAsks N ℕ) (ArmAsks N ℕ) (ArmAsks N ℕ) → Asks N ℕ
  s1 = B.equation_step N ℕ bound ty sigs case_type params marks vs type_of

  abbrev s2 : Arm-F N (Asks N ℕ) (CaseAsks N ℕ) (ArmAsks N ℕ) (ArmAsks N ℕ) (ArmAsks N ℕ) (ArmAsks N ℕ) → CaseAsks N ℕ
  s2 = B.arm_step N ℕ bound ty sigs case_type params marks vs type_of

  abbrev s3 : Guard-F N (Asks N ℕ) (CaseAsks N ℕ) (ArmAsks N ℕ) (ArmAsks N ℕ) (ArmAsks N ℕ) (ArmAsks N ℕ) → ArmAsks N ℕ
  s3 = B.guard_step N ℕ bound ty sigs case_type params marks vs type_of

  abbrev s4 : Handler-F N (Asks N ℕ) (CaseAsks N ℕ) (ArmAsks N ℕ) (ArmAsks N ℕ) (ArmAsks N ℕ) (ArmAsks N ℕ) → ArmAsks N ℕ
  s4 = B.handler_step N ℕ bound ty sigs case_type params marks vs type_of

  abbrev s5 : State-F N (Asks N ℕ) (CaseAsks N ℕ) (ArmAsks N ℕ) (ArmAsks N ℕ) (ArmAsks N ℕ) (ArmAsks N ℕ) → ArmAsks N ℕ
  s5 = B.state_step N ℕ bound ty sigs case_type params marks vs type_of

  abbrev s6 : Test-F N (Asks N ℕ) (CaseAsks N ℕ) (ArmAsks N ℕ) (ArmAsks N ℕ) (ArmAsks N ℕ) (ArmAsks N ℕ) → ArmAsks N ℕ
  s6 = B.test_step N ℕ bound ty sigs case_type params marks vs type_of

  layer1 : (y : Equation-F N T1 T2 T3 T3 T3 T3) → R1 (s1 (lefts_Equation s1 s2 s3 s4 s5 s6 (eq_places ty) (arm_places ty) (guard_places ty) (handler_places ty) (state_places ty) (test_places ty) R1 R2 R3 R3 R3 R3 y)) (eq_places ty (rights_Equation s1 s2 s3 s4 s5 s6 (eq_places ty) (arm_places ty) (guard_places ty) (handler_places ty) (state_places ty) (test_places ty) R1 R2 R3 R3 R3 R3 y))
  layer1 (Equation-F.Plain p e) w m = either (said e).answers_signal (B.signal_equation N ℕ bound ty sigs case_type params marks vs type_of (shape_of p).alone (said e) w)
      (parts_have (B.bound_at N ℕ bound ty sigs case_type params marks vs type_of w) (said e).ty (λ s. s) (shape_of p) ++ (said e).stream) (places_of ty e)
      (signal_good (shape_of p).alone e w)
      (after (parts_have (B.bound_at N ℕ bound ty sigs case_type params marks vs type_of w) (said e).ty (λ s. s) (shape_of p)) (said e).stream (places_of ty e) (stream_good e))
  layer1 (Equation-F.Clock x e) w m = after (B.both_any N ℕ bound ty sigs case_type params marks vs type_of (B.bound_at N ℕ bound ty sigs case_type params marks vs type_of w x.0) (said e).ty) (said e).stream (places_of ty e) (stream_good e)
  layer1 (Equation-F.Initial x e) w m = after (B.both_any N ℕ bound ty sigs case_type params marks vs type_of (B.bound_at N ℕ bound ty sigs case_type params marks vs type_of w x.0) (said e).ty) (said e).stream (places_of ty e) (stream_good e)
  layer1 (Equation-F.Emit x e) w m = after (B.emitted N ℕ bound ty sigs case_type params marks vs type_of (B.bound_at N ℕ bound ty sigs case_type params marks vs type_of w x.0) (said e).ty) (said e).stream (places_of ty e) (stream_good e)
  layer1 (Equation-F.Reset ps e) w m = both (B.is_bool N ℕ bound ty sigs case_type params marks vs type_of (said e)) (B.ask_all N ℕ (map (λ p. p.0) ps) w m) (places_of ty e) (joined (map (λ p. p.1) ps)) (bool_good e) (all_good ps w m)
  layer1 (Equation-F.Match e ps) w m =
      both ((said e).stream ++ B.cases_have N ℕ bound ty sigs case_type params marks vs type_of (said e).ty (map (λ p. p.0) ps)) (B.ask_arms N ℕ m 0 (B.arms_of N ℕ (map (λ p. p.0) ps)) w (m + 1)) (places_of ty e) (joined (map (λ p. p.1) ps))
      (λ u u'. stream_good e (meets_left f (said e).stream (B.cases_have N ℕ bound ty sigs case_type params marks vs type_of (said e).ty (map (λ p. p.0) ps)) u) (meets_left g (said e).stream (B.cases_have N ℕ bound ty sigs case_type params marks vs type_of (said e).ty (map (λ p. p.0) ps)) u'))
      (cases_good m 0 ps w (m + 1))
  layer1 (Equation-F.Present ps None) w m = none_good m 0 ps w (m + 1)
  layer1 (Equation-F.Present ps (Some h)) w m = tests_good m 0 ps h w (m + 1)
  layer1 (Equation-F.Automaton ps) w m = arms_good m 0 ps w (m + 2)

  layer2 : (y : Arm-F N T1 T2 T3 T3 T3 T3) → R2 (s2 (lefts_Arm s1 s2 s3 s4 s5 s6 (eq_places ty) (arm_places ty) (guard_places ty) (handler_places ty) (state_places ty) (test_places ty) R1 R2 R3 R3 R3 R3 y)) (arm_places ty (rights_Arm s1 s2 s3 s4 s5 s6 (eq_places ty) (arm_places ty) (guard_places ty) (handler_places ty) (state_places ty) (test_places ty) R1 R2 R3 R3 R3 R3 y))
  layer2 y = y.handler.2

  layer3 : (y : Guard-F N T1 T2 T3 T3 T3 T3) → R3 (s3 (lefts_Guard s1 s2 s3 s4 s5 s6 (eq_places ty) (arm_places ty) (guard_places ty) (handler_places ty) (state_places ty) (test_places ty) R1 R2 R3 R3 R3 R3 y)) (guard_places ty (rights_Guard s1 s2 s3 s4 s5 s6 (eq_places ty) (arm_places ty) (guard_places ty) (handler_places ty) (state_places ty) (test_places ty) R1 R2 R3 R3 R3 R3 y))
  layer3 y m j w n = both (B.ask_all N ℕ (map (λ p. p.0) y.eqs) (in_let m j w) n) (B.is_bool N ℕ bound ty sigs case_type params marks vs type_of (said y.cond)) (joined (map (λ p. p.1) y.eqs)) (places_of ty y.cond)
      (all_good y.eqs (in_let m j w) n) (bool_good y.cond)

  layer4 : (y : Handler-F N T1 T2 T3 T3 T3 T3) → R3 (s4 (lefts_Handler s1 s2 s3 s4 s5 s6 (eq_places ty) (arm_places ty) (guard_places ty) (handler_places ty) (state_places ty) (test_places ty) R1 R2 R3 R3 R3 R3 y)) (handler_places ty (rights_Handler s1 s2 s3 s4 s5 s6 (eq_places ty) (arm_places ty) (guard_places ty) (handler_places ty) (state_places ty) (test_places ty) R1 R2 R3 R3 R3 R3 y))
  layer4 y m j w n = both (B.ask_all N ℕ (map (λ p. p.0) y.locals) (in_let m j w) n) (B.ask_all N ℕ (map (λ p. p.0) y.eqs) (in_do m j w) (n + B.names_all N ℕ (map (λ p. p.0) y.locals))) (joined (map (λ p. p.1) y.locals)) (joined (map (λ p. p.1) y.eqs))
      (all_good y.locals (in_let m j w) n) (all_good y.eqs (in_do m j w) (n + B.names_all N ℕ (map (λ p. p.0) y.locals)))

  layer5 : (y : State-F N T1 T2 T3 T3 T3 T3) → R3 (s5 (lefts_State s1 s2 s3 s4 s5 s6 (eq_places ty) (arm_places ty) (guard_places ty) (handler_places ty) (state_places ty) (test_places ty) R1 R2 R3 R3 R3 R3 y)) (state_places ty (rights_State s1 s2 s3 s4 s5 s6 (eq_places ty) (arm_places ty) (guard_places ty) (handler_places ty) (state_places ty) (test_places ty) R1 R2 R3 R3 R3 R3 y))
  layer5 y m j w n =
      let st = map {A = T3} {B = ArmAsks N ℕ} (λ p. p.0) y.strong in
      let h = y.handler.0.names in
      both (y.handler.0.at m j w n ++ B.ask_guards N ℕ st (m + 1) j w (n + h)) (B.ask_guards N ℕ (map (λ p. p.0) y.weak) m j w (n + h + B.names_arms N ℕ st)) (y.handler.1 ++ joined (map (λ p. p.1) y.strong)) (joined (map (λ p. p.1) y.weak))
      (both (y.handler.0.at m j w n) (B.ask_guards N ℕ st (m + 1) j w (n + h)) y.handler.1 (joined (map (λ p. p.1) y.strong)) (y.handler.2 m j w n) (guards_good y.strong (m + 1) j w (n + h)))
      (guards_good y.weak m j w (n + h + B.names_arms N ℕ st))

  layer6 : (y : Test-F N T1 T2 T3 T3 T3 T3) → R3 (s6 (lefts_Test s1 s2 s3 s4 s5 s6 (eq_places ty) (arm_places ty) (guard_places ty) (handler_places ty) (state_places ty) (test_places ty) R1 R2 R3 R3 R3 R3 y)) (test_places ty (rights_Test s1 s2 s3 s4 s5 s6 (eq_places ty) (arm_places ty) (guard_places ty) (handler_places ty) (state_places ty) (test_places ty) R1 R2 R3 R3 R3 R3 y))
  layer6 y m j w n = after (B.tested N ℕ bound ty sigs case_type params marks vs type_of (B.signal_type N ℕ bound ty sigs case_type params marks vs type_of w y.signal.0) y.pat (in_let m j w)) (y.handler.0.at m j w n) y.handler.1 (y.handler.2 m j w n)

  pub equation_alike : (q : Equation N) (w : Around) (m : ℕ) → G ((B.asks N ℕ bound ty sigs case_type params marks vs type_of q).at w m) (equation_places ty q)
  equation_alike = related_equations s1 s2 s3 s4 s5 s6 (eq_places ty) (arm_places ty) (guard_places ty) (handler_places ty) (state_places ty) (test_places ty) R1 R2 R3 R3 R3 R3 layer1 layer2 layer3 layer4 layer5 layer6

  eqs_alike : (qs : List (Equation N)) (w : Around) (m : ℕ) → G (B.ask_all N ℕ (map (B.asks N ℕ bound ty sigs case_type params marks vs type_of) qs) w m) (joined (map (equation_places ty) qs))
  eqs_alike [] w m = λ u u'. tt
  eqs_alike (q ∷ qs) w m =
      let a = B.asks N ℕ bound ty sigs case_type params marks vs type_of q in
      both (a.at w m) (B.ask_all N ℕ (map (B.asks N ℕ bound ty sigs case_type params marks vs type_of) qs) w (m + a.names)) (equation_places ty q) (joined (map (equation_places ty) qs)) (equation_alike q w m) (eqs_alike qs w (m + a.names))

  -- each expression of a body is data in one assignment where it is in the other, if the names are
  pub body_alike : (first : ℕ) (body : BodyOf N) → G (B.body_asks N ℕ bound ty sigs case_type params marks vs type_of first body) (body_places ty body)
  body_alike first body = both (said body.result).body (B.ask_all N ℕ (map (B.asks N ℕ bound ty sigs case_type params marks vs type_of) body.eqs) at_top first) (places_of ty body.result) (joined (map (equation_places ty) body.eqs))
      (said_alike body.result).3 (eqs_alike body.eqs at_top first)

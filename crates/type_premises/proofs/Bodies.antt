-- Each expression of a body that scope sees is asked, in one of the ways that it may stand, for its types.
use Rattle.std.specs.Prelude.{◌≡◌, refl, ℕ, suc, ◌+◌, Bool, true, false, List, [], ◌∷◌, ◌++◌, map, length, Option, Some, None, option_map, if◌then◌else◌, ◌⊎◌}
use Rattle.std.proofs.Common.{sym, subst, inl, inr}
use Rattle.ls_ast.specs.declared.tree.Mark.{Mark}
use Rattle.ls_ast.specs.declared.tree.Pat.{Pat}
use Rattle.ls_ast.specs.declared.tree.BodyOf.{BodyOf}
use Rattle.ls_ast.specs.declared.tree.Expr.{Expr}
use Rattle.ls_ast.specs.declared.tree.Equation.{Equation}
use Rattle.ls_ast.specs.declared.tree.Equation.TheOpen.{Equation-F, Arm-F, Guard-F, Handler-F, State-F, Test-F}
use Rattle.ls_terms.specs.declared.types.TypeTerm.{TypeTerm}
use Rattle.ls_sig.specs.declared.binder.Binder.{Binder}
use Rattle.ls_sig.specs.declared.sigs.Sig.{Sig}
use Rattle.ls_places.specs.declared.places.Variable.{Variable}
use Rattle.tree_notes.specs.Each.{Each}
use Rattle.tree_notes.proofs.RelatedEquations.{related_equations, lefts_Equation, lefts_Arm, lefts_Guard, lefts_Handler, lefts_State, lefts_Test, rights_Equation, rights_Arm, rights_Guard, rights_Handler, rights_State, rights_Test}
use Rattle.type_rules.specs.declared.around.Around.{Around}
use Rattle.type_rules.specs.declared.demand.Demand.{Demand}
use Rattle.type_rules.specs.Demands.{Meets}
use Rattle.type_rules.specs.Expressions.{Reading}
use Rattle.type_rules.specs.Bodies as B
use Rattle.type_rules.specs.Bodies.{shape_of, parts_have, Asks, ArmAsks, CaseAsks}
use Rattle.type_rules.proofs.Agreeing.{each_both}
use Rattle.type_rules.proofs.Placing.{meets_left, meets_right}
use Rattle.scope_rules.specs.Places as P
use Rattle.scope_rules.specs.Places.{Place, reads, tests, stream}
use Rattle.scope_rules.specs.declared.claims.Stand.{Stand}
use Rattle.scope_rules.specs.declared.claims.Stand.TheVariants.{Whole as whole}
use Rattle.scope_rules.specs.declared.places.Way.{Way}
use Rattle.scope_rules.specs.declared.places.Where.{Where}
use Rattle.scope_rules.specs.declared.places.Way.TheVariants as way
use Rattle.scope_rules.specs.Laws.{as_function}

module _ {N : Type 0} (bound : N → Binder) (ty : N → ℕ) (sigs : List Sig) (case_type : ℕ → Option TypeTerm) (params : List ℕ) (marks : ℕ → Mark) (vs : List Variable) (type_of : Binder → Option ℕ) (f : ℕ → TypeTerm) where
  abbrev C : Type 0
  C = P.Contents N

  abbrev pub said : Expr N → Reading ℕ
  said = B.said N ℕ bound ty sigs case_type params marks vs type_of

  -- in some way that is no function's its demands are met
  abbrev pub Asked : P.Reading N → Type 0
  Asked (reads e s p) = (as_function s ≡ false) × (Meets f (said e).stream ⊎ (Meets f (said e).whole ⊎ Meets f (said e).body))
  Asked (tests x p) = Unit {0}

  abbrev pub All : C → Type 0
  All g = Each Asked g.readings

  abbrev M : List (Demand ℕ) → Type 0
  M ds = Meets f ds

  -- what is added

  read : (r : P.Reading N) (g : C) → Asked r → All g → All (P.read N r g)
  read r g h a = each_both Asked g.readings (r ∷ []) a (h, tt)

  kept : (xs : List ℕ) (how : Way) (w : Where) (g : C) → (P.bind_all N how w xs g).readings ≡ g.readings
  kept [] how w g = refl
  kept (x ∷ xs) how w g = kept xs how w (P.bind N how w x g)

  bound_all : (xs : List ℕ) (how : Way) (w : Where) (g : C) → All g → All (P.bind_all N how w xs g)
  bound_all xs how w g a = subst (λ z. Each Asked z) (sym (kept xs how w g)) a

  bound_pattern : (o : Option Pat) (w : Where) (g : C) → All g → All (P.bind_pattern N o w g)
  bound_pattern None w g a = a
  bound_pattern (Some p) w g a = bound_all (P.names_of p) way.Tested w g a

  read_tests : (xs : List ℕ) (w : Where) (g : C) → All g → All (P.read_tests N xs w g)
  read_tests [] w g a = a
  read_tests (x ∷ xs) w g a = read_tests xs w (P.read N (tests x (P.around w)) g) (read (tests x (P.around w)) g tt a)

  -- the relation

  abbrev R1 : P.Walk N → Asks N ℕ → Type 0
  R1 a b = (w : Where) (g : C) (v : Around) (n : ℕ) → M (b.at v n) → All g → All (a w g)

  abbrev R4 : P.InArm N → ArmAsks N ℕ → Type 0
  R4 a b = (m j : ℕ) (w : Where) (g : C) (m' j' : ℕ) (v : Around) (n : ℕ) → M (b.at m' j' v n) → All g → All (a m j w g)

  abbrev R2 : P.AnArm N → CaseAsks N ℕ → Type 0
  R2 a b = R4 a.walk b.arm

  abbrev R3 : P.AGuard N → ArmAsks N ℕ → Type 0
  R3 a b = R4 a.walk b

  abbrev R5 : P.AState N → ArmAsks N ℕ → Type 0
  R5 a b = R4 a.walk b

  abbrev R6 : P.ATest N → ArmAsks N ℕ → Type 0
  R6 a b = R4 a.walk b

  abbrev T1 : Type 0
  T1 = (a : P.Walk N) × (b : Asks N ℕ) × R1 a b

  abbrev T2 : Type 0
  T2 = (a : P.AnArm N) × (b : CaseAsks N ℕ) × R2 a b

  abbrev T3 : Type 0
  T3 = (a : P.AGuard N) × (b : ArmAsks N ℕ) × R3 a b

  abbrev T4 : Type 0
  T4 = (a : P.InArm N) × (b : ArmAsks N ℕ) × R4 a b

  abbrev T5 : Type 0
  T5 = (a : P.AState N) × (b : ArmAsks N ℕ) × R5 a b

  abbrev T6 : Type 0
  T6 = (a : P.ATest N) × (b : ArmAsks N ℕ) × R6 a b

  all_asked : (qs : List T1) (w : Where) (g : C) (v : Around) (n : ℕ) → M (B.ask_all N ℕ (map {A = T1} {B = Asks N ℕ} (λ p. p.1) qs) v n) → All g → All (P.walk_all N (map {A = T1} {B = P.Walk N} (λ p. p.0) qs) w g)
  all_asked [] w g v n h a = a
  all_asked (q ∷ qs) w g v n h a =
      let later = B.ask_all N ℕ (map {A = T1} {B = Asks N ℕ} (λ p. p.1) qs) v (n + q.1.names) in
      all_asked qs w (q.0 w g) v (n + q.1.names) (meets_right f (q.1.at v n) later h) (q.2 w g v n (meets_left f (q.1.at v n) later h) a)

  cases_asked : (qs : List T2) (m j : ℕ) (w : Where) (g : C) (m' j' : ℕ) (v : Around) (n : ℕ) → M (B.ask_arms N ℕ m' j' (B.arms_of N ℕ (map {A = T2} {B = CaseAsks N ℕ} (λ p. p.1) qs)) v n) → All g
      → All (P.arms_from N m j (P.arm_walks N (map {A = T2} {B = P.AnArm N} (λ p. p.0) qs)) w g)
  cases_asked [] m j w g m' j' v n h a = a
  cases_asked (q ∷ qs) m j w g m' j' v n h a =
      let here = q.1.arm.at m' j' v n in
      let later = B.ask_arms N ℕ m' (suc j') (B.arms_of N ℕ (map {A = T2} {B = CaseAsks N ℕ} (λ p. p.1) qs)) v (n + q.1.arm.names) in
      cases_asked qs m (suc j) w (q.0.walk m j w g) m' (suc j') v (n + q.1.arm.names) (meets_right f here later h) (q.2 m j w g m' j' v n (meets_left f here later h) a)

  states_asked : (qs : List T5) (m j : ℕ) (w : Where) (g : C) (m' j' : ℕ) (v : Around) (n : ℕ) → M (B.ask_arms N ℕ m' j' (map {A = T5} {B = ArmAsks N ℕ} (λ p. p.1) qs) v n) → All g
      → All (P.arms_from N m j (P.state_walks N (map {A = T5} {B = P.AState N} (λ p. p.0) qs)) w g)
  states_asked [] m j w g m' j' v n h a = a
  states_asked (q ∷ qs) m j w g m' j' v n h a =
      let here = q.1.at m' j' v n in
      let later = B.ask_arms N ℕ m' (suc j') (map {A = T5} {B = ArmAsks N ℕ} (λ p. p.1) qs) v (n + q.1.names) in
      states_asked qs m (suc j) w (q.0.walk m j w g) m' (suc j') v (n + q.1.names) (meets_right f here later h) (q.2 m j w g m' j' v n (meets_left f here later h) a)

  guards_asked : (qs : List T3) (m j : ℕ) (w : Where) (g : C) (m' j' : ℕ) (v : Around) (n : ℕ) → M (B.ask_guards N ℕ (map {A = T3} {B = ArmAsks N ℕ} (λ p. p.1) qs) m' j' v n) → All g
      → All (P.walk_guards N (map {A = T3} {B = P.AGuard N} (λ p. p.0) qs) m j w g)
  guards_asked [] m j w g m' j' v n h a = a
  guards_asked (q ∷ qs) m j w g m' j' v n h a =
      let here = q.1.at m' j' v n in
      let later = B.ask_guards N ℕ (map {A = T3} {B = ArmAsks N ℕ} (λ p. p.1) qs) m' j' v (n + q.1.names) in
      guards_asked qs m j w (q.0.walk m j w g) m' j' v (n + q.1.names) (meets_right f here later h) (q.2 m j w g m' j' v n (meets_left f here later h) a)

  other_asked : (o : Option T4) (m j : ℕ) (w : Where) (g : C) (m' j' : ℕ) (v : Around) (n : ℕ) → M (B.ask_arms N ℕ m' j' (B.other_of N ℕ (option_map {T = T4} {U = ArmAsks N ℕ} (λ p. p.1) o)) v n) → All g
      → All (P.other_arm N m j (option_map {T = T4} {U = P.InArm N} (λ p. p.0) o) w g)
  other_asked None m j w g m' j' v n h a = a
  other_asked (Some q) m j w g m' j' v n h a = q.2 m j w g m' j' v n (meets_left f (q.1.at m' j' v n) [] h) a

  -- tests, and the arm behind them, whose number among scope's arms is given
  tests_asked : (qs : List T6) (o : Option T4) (m j i : ℕ) (w : Where) (g : C) (m' j' : ℕ) (v : Around) (n : ℕ)
      → M (B.ask_arms N ℕ m' j' (map {A = T6} {B = ArmAsks N ℕ} (λ p. p.1) qs ++ B.other_of N ℕ (option_map {T = T4} {U = ArmAsks N ℕ} (λ p. p.1) o)) v n) → All g
      → All (P.other_arm N m i (option_map {T = T4} {U = P.InArm N} (λ p. p.0) o) w (P.arms_from N m j (P.test_walks N (map {A = T6} {B = P.ATest N} (λ p. p.0) qs)) w g))
  tests_asked [] o m j i w g m' j' v n h a = other_asked o m i w g m' j' v n h a
  tests_asked (q ∷ qs) o m j i w g m' j' v n h a =
      let here = q.1.at m' j' v n in
      let later = B.ask_arms N ℕ m' (suc j') (map {A = T6} {B = ArmAsks N ℕ} (λ p. p.1) qs ++ B.other_of N ℕ (option_map {T = T4} {U = ArmAsks N ℕ} (λ p. p.1) o)) v (n + q.1.names) in
      tests_asked qs o m (suc j) i w (q.0.walk m j w g) m' (suc j') v (n + q.1.names) (meets_right f here later h) (q.2 m j w g m' j' v n (meets_left f here later h) a)

  present_asked : (qs : List T6) (o : Option T4) (w : Where) (g : C) (v : Around) (n : ℕ)
      → M (B.ask_arms N ℕ n 0 (map {A = T6} {B = ArmAsks N ℕ} (λ p. p.1) qs ++ B.other_of N ℕ (option_map {T = T4} {U = ArmAsks N ℕ} (λ p. p.1) o)) v (n + 1)) → All g
      → All (P.other_arm N g.next (length (map {A = T6} {B = P.ATest N} (λ p. p.0) qs)) (option_map {T = T4} {U = P.InArm N} (λ p. p.0) o) w
      (P.arms_from N g.next 0 (P.test_walks N (map {A = T6} {B = P.ATest N} (λ p. p.0) qs)) w (P.count_name N (P.read_tests N (P.test_signals N (map {A = T6} {B = P.ATest N} (λ p. p.0) qs)) w g))))
  present_asked qs o w g v n h a =
      let xs = P.test_signals N (map {A = T6} {B = P.ATest N} (λ p. p.0) qs) in
      tests_asked qs o g.next 0 (length (map {A = T6} {B = P.ATest N} (λ p. p.0) qs)) w (P.count_name N (P.read_tests N xs w g)) n 0 v (n + 1) h (read_tests xs w g a)

  -- the steps

  abbrev s1 : Equation-F N (P.Walk N) (P.AnArm N) (P.AGuard N) (P.InArm N) (P.AState N) (P.ATest N) → P.Walk N
  s1 = P.equation_step N

  abbrev s2 : Arm-F N (P.Walk N) (P.AnArm N) (P.AGuard N) (P.InArm N) (P.AState N) (P.ATest N) → P.AnArm N
  s2 = P.arm_step N

  abbrev s3 : Guard-F N (P.Walk N) (P.AnArm N) (P.AGuard N) (P.InArm N) (P.AState N) (P.ATest N) → P.AGuard N
  s3 = P.guard_step N

  abbrev s4 : Handler-F N (P.Walk N) (P.AnArm N) (P.AGuard N) (P.InArm N) (P.AState N) (P.ATest N) → P.InArm N
  s4 = P.handler_step N

  abbrev s5 : State-F N (P.Walk N) (P.AnArm N) (P.AGuard N) (P.InArm N) (P.AState N) (P.ATest N) → P.AState N
  s5 = P.state_step N

  abbrev s6 : Test-F N (P.Walk N) (P.AnArm N) (P.AGuard N) (P.InArm N) (P.AState N) (P.ATest N) → P.ATest N
  s6 = P.test_step N

  abbrev t1 : Equation-F N (Asks N ℕ) (CaseAsks N ℕ) (ArmAsks N ℕ) (ArmAsks N ℕ) (ArmAsks N ℕ) (ArmAsks N ℕ) → Asks N ℕ
  t1 = B.equation_step N ℕ bound ty sigs case_type params marks vs type_of

  abbrev t2 : Arm-F N (Asks N ℕ) (CaseAsks N ℕ) (ArmAsks N ℕ) (ArmAsks N ℕ) (ArmAsks N ℕ) (ArmAsks N ℕ) → CaseAsks N ℕ
  t2 = B.arm_step N ℕ bound ty sigs case_type params marks vs type_of

  abbrev t3 : Guard-F N (Asks N ℕ) (CaseAsks N ℕ) (ArmAsks N ℕ) (ArmAsks N ℕ) (ArmAsks N ℕ) (ArmAsks N ℕ) → ArmAsks N ℕ
  t3 = B.guard_step N ℕ bound ty sigs case_type params marks vs type_of

  abbrev t4 : Handler-F N (Asks N ℕ) (CaseAsks N ℕ) (ArmAsks N ℕ) (ArmAsks N ℕ) (ArmAsks N ℕ) (ArmAsks N ℕ) → ArmAsks N ℕ
  t4 = B.handler_step N ℕ bound ty sigs case_type params marks vs type_of

  abbrev t5 : State-F N (Asks N ℕ) (CaseAsks N ℕ) (ArmAsks N ℕ) (ArmAsks N ℕ) (ArmAsks N ℕ) (ArmAsks N ℕ) → ArmAsks N ℕ
  t5 = B.state_step N ℕ bound ty sigs case_type params marks vs type_of

  abbrev t6 : Test-F N (Asks N ℕ) (CaseAsks N ℕ) (ArmAsks N ℕ) (ArmAsks N ℕ) (ArmAsks N ℕ) (ArmAsks N ℕ) → ArmAsks N ℕ
  t6 = B.test_step N ℕ bound ty sigs case_type params marks vs type_of

  -- an equation

  no_function : (b : Bool) → as_function (P.stand_of b) ≡ false
  no_function true = refl
  no_function false = refl

  by_signal : (o : Option ℕ) (e : Expr N) (s : Stand) (p : Place) (v : Around) → as_function s ≡ false → M (B.signal_equation N ℕ bound ty sigs case_type params marks vs type_of o (said e) v) → Asked (reads e s p)
  by_signal None e s p v n h = absurd h.0
  by_signal (Some x) e s p v n h =
      (n, inr (inl (meets_right f (B.same_as N ℕ bound ty sigs case_type params marks vs type_of (B.bound_at N ℕ bound ty sigs case_type params marks vs type_of v x) (said e).ty) (said e).whole h)))

  by_stream : (ds : List (Demand ℕ)) (e : Expr N) (s : Stand) (p : Place) → as_function s ≡ false → M (ds ++ (said e).stream) → Asked (reads e s p)
  by_stream ds e s p n h = (n, inl (meets_right f ds (said e).stream h))

  by_either : (c : Bool) (ds es : List (Demand ℕ)) (r : P.Reading N) → (M ds → Asked r) → (M es → Asked r) → M (if c then ds else es) → Asked r
  by_either true ds es r p q h = p h
  by_either false ds es r p q h = q h

  plain_asked : (p : Pat) (e : Expr N) (w : Where) (v : Around) → M (B.plain_equation N ℕ bound ty sigs case_type params marks vs type_of (shape_of p) (said e) v) → Asked (reads e (P.stand_of (P.is_name p)) (P.around w))
  plain_asked p e w v h =
      let s = P.stand_of (P.is_name p) in
      let n = no_function (P.is_name p) in
      let ds = parts_have (B.bound_at N ℕ bound ty sigs case_type params marks vs type_of v) (said e).ty (λ z. z) (shape_of p) in
      by_either (said e).answers_signal (B.signal_equation N ℕ bound ty sigs case_type params marks vs type_of (shape_of p).alone (said e) v) (ds ++ (said e).stream) (reads e s (P.around w))
      (by_signal (shape_of p).alone e s (P.around w) v n) (by_stream ds e s (P.around w) n) h

  stream_read : (e : Expr N) (w : Where) (g : C) → M (said e).stream → All g → All (P.read N (reads e stream (P.around w)) g)
  stream_read e w g h a = read (reads e stream (P.around w)) g (refl, inl h) a

  step1 : (y : Equation-F N T1 T2 T3 T4 T5 T6) → R1 (s1 (lefts_Equation s1 s2 s3 s4 s5 s6 t1 t2 t3 t4 t5 t6 R1 R2 R3 R4 R5 R6 y)) (t1 (rights_Equation s1 s2 s3 s4 s5 s6 t1 t2 t3 t4 t5 t6 R1 R2 R3 R4 R5 R6 y))
  step1 (Equation-F.Plain p e) w g v n h a =
      bound_all (P.names_of p) (P.way_of (P.is_name p) e) w (P.read N (reads e (P.stand_of (P.is_name p)) (P.around w)) g) (read (reads e (P.stand_of (P.is_name p)) (P.around w)) g (plain_asked p e w v h) a)
  step1 (Equation-F.Clock x e) w g v n h a =
      let ds = B.both_any N ℕ bound ty sigs case_type params marks vs type_of (B.bound_at N ℕ bound ty sigs case_type params marks vs type_of v x.0) (said e).ty in
      stream_read e w (P.count_name N g) (meets_right f ds (said e).stream h) a
  step1 (Equation-F.Initial x e) w g v n h a =
      let ds = B.both_any N ℕ bound ty sigs case_type params marks vs type_of (B.bound_at N ℕ bound ty sigs case_type params marks vs type_of v x.0) (said e).ty in
      stream_read e w g (meets_right f ds (said e).stream h) a
  step1 (Equation-F.Emit x e) w g v n h a =
      let ds = B.emitted N ℕ bound ty sigs case_type params marks vs type_of (B.bound_at N ℕ bound ty sigs case_type params marks vs type_of v x.0) (said e).ty in
      stream_read e w g (meets_right f ds (said e).stream h) a
  step1 (Equation-F.Reset qs e) w g v n h a =
      let here = B.is_bool N ℕ bound ty sigs case_type params marks vs type_of (said e) in
      let later = B.ask_all N ℕ (map {A = T1} {B = Asks N ℕ} (λ p. p.1) qs) v n in
      all_asked qs w (P.read N (reads e stream (P.around w)) g) v n (meets_right f here later h) (stream_read e w g (meets_left f here later h).1 a)
  step1 (Equation-F.Match e all) w g v n h a =
      let cs = B.cases_have N ℕ bound ty sigs case_type params marks vs type_of (said e).ty (map {A = T2} {B = CaseAsks N ℕ} (λ p. p.1) all) in
      let later = B.ask_arms N ℕ n 0 (B.arms_of N ℕ (map {A = T2} {B = CaseAsks N ℕ} (λ p. p.1) all)) v (n + 1) in
      cases_asked all g.next 0 w (P.open_match N (P.arm_cases N (map {A = T2} {B = P.AnArm N} (λ p. p.0) all)) (P.read N (reads e stream (P.around w)) g)) n 0 v (n + 1)
      (meets_right f ((said e).stream ++ cs) later h) (stream_read e w g (meets_left f (said e).stream cs (meets_left f ((said e).stream ++ cs) later h)) a)
  step1 (Equation-F.Present all None) w g v n h a = present_asked all None w g v n h a
  step1 (Equation-F.Present all (Some q)) w g v n h a = present_asked all (Some q) w g v n h a
  step1 (Equation-F.Automaton all) w g v n h a =
      states_asked all g.next 0 w (P.open_automaton N (P.state_titles N (map {A = T5} {B = P.AState N} (λ p. p.0) all)) (P.state_targets N (map {A = T5} {B = P.AState N} (λ p. p.0) all)) g) n 0 v (n + 2) h a

  step2 : (y : Arm-F N T1 T2 T3 T4 T5 T6) → R2 (s2 (lefts_Arm s1 s2 s3 s4 s5 s6 t1 t2 t3 t4 t5 t6 R1 R2 R3 R4 R5 R6 y)) (t2 (rights_Arm s1 s2 s3 s4 s5 s6 t1 t2 t3 t4 t5 t6 R1 R2 R3 R4 R5 R6 y))
  step2 y m j w g m' j' v n h a = y.handler.2 m j w g m' j' v n h a

  step3 : (y : Guard-F N T1 T2 T3 T4 T5 T6) → R3 (s3 (lefts_Guard s1 s2 s3 s4 s5 s6 t1 t2 t3 t4 t5 t6 R1 R2 R3 R4 R5 R6 y)) (t3 (rights_Guard s1 s2 s3 s4 s5 s6 t1 t2 t3 t4 t5 t6 R1 R2 R3 R4 R5 R6 y))
  step3 y m j w g m' j' v n h a =
      let here = B.ask_all N ℕ (map {A = T1} {B = Asks N ℕ} (λ p. p.1) y.eqs) (B.in_let m' j' v) n in
      let later = B.is_bool N ℕ bound ty sigs case_type params marks vs type_of (said y.cond) in
      stream_read y.cond (P.in_let m j w) (P.walk_all N (map {A = T1} {B = P.Walk N} (λ p. p.0) y.eqs) (P.in_let m j w) g) (meets_right f here later h).1
      (all_asked y.eqs (P.in_let m j w) g (B.in_let m' j' v) n (meets_left f here later h) a)

  step4 : (y : Handler-F N T1 T2 T3 T4 T5 T6) → R4 (s4 (lefts_Handler s1 s2 s3 s4 s5 s6 t1 t2 t3 t4 t5 t6 R1 R2 R3 R4 R5 R6 y)) (t4 (rights_Handler s1 s2 s3 s4 s5 s6 t1 t2 t3 t4 t5 t6 R1 R2 R3 R4 R5 R6 y))
  step4 y m j w g m' j' v n h a =
      let n' = n + B.names_all N ℕ (map {A = T1} {B = Asks N ℕ} (λ p. p.1) y.locals) in
      let here = B.ask_all N ℕ (map {A = T1} {B = Asks N ℕ} (λ p. p.1) y.locals) (B.in_let m' j' v) n in
      let later = B.ask_all N ℕ (map {A = T1} {B = Asks N ℕ} (λ p. p.1) y.eqs) (B.in_do m' j' v) n' in
      all_asked y.eqs (P.in_do m j w) (P.walk_all N (map {A = T1} {B = P.Walk N} (λ p. p.0) y.locals) (P.in_let m j w) g) (B.in_do m' j' v) n' (meets_right f here later h)
      (all_asked y.locals (P.in_let m j w) g (B.in_let m' j' v) n (meets_left f here later h) a)

  step5 : (y : State-F N T1 T2 T3 T4 T5 T6) → R5 (s5 (lefts_State s1 s2 s3 s4 s5 s6 t1 t2 t3 t4 t5 t6 R1 R2 R3 R4 R5 R6 y)) (t5 (rights_State s1 s2 s3 s4 s5 s6 t1 t2 t3 t4 t5 t6 R1 R2 R3 R4 R5 R6 y))
  step5 y m j w g m' j' v n h a =
      let st = map {A = T3} {B = ArmAsks N ℕ} (λ p. p.1) y.strong in
      let i = y.handler.1.names in
      let one = y.handler.1.at m' j' v n in
      let two = B.ask_guards N ℕ st (m' + 1) j' v (n + i) in
      let three = B.ask_guards N ℕ (map {A = T3} {B = ArmAsks N ℕ} (λ p. p.1) y.weak) m' j' v (n + i + B.names_arms N ℕ st) in
      let h' = meets_left f (one ++ two) three h in
      let g1 = y.handler.0 m j w g in
      let g2 = P.walk_guards N (map {A = T3} {B = P.AGuard N} (λ p. p.0) y.strong) (m + 1) j w g1 in
      guards_asked y.weak m j w g2 m' j' v (n + i + B.names_arms N ℕ st) (meets_right f (one ++ two) three h)
      (guards_asked y.strong (m + 1) j w g1 (m' + 1) j' v (n + i) (meets_right f one two h') (y.handler.2 m j w g m' j' v n (meets_left f one two h') a))

  step6 : (y : Test-F N T1 T2 T3 T4 T5 T6) → R6 (s6 (lefts_Test s1 s2 s3 s4 s5 s6 t1 t2 t3 t4 t5 t6 R1 R2 R3 R4 R5 R6 y)) (t6 (rights_Test s1 s2 s3 s4 s5 s6 t1 t2 t3 t4 t5 t6 R1 R2 R3 R4 R5 R6 y))
  step6 y m j w g m' j' v n h a =
      let here = B.tested N ℕ bound ty sigs case_type params marks vs type_of (B.signal_type N ℕ bound ty sigs case_type params marks vs type_of v y.signal.0) y.pat (B.in_let m' j' v) in
      y.handler.2 m j w (P.bind_pattern N y.pat (P.in_let m j w) g) m' j' v n (meets_right f here (y.handler.1.at m' j' v n) h) (bound_pattern y.pat (P.in_let m j w) g a)

  equation_asked : (q : Equation N) → R1 (P.walk_of N q) (B.asks N ℕ bound ty sigs case_type params marks vs type_of q)
  equation_asked = related_equations s1 s2 s3 s4 s5 s6 t1 t2 t3 t4 t5 t6 R1 R2 R3 R4 R5 R6 step1 step2 step3 step4 step5 step6

  eqs_asked : (qs : List (Equation N)) (w : Where) (g : C) (v : Around) (n : ℕ) → M (B.ask_all N ℕ (map (B.asks N ℕ bound ty sigs case_type params marks vs type_of) qs) v n) → All g → All (P.walk_all N (map (P.walk_of N) qs) w g)
  eqs_asked [] w g v n h a = a
  eqs_asked (q ∷ qs) w g v n h a =
      let b = B.asks N ℕ bound ty sigs case_type params marks vs type_of q in
      let later = B.ask_all N ℕ (map (B.asks N ℕ bound ty sigs case_type params marks vs type_of) qs) v (n + b.names) in
      eqs_asked qs w (P.walk_of N q w g) v (n + b.names) (meets_right f (b.at v n) later h) (equation_asked q w g v n (meets_left f (b.at v n) later h) a)

  -- each expression of a body is asked for its types
  pub body_asked : (first : ℕ) (b : BodyOf N) → M (B.body_asks N ℕ bound ty sigs case_type params marks vs type_of first b) → All (P.contents_of N first b)
  body_asked first b h =
      let later = B.ask_all N ℕ (map (B.asks N ℕ bound ty sigs case_type params marks vs type_of) b.eqs) B.at_top first in
      read (reads b.result whole (P.around P.at_top)) (P.walk_all N (map (P.walk_of N) b.eqs) P.at_top (P.nothing_yet N first)) (refl, inr (inr (meets_left f (said b.result).body later h)))
      (eqs_asked b.eqs P.at_top (P.nothing_yet N first) B.at_top first (meets_right f (said b.result).body later h) tt)

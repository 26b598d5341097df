-- The expressions that the walk meets have the notes of the body, in order.
use Rattle.std.specs.Prelude.{◌≡◌, ℕ, suc, ◌+◌, List, [], ◌∷◌, ◌++◌, map, length, Option, Some, None, option_map, refl}
use Rattle.std.proofs.Common.{ap, sym, ◌∙◌, append_assoc}
use Rattle.ls_ast.specs.declared.tree.Pat.{Pat}
use Rattle.ls_ast.specs.declared.tree.BodyOf.{BodyOf}
use Rattle.ls_ast.specs.declared.tree.Expr.{Expr}
use Rattle.ls_ast.specs.declared.tree.Equation.{Equation}
use Rattle.ls_ast.specs.declared.tree.Equation.TheOpen.{Equation-F, Arm-F, Guard-F, Handler-F, State-F, Test-F}
use Rattle.scope_rules.specs.Places as P
use Rattle.scope_rules.specs.Places.{Place, Where, Way, Stand, Reading, reads, tests, whole, stream}
use Rattle.scope_rules.specs.declared.places.Way.TheVariants as way
use Rattle.tree_notes.specs.Order as Or
use Rattle.tree_notes.specs.Order.{joined, option_joined}
use Rattle.tree_notes.proofs.RelatedEquations.{related_equations, lefts_Equation, lefts_Arm, lefts_Guard, lefts_Handler, lefts_State, lefts_Test, rights_Equation, rights_Arm, rights_Guard, rights_Handler, rights_State, rights_Test}

end_nil : {A : Type 0} (xs : List A) → xs ≡ xs ++ []
end_nil [] = refl
end_nil (x ∷ xs) = ap (λ z. x ∷ z) (end_nil xs)

module _ (N : Type 0) where
  abbrev C : Type 0
  C = P.Contents N

  abbrev L : Type 0
  L = List N

  -- the notes of the expressions among what is read
  abbrev pub read_notes : List (Reading N) → L
  read_notes [] = []
  read_notes (reads e s p ∷ rest) = Or.notes N e ++ read_notes rest
  read_notes (tests x p ∷ rest) = read_notes rest

  read_end : (rs : List (Reading N)) (e : Expr N) (s : Stand) (p : Place) → read_notes (rs ++ reads e s p ∷ []) ≡ read_notes rs ++ Or.notes N e
  read_end [] e s p = sym (end_nil (Or.notes N e))
  read_end (reads d t q ∷ rs) e s p = ap (λ z. Or.notes N d ++ z) (read_end rs e s p) ∙ sym (append_assoc (Or.notes N d) (read_notes rs) (Or.notes N e))
  read_end (tests x q ∷ rs) e s p = read_end rs e s p

  test_end : (rs : List (Reading N)) (x : ℕ) (p : Place) → read_notes (rs ++ tests x p ∷ []) ≡ read_notes rs
  test_end [] x p = refl
  test_end (reads d t q ∷ rs) x p = ap (λ z. Or.notes N d ++ z) (test_end rs x p)
  test_end (tests y q ∷ rs) x p = test_end rs x p

  kept : (xs : List ℕ) (how : Way) (w : Where) (f : C) → (P.bind_all N how w xs f).readings ≡ f.readings
  kept [] how w f = refl
  kept (x ∷ xs) how w f = kept xs how w (P.bind N how w x f)

  -- what a walk reads has these notes
  abbrev Reads : P.Walk N → L → Type 0
  Reads a ns = (w : Where) (f : C) → read_notes (a w f).readings ≡ read_notes f.readings ++ ns

  abbrev InArm : P.InArm N → L → Type 0
  InArm a ns = (m j : ℕ) (w : Where) (f : C) → read_notes (a m j w f).readings ≡ read_notes f.readings ++ ns

  abbrev R2 : P.AnArm N → L → Type 0
  R2 a = InArm a.walk

  abbrev R3 : P.AGuard N → L → Type 0
  R3 a = InArm a.walk

  abbrev R5 : P.AState N → L → Type 0
  R5 a = InArm a.walk

  abbrev R6 : P.ATest N → L → Type 0
  R6 a = InArm a.walk

  abbrev T1 : Type 0
  T1 = (a : P.Walk N) × (b : L) × Reads a b

  abbrev T2 : Type 0
  T2 = (a : P.AnArm N) × (b : L) × R2 a b

  abbrev T3 : Type 0
  T3 = (a : P.AGuard N) × (b : L) × R3 a b

  abbrev T4 : Type 0
  T4 = (a : P.InArm N) × (b : L) × InArm a b

  abbrev T5 : Type 0
  T5 = (a : P.AState N) × (b : L) × R5 a b

  abbrev T6 : Type 0
  T6 = (a : P.ATest N) × (b : L) × R6 a b

  -- one part after another
  then_ : (old mid new xs ys : L) → mid ≡ old ++ xs → new ≡ mid ++ ys → new ≡ old ++ (xs ++ ys)
  then_ old mid new xs ys a b = b ∙ ap (λ z. z ++ ys) a ∙ append_assoc old xs ys

  all_read : (qs : List T1) → Reads (P.walk_all N (map {A = T1} {B = P.Walk N} (λ p. p.0) qs)) (joined (map {A = T1} {B = L} (λ p. p.1) qs))
  all_read [] w f = end_nil (read_notes f.readings)
  all_read (q ∷ qs) w f = then_ (read_notes f.readings) (read_notes (q.0 w f).readings) _ q.1 (joined (map {A = T1} {B = L} (λ p. p.1) qs)) (q.2 w f) (all_read qs w (q.0 w f))

  arms_read : (qs : List T2) (m j : ℕ) → Reads (P.arms_from N m j (P.arm_walks N (map {A = T2} {B = P.AnArm N} (λ p. p.0) qs))) (joined (map {A = T2} {B = L} (λ p. p.1) qs))
  arms_read [] m j w f = end_nil (read_notes f.readings)
  arms_read (q ∷ qs) m j w f = then_ (read_notes f.readings) (read_notes (q.0.walk m j w f).readings) _ q.1 (joined (map {A = T2} {B = L} (λ p. p.1) qs)) (q.2 m j w f) (arms_read qs m (suc j) w (q.0.walk m j w f))

  states_read : (qs : List T5) (m j : ℕ) → Reads (P.arms_from N m j (P.state_walks N (map {A = T5} {B = P.AState N} (λ p. p.0) qs))) (joined (map {A = T5} {B = L} (λ p. p.1) qs))
  states_read [] m j w f = end_nil (read_notes f.readings)
  states_read (q ∷ qs) m j w f = then_ (read_notes f.readings) (read_notes (q.0.walk m j w f).readings) _ q.1 (joined (map {A = T5} {B = L} (λ p. p.1) qs)) (q.2 m j w f) (states_read qs m (suc j) w (q.0.walk m j w f))

  tests_read : (qs : List T6) (m j : ℕ) → Reads (P.arms_from N m j (P.test_walks N (map {A = T6} {B = P.ATest N} (λ p. p.0) qs))) (joined (map {A = T6} {B = L} (λ p. p.1) qs))
  tests_read [] m j w f = end_nil (read_notes f.readings)
  tests_read (q ∷ qs) m j w f = then_ (read_notes f.readings) (read_notes (q.0.walk m j w f).readings) _ q.1 (joined (map {A = T6} {B = L} (λ p. p.1) qs)) (q.2 m j w f) (tests_read qs m (suc j) w (q.0.walk m j w f))

  guards_read : (qs : List T3) → InArm (P.walk_guards N (map {A = T3} {B = P.AGuard N} (λ p. p.0) qs)) (joined (map {A = T3} {B = L} (λ p. p.1) qs))
  guards_read [] m j w f = end_nil (read_notes f.readings)
  guards_read (q ∷ qs) m j w f = then_ (read_notes f.readings) (read_notes (q.0.walk m j w f).readings) _ q.1 (joined (map {A = T3} {B = L} (λ p. p.1) qs)) (q.2 m j w f) (guards_read qs m j w (q.0.walk m j w f))

  signals_read : (xs : List ℕ) (w : Where) (f : C) → read_notes (P.read_tests N xs w f).readings ≡ read_notes f.readings
  signals_read [] w f = refl
  signals_read (x ∷ xs) w f = signals_read xs w (P.read N (tests x (P.around w)) f) ∙ test_end f.readings x (P.around w)

  abbrev s1 : Equation-F N (P.Walk N) (P.AnArm N) (P.AGuard N) (P.InArm N) (P.AState N) (P.ATest N) → P.Walk N
  s1 = P.equation_step N

  abbrev s2 : Arm-F N (P.Walk N) (P.AnArm N) (P.AGuard N) (P.InArm N) (P.AState N) (P.ATest N) → P.AnArm N
  s2 = P.arm_step N

  abbrev s3 : Guard-F N (P.Walk N) (P.AnArm N) (P.AGuard N) (P.InArm N) (P.AState N) (P.ATest N) → P.AGuard N
  s3 = P.guard_step N

  abbrev s4 : Handler-F N (P.Walk N) (P.AnArm N) (P.AGuard N) (P.InArm N) (P.AState N) (P.ATest N) → P.InArm N
  s4 = P.handler_step N

  abbrev s5 : State-F N (P.Walk N) (P.AnArm N) (P.AGuard N) (P.InArm N) (P.AState N) (P.ATest N) → P.AState N
  s5 = P.state_step N

  abbrev s6 : Test-F N (P.Walk N) (P.AnArm N) (P.AGuard N) (P.InArm N) (P.AState N) (P.ATest N) → P.ATest N
  s6 = P.test_step N

  present_read : (all : List T6) (w : Where) (f : C)
      → read_notes (P.arms_from N f.next 0 (P.test_walks N (map {A = T6} {B = P.ATest N} (λ p. p.0) all)) w (P.count_name N (P.read_tests N (P.test_signals N (map {A = T6} {B = P.ATest N} (λ p. p.0) all)) w f))).readings
      ≡ read_notes f.readings ++ joined (map {A = T6} {B = L} (λ p. p.1) all)
  present_read all w f =
      tests_read all f.next 0 w (P.count_name N (P.read_tests N (P.test_signals N (map {A = T6} {B = P.ATest N} (λ p. p.0) all)) w f))
      ∙ ap (λ z. z ++ joined (map {A = T6} {B = L} (λ p. p.1) all)) (signals_read (P.test_signals N (map {A = T6} {B = P.ATest N} (λ p. p.0) all)) w f)

  step1 : (y : Equation-F N T1 T2 T3 T4 T5 T6) → Reads (s1 (lefts_Equation s1 s2 s3 s4 s5 s6 (Or.equation_notes N) (Or.arm_notes N) (Or.guard_notes N) (Or.handler_notes N) (Or.state_notes N) (Or.test_notes N) Reads R2 R3 InArm R5 R6 y)) (Or.equation_notes N (rights_Equation s1 s2 s3 s4 s5 s6 (Or.equation_notes N) (Or.arm_notes N) (Or.guard_notes N) (Or.handler_notes N) (Or.state_notes N) (Or.test_notes N) Reads R2 R3 InArm R5 R6 y))
  step1 (Equation-F.Plain p e) w f =
      ap read_notes (kept (P.names_of p) (P.way_of (P.is_name p) e) w (P.read N (reads e (P.stand_of (P.is_name p)) (P.around w)) f)) ∙ read_end f.readings e (P.stand_of (P.is_name p)) (P.around w)
  step1 (Equation-F.Clock x e) w f = read_end f.readings e stream (P.around w)
  step1 (Equation-F.Initial x e) w f = read_end f.readings e stream (P.around w)
  step1 (Equation-F.Emit x e) w f = read_end f.readings e stream (P.around w)
  step1 (Equation-F.Reset eqs e) w f =
      then_ (read_notes f.readings) (read_notes (P.read N (reads e stream (P.around w)) f).readings) _ (Or.notes N e) (joined (map {A = T1} {B = L} (λ p. p.1) eqs))
      (read_end f.readings e stream (P.around w)) (all_read eqs w (P.read N (reads e stream (P.around w)) f))
  step1 (Equation-F.Match e all) w f =
      let f' : C = P.open_match N (P.arm_cases N (map {A = T2} {B = P.AnArm N} (λ p. p.0) all)) (P.read N (reads e stream (P.around w)) f) in
      then_ (read_notes f.readings) (read_notes f'.readings) _ (Or.notes N e) (joined (map {A = T2} {B = L} (λ p. p.1) all)) (read_end f.readings e stream (P.around w)) (arms_read all f.next 0 w f')
  step1 (Equation-F.Present all None) w f = present_read all w f ∙ ap (λ z. read_notes f.readings ++ z) (end_nil (joined (map {A = T6} {B = L} (λ p. p.1) all)))
  step1 (Equation-F.Present all (Some h)) w f =
      let f' : C = P.arms_from N f.next 0 (P.test_walks N (map {A = T6} {B = P.ATest N} (λ p. p.0) all)) w (P.count_name N (P.read_tests N (P.test_signals N (map {A = T6} {B = P.ATest N} (λ p. p.0) all)) w f)) in
      then_ (read_notes f.readings) (read_notes f'.readings) _ (joined (map {A = T6} {B = L} (λ p. p.1) all)) h.1 (present_read all w f)
      (h.2 f.next (length (map {A = T6} {B = P.ATest N} (λ p. p.0) all)) w f')
  step1 (Equation-F.Automaton all) w f =
      states_read all f.next 0 w (P.open_automaton N (P.state_titles N (map {A = T5} {B = P.AState N} (λ p. p.0) all)) (P.state_targets N (map {A = T5} {B = P.AState N} (λ p. p.0) all)) f)

  step2 : (y : Arm-F N T1 T2 T3 T4 T5 T6) → R2 (s2 (lefts_Arm s1 s2 s3 s4 s5 s6 (Or.equation_notes N) (Or.arm_notes N) (Or.guard_notes N) (Or.handler_notes N) (Or.state_notes N) (Or.test_notes N) Reads R2 R3 InArm R5 R6 y)) (Or.arm_notes N (rights_Arm s1 s2 s3 s4 s5 s6 (Or.equation_notes N) (Or.arm_notes N) (Or.guard_notes N) (Or.handler_notes N) (Or.state_notes N) (Or.test_notes N) Reads R2 R3 InArm R5 R6 y))
  step2 y m j w f = y.handler.2 m j w f

  step3 : (y : Guard-F N T1 T2 T3 T4 T5 T6) → R3 (s3 (lefts_Guard s1 s2 s3 s4 s5 s6 (Or.equation_notes N) (Or.arm_notes N) (Or.guard_notes N) (Or.handler_notes N) (Or.state_notes N) (Or.test_notes N) Reads R2 R3 InArm R5 R6 y)) (Or.guard_notes N (rights_Guard s1 s2 s3 s4 s5 s6 (Or.equation_notes N) (Or.arm_notes N) (Or.guard_notes N) (Or.handler_notes N) (Or.state_notes N) (Or.test_notes N) Reads R2 R3 InArm R5 R6 y))
  step3 y m j w f =
      let f' : C = P.walk_all N (map {A = T1} {B = P.Walk N} (λ p. p.0) y.eqs) (P.in_let m j w) f in
      then_ (read_notes f.readings) (read_notes f'.readings) _ (joined (map {A = T1} {B = L} (λ p. p.1) y.eqs)) (Or.notes N y.cond) (all_read y.eqs (P.in_let m j w) f) (read_end f'.readings y.cond stream (P.around (P.in_let m j w)))

  step4 : (y : Handler-F N T1 T2 T3 T4 T5 T6) → InArm (s4 (lefts_Handler s1 s2 s3 s4 s5 s6 (Or.equation_notes N) (Or.arm_notes N) (Or.guard_notes N) (Or.handler_notes N) (Or.state_notes N) (Or.test_notes N) Reads R2 R3 InArm R5 R6 y)) (Or.handler_notes N (rights_Handler s1 s2 s3 s4 s5 s6 (Or.equation_notes N) (Or.arm_notes N) (Or.guard_notes N) (Or.handler_notes N) (Or.state_notes N) (Or.test_notes N) Reads R2 R3 InArm R5 R6 y))
  step4 y m j w f =
      let f' : C = P.walk_all N (map {A = T1} {B = P.Walk N} (λ p. p.0) y.locals) (P.in_let m j w) f in
      then_ (read_notes f.readings) (read_notes f'.readings) _ (joined (map {A = T1} {B = L} (λ p. p.1) y.locals)) (joined (map {A = T1} {B = L} (λ p. p.1) y.eqs)) (all_read y.locals (P.in_let m j w) f) (all_read y.eqs (P.in_do m j w) f')

  step5 : (y : State-F N T1 T2 T3 T4 T5 T6) → R5 (s5 (lefts_State s1 s2 s3 s4 s5 s6 (Or.equation_notes N) (Or.arm_notes N) (Or.guard_notes N) (Or.handler_notes N) (Or.state_notes N) (Or.test_notes N) Reads R2 R3 InArm R5 R6 y)) (Or.state_notes N (rights_State s1 s2 s3 s4 s5 s6 (Or.equation_notes N) (Or.arm_notes N) (Or.guard_notes N) (Or.handler_notes N) (Or.state_notes N) (Or.test_notes N) Reads R2 R3 InArm R5 R6 y))
  step5 y m j w f =
      let xs : L = joined (map {A = T3} {B = L} (λ p. p.1) y.strong) in
      let ys : L = joined (map {A = T3} {B = L} (λ p. p.1) y.weak) in
      let f1 : C = y.handler.0 m j w f in
      let f2 : C = P.walk_guards N (map {A = T3} {B = P.AGuard N} (λ p. p.0) y.strong) (m + 1) j w f1 in
      then_ (read_notes f.readings) (read_notes f1.readings) _ y.handler.1 (xs ++ ys) (y.handler.2 m j w f)
      (then_ (read_notes f1.readings) (read_notes f2.readings) _ xs ys (guards_read y.strong (m + 1) j w f1) (guards_read y.weak m j w f2))

  tested : (o : Option Pat) (w : Where) (f : C) → (P.bind_pattern N o w f).readings ≡ f.readings
  tested None w f = refl
  tested (Some p) w f = kept (P.names_of p) way.Tested w f

  step6 : (y : Test-F N T1 T2 T3 T4 T5 T6) → R6 (s6 (lefts_Test s1 s2 s3 s4 s5 s6 (Or.equation_notes N) (Or.arm_notes N) (Or.guard_notes N) (Or.handler_notes N) (Or.state_notes N) (Or.test_notes N) Reads R2 R3 InArm R5 R6 y)) (Or.test_notes N (rights_Test s1 s2 s3 s4 s5 s6 (Or.equation_notes N) (Or.arm_notes N) (Or.guard_notes N) (Or.handler_notes N) (Or.state_notes N) (Or.test_notes N) Reads R2 R3 InArm R5 R6 y))
  step6 y m j w f = y.handler.2 m j w (P.bind_pattern N y.pat (P.in_let m j w) f) ∙ ap (λ z. read_notes z ++ y.handler.1) (tested y.pat (P.in_let m j w) f)

  equation_read : (q : Equation N) → Reads (P.walk_of N q) (Or.notes_equation N q)
  equation_read = related_equations s1 s2 s3 s4 s5 s6 (Or.equation_notes N) (Or.arm_notes N) (Or.guard_notes N) (Or.handler_notes N) (Or.state_notes N) (Or.test_notes N) Reads R2 R3 InArm R5 R6 step1 step2 step3 step4 step5 step6

  equations_read : (qs : List (Equation N)) → Reads (P.walk_all N (map (P.walk_of N) qs)) (joined (map (Or.notes_equation N) qs))
  equations_read [] w f = end_nil (read_notes f.readings)
  equations_read (q ∷ qs) w f = then_ (read_notes f.readings) (read_notes (P.walk_of N q w f).readings) _ (Or.notes_equation N q) (joined (map (Or.notes_equation N) qs)) (equation_read q w f) (equations_read qs w (P.walk_of N q w f))

  -- the expressions of a body have its notes, in order
  pub body_read : (first : ℕ) (b : BodyOf N) → read_notes (P.contents_of N first b).readings ≡ Or.notes_body N b
  body_read first b =
      let f' : C = P.walk_all N (map (P.walk_of N) b.eqs) P.at_top (P.nothing_yet N first) in
      then_ [] (read_notes f'.readings) _ (joined (map (Or.notes_equation N) b.eqs)) (Or.notes N b.result) (equations_read b.eqs P.at_top (P.nothing_yet N first)) (read_end f'.readings b.result whole (P.around P.at_top))

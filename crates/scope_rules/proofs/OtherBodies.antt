-- What stands in a body does not go by its notes.
use Rattle.std.specs.Prelude.{◌≡◌, ℕ, suc, ◌+◌, ◌&&◌, Bool, true, false, List, [], ◌∷◌, ◌++◌, map, length, Option, Some, None, option_map, refl}
use Rattle.std.specs.List.{list_all}
use Rattle.std.proofs.Common.{ap, ap₂, sym, ◌∙◌}
use Rattle.ls_ast.specs.declared.tree.BodyOf.{BodyOf}
use Rattle.ls_ast.specs.declared.tree.Pat.{Pat}
use Rattle.ls_ast.specs.declared.tree.Expr.{Expr}
use Rattle.ls_ast.specs.declared.tree.Equation.{Equation, fold-Equation, roll-Equation, out-Equation, fold_out-Equation, out-roll-Equation, map-Equation}
use Rattle.ls_ast.specs.declared.tree.Equation.TheOpen.{Equation-F, Arm-F, Guard-F, Handler-F, State-F, Test-F}
use Rattle.ls_ast.specs.declared.tree.Arm.{Arm}
use Rattle.ls_ast.specs.declared.tree.Guard.{Guard}
use Rattle.ls_ast.specs.declared.tree.Handler.{Handler}
use Rattle.ls_ast.specs.declared.tree.State.{State}
use Rattle.ls_ast.specs.declared.tree.Test.{Test}
use Rattle.scope_rules.specs.Places as P
use Rattle.scope_rules.specs.Places.{Place, Where, Way, Stand, Reading, reads, tests, whole, stream, root, called_at, way_of}
use Rattle.scope_rules.specs.declared.places.Way.TheVariants as way
use Rattle.scope_rules.specs.Faults.{is_plain, is_plain_at}
use Rattle.scope_rules.proofs.OtherNotes.{called_same}
use Rattle.tree_notes.specs.Noted as T
use Rattle.tree_notes.proofs.Refold.{noted}
use Rattle.tree_notes.proofs.RefoldEquations.{re_Equation, Equation_noted, Arm_noted, Guard_noted, Handler_noted, State_noted, Test_noted, noted_Equation, noted_Arm, noted_Guard, noted_Handler, noted_State, noted_Test, related_eqs, lefts_Equation, lefts_Arm, lefts_Guard, lefts_Handler, lefts_State, lefts_Test, rights_Equation, rights_Arm, rights_Guard, rights_Handler, rights_State, rights_Test}

map_end : {A B : Type 0} (f : A → B) (xs : List A) (x : A) → map f xs ++ f x ∷ [] ≡ map f (xs ++ x ∷ [])
map_end f [] x = refl
map_end f (y ∷ xs) x = ap (λ z. f y ∷ z) (map_end f xs x)

module _ {N M : Type 0} (g : N → M) where
  -- the same with other notes

  abbrev pub told : Reading N → Reading M
  told (reads e s p) = reads (noted g e) s p
  told (tests x p) = tests x p

  abbrev pub renoted : P.Contents N → P.Contents M
  renoted f = record { sites = f.sites; starts = f.starts; readings = map told f.readings; arms = f.arms; automata = f.automata; next = f.next }

  abbrev C : Type 0
  C = P.Contents N

  read_same : (r : Reading N) (f : C) → P.read M (told r) (renoted f) ≡ renoted (P.read N r f)
  read_same r f = λ i. record { sites = f.sites; starts = f.starts; readings = map_end told f.readings r i; arms = f.arms; automata = f.automata; next = f.next }

  bind_same : (xs : List ℕ) (how : Way) (w : Where) (f : C) → P.bind_all M how w xs (renoted f) ≡ renoted (P.bind_all N how w xs f)
  bind_same [] how w f = refl
  bind_same (x ∷ xs) how w f = bind_same xs how w (P.bind N how w x f)

  tests_same : (xs : List ℕ) (w : Where) (f : C) → P.read_tests M xs w (renoted f) ≡ renoted (P.read_tests N xs w f)
  tests_same [] w f = refl
  tests_same (x ∷ xs) w f = ap (P.read_tests M xs w) (read_same (tests x (P.around w)) f) ∙ tests_same xs w (P.read N (tests x (P.around w)) f)

  way_same : (b : Bool) (e : Expr N) → way_of b (noted g e) ≡ way_of b e
  way_same true e = called_same g e
  way_same false e = refl

  -- what is alike

  abbrev R1 : P.Walk M → P.Walk N → Type 0
  R1 a b = (w : Where) (f : C) → a w (renoted f) ≡ renoted (b w f)

  abbrev R4 : P.InArm M → P.InArm N → Type 0
  R4 a b = (m j : ℕ) (w : Where) (f : C) → a m j w (renoted f) ≡ renoted (b m j w f)

  record R2 (a : P.AnArm M) (b : P.AnArm N) : Type 0 where
    pub case : a.case ≡ b.case
    pub walk : R4 a.walk b.walk

  record R3 (a : P.AGuard M) (b : P.AGuard N) : Type 0 where
    pub target : a.target ≡ b.target
    pub walk : R4 a.walk b.walk

  record R5 (a : P.AState M) (b : P.AState N) : Type 0 where
    pub title : a.title ≡ b.title
    pub targets : a.targets ≡ b.targets
    pub walk : R4 a.walk b.walk

  record R6 (a : P.ATest M) (b : P.ATest N) : Type 0 where
    pub signal : a.signal ≡ b.signal
    pub walk : R4 a.walk b.walk

  abbrev T1 : Type 0
  T1 = (a : P.Walk M) × (b : P.Walk N) × R1 a b

  abbrev T2 : Type 0
  T2 = (a : P.AnArm M) × (b : P.AnArm N) × R2 a b

  abbrev T3 : Type 0
  T3 = (a : P.AGuard M) × (b : P.AGuard N) × R3 a b

  abbrev T4 : Type 0
  T4 = (a : P.InArm M) × (b : P.InArm N) × R4 a b

  abbrev T5 : Type 0
  T5 = (a : P.AState M) × (b : P.AState N) × R5 a b

  abbrev T6 : Type 0
  T6 = (a : P.ATest M) × (b : P.ATest N) × R6 a b

  abbrev l1 : List T1 → List (P.Walk M)
  l1 = map {A = T1} {B = P.Walk M} (λ p. p.0)

  abbrev r1 : List T1 → List (P.Walk N)
  r1 = map {A = T1} {B = P.Walk N} (λ p. p.1)

  abbrev l2 : List T2 → List (P.AnArm M)
  l2 = map {A = T2} {B = P.AnArm M} (λ p. p.0)

  abbrev r2 : List T2 → List (P.AnArm N)
  r2 = map {A = T2} {B = P.AnArm N} (λ p. p.1)

  abbrev l3 : List T3 → List (P.AGuard M)
  l3 = map {A = T3} {B = P.AGuard M} (λ p. p.0)

  abbrev r3 : List T3 → List (P.AGuard N)
  r3 = map {A = T3} {B = P.AGuard N} (λ p. p.1)

  abbrev l5 : List T5 → List (P.AState M)
  l5 = map {A = T5} {B = P.AState M} (λ p. p.0)

  abbrev r5 : List T5 → List (P.AState N)
  r5 = map {A = T5} {B = P.AState N} (λ p. p.1)

  abbrev l6 : List T6 → List (P.ATest M)
  l6 = map {A = T6} {B = P.ATest M} (λ p. p.0)

  abbrev r6 : List T6 → List (P.ATest N)
  r6 = map {A = T6} {B = P.ATest N} (λ p. p.1)

  all_same : (qs : List T1) → R1 (P.walk_all M (l1 qs)) (P.walk_all N (r1 qs))
  all_same [] w f = refl
  all_same (q ∷ qs) w f = ap (P.walk_all M (l1 qs) w) (q.2 w f) ∙ all_same qs w (q.1 w f)

  arms_same : (qs : List T2) (m j : ℕ) → R1 (P.arms_from M m j (P.arm_walks M (l2 qs))) (P.arms_from N m j (P.arm_walks N (r2 qs)))
  arms_same [] m j w f = refl
  arms_same (q ∷ qs) m j w f = ap (P.arms_from M m (suc j) (P.arm_walks M (l2 qs)) w) (q.2.walk m j w f) ∙ arms_same qs m (suc j) w (q.1.walk m j w f)

  states_same : (qs : List T5) (m j : ℕ) → R1 (P.arms_from M m j (P.state_walks M (l5 qs))) (P.arms_from N m j (P.state_walks N (r5 qs)))
  states_same [] m j w f = refl
  states_same (q ∷ qs) m j w f = ap (P.arms_from M m (suc j) (P.state_walks M (l5 qs)) w) (q.2.walk m j w f) ∙ states_same qs m (suc j) w (q.1.walk m j w f)

  tested_same : (qs : List T6) (m j : ℕ) → R1 (P.arms_from M m j (P.test_walks M (l6 qs))) (P.arms_from N m j (P.test_walks N (r6 qs)))
  tested_same [] m j w f = refl
  tested_same (q ∷ qs) m j w f = ap (P.arms_from M m (suc j) (P.test_walks M (l6 qs)) w) (q.2.walk m j w f) ∙ tested_same qs m (suc j) w (q.1.walk m j w f)

  guards_same : (qs : List T3) → R4 (P.walk_guards M (l3 qs)) (P.walk_guards N (r3 qs))
  guards_same [] m j w f = refl
  guards_same (q ∷ qs) m j w f = ap (P.walk_guards M (l3 qs) m j w) (q.2.walk m j w f) ∙ guards_same qs m j w (q.1.walk m j w f)

  cases_same : (qs : List T2) → P.arm_cases M (l2 qs) ≡ P.arm_cases N (r2 qs)
  cases_same [] = refl
  cases_same (q ∷ qs) = λ i. q.2.case i ∷ cases_same qs i

  signals_same : (qs : List T6) → P.test_signals M (l6 qs) ≡ P.test_signals N (r6 qs)
  signals_same [] = refl
  signals_same (q ∷ qs) = λ i. q.2.signal i ∷ signals_same qs i

  long_same : (qs : List T6) → length (l6 qs) ≡ length (r6 qs)
  long_same [] = refl
  long_same (q ∷ qs) = λ i. suc (long_same qs i)

  titles_same : (qs : List T5) → P.state_titles M (l5 qs) ≡ P.state_titles N (r5 qs)
  titles_same [] = refl
  titles_same (q ∷ qs) = λ i. q.2.title i ∷ titles_same qs i

  aims_same : (qs : List T5) → P.state_targets M (l5 qs) ≡ P.state_targets N (r5 qs)
  aims_same [] = refl
  aims_same (q ∷ qs) = λ i. q.2.targets i ++ aims_same qs i

  targets_same : (qs : List T3) → P.targets M (l3 qs) ≡ P.targets N (r3 qs)
  targets_same [] = refl
  targets_same (q ∷ qs) = λ i. q.2.target i ∷ targets_same qs i

  -- the steps

  abbrev s1 : Equation-F M (P.Walk M) (P.AnArm M) (P.AGuard M) (P.InArm M) (P.AState M) (P.ATest M) → P.Walk M
  s1 = P.equation_step M

  abbrev s2 : Arm-F M (P.Walk M) (P.AnArm M) (P.AGuard M) (P.InArm M) (P.AState M) (P.ATest M) → P.AnArm M
  s2 = P.arm_step M

  abbrev s3 : Guard-F M (P.Walk M) (P.AnArm M) (P.AGuard M) (P.InArm M) (P.AState M) (P.ATest M) → P.AGuard M
  s3 = P.guard_step M

  abbrev s4 : Handler-F M (P.Walk M) (P.AnArm M) (P.AGuard M) (P.InArm M) (P.AState M) (P.ATest M) → P.InArm M
  s4 = P.handler_step M

  abbrev s5 : State-F M (P.Walk M) (P.AnArm M) (P.AGuard M) (P.InArm M) (P.AState M) (P.ATest M) → P.AState M
  s5 = P.state_step M

  abbrev s6 : Test-F M (P.Walk M) (P.AnArm M) (P.AGuard M) (P.InArm M) (P.AState M) (P.ATest M) → P.ATest M
  s6 = P.test_step M

  abbrev t1 : Equation-F N (P.Walk N) (P.AnArm N) (P.AGuard N) (P.InArm N) (P.AState N) (P.ATest N) → P.Walk N
  t1 = P.equation_step N

  abbrev t2 : Arm-F N (P.Walk N) (P.AnArm N) (P.AGuard N) (P.InArm N) (P.AState N) (P.ATest N) → P.AnArm N
  t2 = P.arm_step N

  abbrev t3 : Guard-F N (P.Walk N) (P.AnArm N) (P.AGuard N) (P.InArm N) (P.AState N) (P.ATest N) → P.AGuard N
  t3 = P.guard_step N

  abbrev t4 : Handler-F N (P.Walk N) (P.AnArm N) (P.AGuard N) (P.InArm N) (P.AState N) (P.ATest N) → P.InArm N
  t4 = P.handler_step N

  abbrev t5 : State-F N (P.Walk N) (P.AnArm N) (P.AGuard N) (P.InArm N) (P.AState N) (P.ATest N) → P.AState N
  t5 = P.state_step N

  abbrev t6 : Test-F N (P.Walk N) (P.AnArm N) (P.AGuard N) (P.InArm N) (P.AState N) (P.ATest N) → P.ATest N
  t6 = P.test_step N

  signals_read : (all : List T6) (w : Where) (f : C) → P.read_tests M (P.test_signals M (l6 all)) w (renoted f) ≡ renoted (P.read_tests N (P.test_signals N (r6 all)) w f)
  signals_read all w f = ap (λ xs. P.read_tests M xs w (renoted f)) (signals_same all) ∙ tests_same (P.test_signals N (r6 all)) w f

  present_same : (all : List T6) (w : Where) (f : C)
      → P.arms_from M f.next 0 (P.test_walks M (l6 all)) w (P.count_name M (P.read_tests M (P.test_signals M (l6 all)) w (renoted f)))
      ≡ renoted (P.arms_from N f.next 0 (P.test_walks N (r6 all)) w (P.count_name N (P.read_tests N (P.test_signals N (r6 all)) w f)))
  present_same all w f =
      ap (λ z. P.arms_from M f.next 0 (P.test_walks M (l6 all)) w (P.count_name M z)) (signals_read all w f)
      ∙ tested_same all f.next 0 w (P.count_name N (P.read_tests N (P.test_signals N (r6 all)) w f))

  step1 : (y : Equation-F N T1 T2 T3 T4 T5 T6) → R1 (s1 (lefts_Equation g s1 s2 s3 s4 s5 s6 t1 t2 t3 t4 t5 t6 R1 R2 R3 R4 R5 R6 y)) (t1 (rights_Equation g s1 s2 s3 s4 s5 s6 t1 t2 t3 t4 t5 t6 R1 R2 R3 R4 R5 R6 y))
  step1 (Equation-F.Plain p e) w f =
      (λ i. P.bind_all M (way_same (P.is_name p) e i) w (P.names_of p) (read_same (reads e (P.stand_of (P.is_name p)) (P.around w)) f i))
      ∙ bind_same (P.names_of p) (way_of (P.is_name p) e) w (P.read N (reads e (P.stand_of (P.is_name p)) (P.around w)) f)
  step1 (Equation-F.Clock x e) w f = ap (P.bind M way.Clock w x.0) (read_same (reads e stream (P.around w)) (P.count_name N f))
  step1 (Equation-F.Initial x e) w f = ap (P.start M x.0 w) (read_same (reads e stream (P.around w)) f)
  step1 (Equation-F.Emit x e) w f = ap (P.bind M way.Emitted w x.0) (read_same (reads e stream (P.around w)) f)
  step1 (Equation-F.Reset eqs e) w f = ap (P.walk_all M (l1 eqs) w) (read_same (reads e stream (P.around w)) f) ∙ all_same eqs w (P.read N (reads e stream (P.around w)) f)
  step1 (Equation-F.Match e all) w f =
      (λ i. P.arms_from M f.next 0 (P.arm_walks M (l2 all)) w (P.open_match M (cases_same all i) (read_same (reads e stream (P.around w)) f i)))
      ∙ arms_same all f.next 0 w (P.open_match N (P.arm_cases N (r2 all)) (P.read N (reads e stream (P.around w)) f))
  step1 (Equation-F.Present all None) w f = present_same all w f
  step1 (Equation-F.Present all (Some h)) w f =
      (λ i. h.0 f.next (long_same all i) w (present_same all w f i))
      ∙ h.2 f.next (length (r6 all)) w (P.arms_from N f.next 0 (P.test_walks N (r6 all)) w (P.count_name N (P.read_tests N (P.test_signals N (r6 all)) w f)))
  step1 (Equation-F.Automaton all) w f =
      (λ i. P.arms_from M f.next 0 (P.state_walks M (l5 all)) w (P.open_automaton M (titles_same all i) (aims_same all i) (renoted f)))
      ∙ states_same all f.next 0 w (P.open_automaton N (P.state_titles N (r5 all)) (P.state_targets N (r5 all)) f)

  step2 : (y : Arm-F N T1 T2 T3 T4 T5 T6) → R2 (s2 (lefts_Arm g s1 s2 s3 s4 s5 s6 t1 t2 t3 t4 t5 t6 R1 R2 R3 R4 R5 R6 y)) (t2 (rights_Arm g s1 s2 s3 s4 s5 s6 t1 t2 t3 t4 t5 t6 R1 R2 R3 R4 R5 R6 y))
  step2 y = record { case = refl; walk = λ m j w f. y.handler.2 m j w f }

  step3 : (y : Guard-F N T1 T2 T3 T4 T5 T6) → R3 (s3 (lefts_Guard g s1 s2 s3 s4 s5 s6 t1 t2 t3 t4 t5 t6 R1 R2 R3 R4 R5 R6 y)) (t3 (rights_Guard g s1 s2 s3 s4 s5 s6 t1 t2 t3 t4 t5 t6 R1 R2 R3 R4 R5 R6 y))
  step3 y = record {
    target = refl;
    walk = λ m j w f.
        ap (P.read M (reads (noted g y.cond) stream (P.around (P.in_let m j w)))) (all_same y.eqs (P.in_let m j w) f)
        ∙ read_same (reads y.cond stream (P.around (P.in_let m j w))) (P.walk_all N (r1 y.eqs) (P.in_let m j w) f);
  }

  step4 : (y : Handler-F N T1 T2 T3 T4 T5 T6) → R4 (s4 (lefts_Handler g s1 s2 s3 s4 s5 s6 t1 t2 t3 t4 t5 t6 R1 R2 R3 R4 R5 R6 y)) (t4 (rights_Handler g s1 s2 s3 s4 s5 s6 t1 t2 t3 t4 t5 t6 R1 R2 R3 R4 R5 R6 y))
  step4 y m j w f = ap (P.walk_all M (l1 y.eqs) (P.in_do m j w)) (all_same y.locals (P.in_let m j w) f) ∙ all_same y.eqs (P.in_do m j w) (P.walk_all N (r1 y.locals) (P.in_let m j w) f)

  step5 : (y : State-F N T1 T2 T3 T4 T5 T6) → R5 (s5 (lefts_State g s1 s2 s3 s4 s5 s6 t1 t2 t3 t4 t5 t6 R1 R2 R3 R4 R5 R6 y)) (t5 (rights_State g s1 s2 s3 s4 s5 s6 t1 t2 t3 t4 t5 t6 R1 R2 R3 R4 R5 R6 y))
  step5 y = record {
    title = refl;
    targets = λ i. targets_same y.strong i ++ targets_same y.weak i;
    walk = λ m j w f.
        ap (λ z. P.walk_guards M (l3 y.weak) m j w (P.walk_guards M (l3 y.strong) (m + 1) j w z)) (y.handler.2 m j w f)
        ∙ ap (P.walk_guards M (l3 y.weak) m j w) (guards_same y.strong (m + 1) j w (y.handler.1 m j w f))
        ∙ guards_same y.weak m j w (P.walk_guards N (r3 y.strong) (m + 1) j w (y.handler.1 m j w f));
  }

  pattern_same : (o : Option Pat) (w : Where) (f : C) → P.bind_pattern M o w (renoted f) ≡ renoted (P.bind_pattern N o w f)
  pattern_same None w f = refl
  pattern_same (Some p) w f = bind_same (P.names_of p) way.Tested w f

  step6 : (y : Test-F N T1 T2 T3 T4 T5 T6) → R6 (s6 (lefts_Test g s1 s2 s3 s4 s5 s6 t1 t2 t3 t4 t5 t6 R1 R2 R3 R4 R5 R6 y)) (t6 (rights_Test g s1 s2 s3 s4 s5 s6 t1 t2 t3 t4 t5 t6 R1 R2 R3 R4 R5 R6 y))
  step6 y = record {
    signal = refl;
    walk = λ m j w f. ap (y.handler.0 m j w) (pattern_same y.pat (P.in_let m j w) f) ∙ y.handler.2 m j w (P.bind_pattern N y.pat (P.in_let m j w) f);
  }

  equation_same : (q : Equation N) → R1 (P.walk_of M (noted_Equation g q)) (P.walk_of N q)
  equation_same = related_eqs g s1 s2 s3 s4 s5 s6 t1 t2 t3 t4 t5 t6 R1 R2 R3 R4 R5 R6 step1 step2 step3 step4 step5 step6

  layer_is : (x : Equation-F N (Equation M) (Arm M) (Guard M) (Handler M) (State M) (Test M)) → re_Equation g x ≡ T.equation_notes N M g x
  layer_is (Equation-F.Plain p e) = refl
  layer_is (Equation-F.Clock x e) = refl
  layer_is (Equation-F.Initial x e) = refl
  layer_is (Equation-F.Emit x e) = refl
  layer_is (Equation-F.Reset eqs e) = refl
  layer_is (Equation-F.Match e all) = refl
  layer_is (Equation-F.Present ts other) = refl
  layer_is (Equation-F.Automaton all) = refl

  noted_is : (q : Equation N) → noted_Equation g q ≡ T.in_equation N M g q
  noted_is q = λ i. fold-Equation N (Equation M) (Arm M) (Guard M) (Handler M) (State M) (Test M)
      (λ x. roll-Equation M (layer_is x i)) (Arm_noted g) (Guard_noted g) (Handler_noted g) (State_noted g) (Test_noted g) q

  eqs_same : (qs : List (Equation N)) → R1 (P.walk_all M (map (P.walk_of M) (map (T.in_equation N M g) qs))) (P.walk_all N (map (P.walk_of N) qs))
  eqs_same [] w f = refl
  eqs_same (q ∷ qs) w f =
      ap (λ z. P.walk_all M (map (P.walk_of M) (map (T.in_equation N M g) qs)) w (P.walk_of M z w (renoted f))) (sym (noted_is q))
      ∙ ap (P.walk_all M (map (P.walk_of M) (map (T.in_equation N M g) qs)) w) (equation_same q w f) ∙ eqs_same qs w (P.walk_of N q w f)

  -- what stands in a body with other notes
  pub body_same : (first : ℕ) (b : BodyOf N) → P.contents_of M first (T.in_body N M g b) ≡ renoted (P.contents_of N first b)
  body_same first b =
      ap (P.read M (reads (noted g b.result) whole (P.around P.at_top))) (eqs_same b.eqs P.at_top (P.nothing_yet N first))
      ∙ read_same (reads b.result whole (P.around P.at_top)) (P.walk_all N (map (P.walk_of N) b.eqs) P.at_top (P.nothing_yet N first))

  -- and whether its equations are of the form `pat = e`
  plain_layer : (y : Equation-F N (Equation M) (Arm M) (Guard M) (Handler M) (State M) (Test M)) → is_plain_at (T.equation_notes N M g y) ≡ is_plain_at y
  plain_layer (Equation-F.Plain p e) = refl
  plain_layer (Equation-F.Clock x e) = refl
  plain_layer (Equation-F.Initial x e) = refl
  plain_layer (Equation-F.Emit x e) = refl
  plain_layer (Equation-F.Reset eqs e) = refl
  plain_layer (Equation-F.Match e all) = refl
  plain_layer (Equation-F.Present ts other) = refl
  plain_layer (Equation-F.Automaton all) = refl

  abbrev below : Equation-F N (Equation N) (Arm N) (Guard N) (Handler N) (State N) (Test N) → Equation-F N (Equation M) (Arm M) (Guard M) (Handler M) (State M) (Test M)
  below = map-Equation N (Equation N) (Arm N) (Guard N) (Handler N) (State N) (Test N) (Equation M) (Arm M) (Guard M) (Handler M) (State M) (Test M) (noted_Equation g) (noted_Arm g) (noted_Guard g) (noted_Handler g) (noted_State g) (noted_Test g)

  below_plain : (y : Equation-F N (Equation N) (Arm N) (Guard N) (Handler N) (State N) (Test N)) → is_plain_at (below y) ≡ is_plain_at y
  below_plain (Equation-F.Plain p e) = refl
  below_plain (Equation-F.Clock x e) = refl
  below_plain (Equation-F.Initial x e) = refl
  below_plain (Equation-F.Emit x e) = refl
  below_plain (Equation-F.Reset eqs e) = refl
  below_plain (Equation-F.Match e all) = refl
  below_plain (Equation-F.Present ts None) = refl
  below_plain (Equation-F.Present ts (Some h)) = refl
  below_plain (Equation-F.Automaton all) = refl

  re_plain : (y : Equation-F N (Equation M) (Arm M) (Guard M) (Handler M) (State M) (Test M)) → is_plain_at (re_Equation g y) ≡ is_plain_at y
  re_plain y = ap is_plain_at (layer_is y) ∙ plain_layer y

  plain_same : (q : Equation N) → is_plain (T.in_equation N M g q) ≡ is_plain q
  plain_same q =
      ap is_plain (sym (noted_is q))
      ∙ ap is_plain (fold_out-Equation N (Equation M) (Arm M) (Guard M) (Handler M) (State M) (Test M) (Equation_noted g) (Arm_noted g) (Guard_noted g) (Handler_noted g) (State_noted g) (Test_noted g) q)
      ∙ ap is_plain_at (out-roll-Equation M (re_Equation g (below (out-Equation N q))))
      ∙ re_plain (below (out-Equation N q)) ∙ below_plain (out-Equation N q)

  pub all_plain_same : (qs : List (Equation N)) → list_all is_plain (map (T.in_equation N M g) qs) ≡ list_all is_plain qs
  all_plain_same [] = refl
  all_plain_same (q ∷ qs) = ap₂ (λ a b. a && b) (plain_same q) (all_plain_same qs)

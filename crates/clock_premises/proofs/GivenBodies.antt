-- Where a body is well typed something is given at each Clock position in it.
use Rattle.std.specs.Prelude.{◌≡◌, ℕ, zero, suc, ◌+◌, Bool, true, false, List, [], ◌∷◌, ◌++◌, map, length, slice_get, Option, Some, None, option_map, if◌then◌else◌}
use Rattle.std.proofs.Common.{sym, subst}
use Rattle.ls_ast.specs.declared.tree.Mark.{Mark}
use Rattle.ls_ast.specs.declared.tree.Pat.{Pat}
use Rattle.ls_ast.specs.declared.tree.BodyOf.{BodyOf}
use Rattle.ls_ast.specs.declared.tree.Expr.{Expr}
use Rattle.ls_ast.specs.declared.tree.Equation.{Equation}
use Rattle.ls_ast.specs.declared.tree.Equation.TheOpen.{Equation-F, Arm-F, Guard-F, Handler-F, State-F, Test-F}
use Rattle.ls_terms.specs.declared.types.TypeTerm.{TypeTerm}
use Rattle.ls_sig.specs.Notes.{is_signal}
use Rattle.ls_sig.specs.declared.binder.Binder.{Binder}
use Rattle.ls_sig.specs.declared.binder.Note.{Note}
use Rattle.ls_sig.specs.declared.binder.TypeNote.{TypeNote}
use Rattle.ls_sig.specs.declared.sigs.Sig.{Sig}
use Rattle.ls_places.specs.Places as F
use Rattle.ls_places.specs.Search.{nth}
use Rattle.ls_places.specs.declared.around.Where as around_of
use Rattle.ls_places.specs.declared.places.Variable.{Variable}
use Rattle.ls_places.specs.declared.places.Whole.{Whole}
use Rattle.tree_notes.specs.Each.{Each}
use Rattle.tree_notes.specs.Noted as T
use Rattle.tree_notes.proofs.Refold.{noted}
use Rattle.tree_notes.proofs.RefoldEquations.{noted_Equation, related_eqs, lefts_Equation, lefts_Arm, lefts_Guard, lefts_Handler, lefts_State, lefts_Test, rights_Equation, rights_Arm, rights_Guard, rights_Handler, rights_State, rights_Test}
use Rattle.type_rules.specs.declared.around.Around.{Around}
use Rattle.type_rules.specs.declared.demand.Demand.{Demand}
use Rattle.type_rules.specs.Demands.{Holds}
use Rattle.type_rules.specs.Definitions.{Definition, Obeys, param_names, name_marks, mark_in, names_type, params_named, vars_named}
use Rattle.type_rules.specs.Expressions.{Reading}
use Rattle.type_rules.specs.Bodies as B
use Rattle.type_rules.specs.Bodies.{shape_of, parts_have, Asks, ArmAsks, CaseAsks}
use Rattle.type_rules.proofs.Noted.{noted_is}
use Rattle.clock_rules.specs.declared.scheme.ClockScheme.{ClockScheme}
use Rattle.clock_rules.specs.Facts.{nodes_of, placed}
use Rattle.clock_rules.specs.Fresh.{erase, facts_of}
use Rattle.clock_rules.specs.Layers.{Layer, layers}
use Rattle.clock_rules.specs.Terms.{is_function}
use Rattle.clock_premises.specs.Premises.{FormGiven, AllGiven, SchemesOfSigs}
use Rattle.clock_premises.proofs.Lists.{each_both, each_left, each_right}
use Rattle.clock_premises.proofs.Given.{SameScheme, Four, expr_gives}

scheme_at : (gs : List Sig) (ss : List ClockScheme) → SchemesOfSigs gs ss → (j : ℕ) → SameScheme (slice_get gs j) (nth ss j)
scheme_at [] [] h zero = tt
scheme_at [] [] h (suc j) = tt
scheme_at (g ∷ gs) (s ∷ ss) h zero = (h.0, h.1)
scheme_at (g ∷ gs) (s ∷ ss) h (suc j) = scheme_at gs ss h.2 j
scheme_at [] (s ∷ ss) h j = absurd h
scheme_at (g ∷ gs) [] h j = absurd h

abbrev N : Type 0
N = TypeNote

abbrev X : Type 0
X = TypeTerm

module _ (sigs : List Sig) (schemes : List ClockScheme) (same : SchemesOfSigs sigs schemes) (case_type : ℕ → Option TypeTerm) (params : List ℕ) (marks : ℕ → Mark) (vs : List Variable) (type_of : Binder → Option TypeTerm)
    (first : ℕ) (cases : ℕ → Option ℕ) (signal : Expr Note → Bool) where
  abbrev bound : TypeNote → Binder
  bound n = n.bound

  abbrev ty : TypeNote → TypeTerm
  ty n = n.ty

  abbrev function : Note → Bool
  function n = is_function n.ty

  abbrev G : Type 0
  G = F.Found Note

  abbrev Whole' : Type 0
  Whole' = Whole Note

  abbrev said : Expr TypeNote → Reading TypeTerm
  said = B.said N X bound ty sigs case_type params marks vs type_of

  abbrev GoodIn : Expr Note → Type 0
  GoodIn e = Each (λ (l : Layer Note). FormGiven schemes l.note l.form) (layers Note function e)

  gives : (e : Expr Note) → Four sigs schemes (scheme_at sigs schemes same) function case_type marks (λ k. B.is_signal_at N X bound ty sigs case_type params marks vs type_of (slice_get vs k)) type_of (said (noted erase e)) (layers Note function e)
  gives = expr_gives sigs schemes (scheme_at sigs schemes same) function case_type marks (λ k. B.is_signal_at N X bound ty sigs case_type params marks vs type_of (slice_get vs k)) type_of

  abbrev pub All : G → Type 0
  All g = Each (λ (w : Whole'). GoodIn w.expr) g.exprs

  abbrev M : List (Demand TypeTerm) → Type 0
  M ds = Each Holds ds

  left : (ds es : List (Demand TypeTerm)) → M (ds ++ es) → M ds
  left ds es h = each_left Holds ds es h

  right : (ds es : List (Demand TypeTerm)) → M (ds ++ es) → M es
  right ds es h = each_right Holds ds es h

  read : (e : Expr Note) (p : F.Place) (g : G) → GoodIn e → All g → All (F.reading Note e p g)
  read e p g h a = each_both (λ (w : Whole'). GoodIn w.expr) g.exprs (record { expr = e; place = p } ∷ []) a (h, tt)

  stream_read : (e : Expr Note) (p : F.Place) (g : G) → M (said (noted erase e)).stream → All g → All (F.reading Note e p g)
  stream_read e p g h a = read e p g ((gives e).0 h) a

  -- the relation

  abbrev R1 : Asks N X → F.Walk Note → Type 0
  R1 a b = (u : Around) (n : ℕ) (v : around_of.Where) (g : G) → M (a.at u n) → All g → All (b v g)

  abbrev R4 : ArmAsks N X → F.InArm Note → Type 0
  R4 a b = (m' j' : ℕ) (u : Around) (n m j : ℕ) (v : around_of.Where) (g : G) → M (a.at m' j' u n) → All g → All (b m j v g)

  abbrev R2 : CaseAsks N X → F.AnArm Note → Type 0
  R2 a b = R4 a.arm b.walk

  abbrev R3 : ArmAsks N X → F.AGuard Note → Type 0
  R3 a b = R4 a b.walk

  abbrev R5 : ArmAsks N X → F.AState Note → Type 0
  R5 a b = R4 a b.walk

  abbrev R6 : ArmAsks N X → F.ATest Note → Type 0
  R6 a b = R4 a b.walk

  abbrev T1 : Type 0
  T1 = (a : Asks N X) × (b : F.Walk Note) × R1 a b

  abbrev T2 : Type 0
  T2 = (a : CaseAsks N X) × (b : F.AnArm Note) × R2 a b

  abbrev T3 : Type 0
  T3 = (a : ArmAsks N X) × (b : F.AGuard Note) × R3 a b

  abbrev T4 : Type 0
  T4 = (a : ArmAsks N X) × (b : F.InArm Note) × R4 a b

  abbrev T5 : Type 0
  T5 = (a : ArmAsks N X) × (b : F.AState Note) × R5 a b

  abbrev T6 : Type 0
  T6 = (a : ArmAsks N X) × (b : F.ATest Note) × R6 a b

  all_given : (qs : List T1) (u : Around) (n : ℕ) (v : around_of.Where) (g : G) → M (B.ask_all N X (map {A = T1} {B = Asks N X} (λ p. p.0) qs) u n) → All g → All (F.walk_all Note (map {A = T1} {B = F.Walk Note} (λ p. p.1) qs) v g)
  all_given [] u n v g h a = a
  all_given (q ∷ qs) u n v g h a =
      let later = B.ask_all N X (map {A = T1} {B = Asks N X} (λ p. p.0) qs) u (n + q.0.names) in
      all_given qs u (n + q.0.names) v (q.1 v g) (right (q.0.at u n) later h) (q.2 u n v g (left (q.0.at u n) later h) a)

  cases_given : (qs : List T2) (m' j' : ℕ) (u : Around) (n m j : ℕ) (v : around_of.Where) (g : G) → M (B.ask_arms N X m' j' (B.arms_of N X (map {A = T2} {B = CaseAsks N X} (λ p. p.0) qs)) u n) → All g
      → All (F.arms_from Note m j (F.arm_walks Note (map {A = T2} {B = F.AnArm Note} (λ p. p.1) qs)) v g)
  cases_given [] m' j' u n m j v g h a = a
  cases_given (q ∷ qs) m' j' u n m j v g h a =
      let here = q.0.arm.at m' j' u n in
      let later = B.ask_arms N X m' (suc j') (B.arms_of N X (map {A = T2} {B = CaseAsks N X} (λ p. p.0) qs)) u (n + q.0.arm.names) in
      cases_given qs m' (suc j') u (n + q.0.arm.names) m (suc j) v (q.1.walk m j v g) (right here later h) (q.2 m' j' u n m j v g (left here later h) a)

  states_given : (qs : List T5) (m' j' : ℕ) (u : Around) (n m j : ℕ) (v : around_of.Where) (g : G) → M (B.ask_arms N X m' j' (map {A = T5} {B = ArmAsks N X} (λ p. p.0) qs) u n) → All g
      → All (F.arms_from Note m j (F.state_walks Note (map {A = T5} {B = F.AState Note} (λ p. p.1) qs)) v g)
  states_given [] m' j' u n m j v g h a = a
  states_given (q ∷ qs) m' j' u n m j v g h a =
      let here = q.0.at m' j' u n in
      let later = B.ask_arms N X m' (suc j') (map {A = T5} {B = ArmAsks N X} (λ p. p.0) qs) u (n + q.0.names) in
      states_given qs m' (suc j') u (n + q.0.names) m (suc j) v (q.1.walk m j v g) (right here later h) (q.2 m' j' u n m j v g (left here later h) a)

  guards_given : (qs : List T3) (m' j' : ℕ) (u : Around) (n m j : ℕ) (v : around_of.Where) (g : G) → M (B.ask_guards N X (map {A = T3} {B = ArmAsks N X} (λ p. p.0) qs) m' j' u n) → All g
      → All (F.walk_guards Note (map {A = T3} {B = F.AGuard Note} (λ p. p.1) qs) m j v g)
  guards_given [] m' j' u n m j v g h a = a
  guards_given (q ∷ qs) m' j' u n m j v g h a =
      let here = q.0.at m' j' u n in
      let later = B.ask_guards N X (map {A = T3} {B = ArmAsks N X} (λ p. p.0) qs) m' j' u (n + q.0.names) in
      guards_given qs m' j' u (n + q.0.names) m j v (q.1.walk m j v g) (right here later h) (q.2 m' j' u n m j v g (left here later h) a)

  other_given : (o : Option T4) (m' j' : ℕ) (u : Around) (n m j : ℕ) (v : around_of.Where) (g : G) → M (B.ask_arms N X m' j' (B.other_of N X (option_map {T = T4} {U = ArmAsks N X} (λ p. p.0) o)) u n) → All g
      → All (F.arms_from Note m j (F.option_list (option_map {T = T4} {U = F.InArm Note} (λ p. p.1) o)) v g)
  other_given None m' j' u n m j v g h a = a
  other_given (Some q) m' j' u n m j v g h a = q.2 m' j' u n m j v g (left (q.0.at m' j' u n) [] h) a

  tests_given : (qs : List T6) (o : Option T4) (m' j' : ℕ) (u : Around) (n m j : ℕ) (v : around_of.Where) (g : G)
      → M (B.ask_arms N X m' j' (map {A = T6} {B = ArmAsks N X} (λ p. p.0) qs ++ B.other_of N X (option_map {T = T4} {U = ArmAsks N X} (λ p. p.0) o)) u n) → All g
      → All (F.arms_from Note m j (F.test_walks Note (map {A = T6} {B = F.ATest Note} (λ p. p.1) qs) ++ F.option_list (option_map {T = T4} {U = F.InArm Note} (λ p. p.1) o)) v g)
  tests_given [] o m' j' u n m j v g h a = other_given o m' j' u n m j v g h a
  tests_given (q ∷ qs) o m' j' u n m j v g h a =
      let here = q.0.at m' j' u n in
      let later = B.ask_arms N X m' (suc j') (map {A = T6} {B = ArmAsks N X} (λ p. p.0) qs ++ B.other_of N X (option_map {T = T4} {U = ArmAsks N X} (λ p. p.0) o)) u (n + q.0.names) in
      tests_given qs o m' (suc j') u (n + q.0.names) m (suc j) v (q.1.walk m j v g) (right here later h) (q.2 m' j' u n m j v g (left here later h) a)

  -- the steps

  abbrev s1 : Equation-F N (Asks N X) (CaseAsks N X) (ArmAsks N X) (ArmAsks N X) (ArmAsks N X) (ArmAsks N X) → Asks N X
  s1 = B.equation_step N X bound ty sigs case_type params marks vs type_of

  abbrev s2 : Arm-F N (Asks N X) (CaseAsks N X) (ArmAsks N X) (ArmAsks N X) (ArmAsks N X) (ArmAsks N X) → CaseAsks N X
  s2 = B.arm_step N X bound ty sigs case_type params marks vs type_of

  abbrev s3 : Guard-F N (Asks N X) (CaseAsks N X) (ArmAsks N X) (ArmAsks N X) (ArmAsks N X) (ArmAsks N X) → ArmAsks N X
  s3 = B.guard_step N X bound ty sigs case_type params marks vs type_of

  abbrev s4 : Handler-F N (Asks N X) (CaseAsks N X) (ArmAsks N X) (ArmAsks N X) (ArmAsks N X) (ArmAsks N X) → ArmAsks N X
  s4 = B.handler_step N X bound ty sigs case_type params marks vs type_of

  abbrev s5 : State-F N (Asks N X) (CaseAsks N X) (ArmAsks N X) (ArmAsks N X) (ArmAsks N X) (ArmAsks N X) → ArmAsks N X
  s5 = B.state_step N X bound ty sigs case_type params marks vs type_of

  abbrev s6 : Test-F N (Asks N X) (CaseAsks N X) (ArmAsks N X) (ArmAsks N X) (ArmAsks N X) (ArmAsks N X) → ArmAsks N X
  s6 = B.test_step N X bound ty sigs case_type params marks vs type_of

  abbrev t1 : Equation-F Note (F.Walk Note) (F.AnArm Note) (F.AGuard Note) (F.InArm Note) (F.AState Note) (F.ATest Note) → F.Walk Note
  t1 = F.equation_step Note first cases signal

  abbrev t2 : Arm-F Note (F.Walk Note) (F.AnArm Note) (F.AGuard Note) (F.InArm Note) (F.AState Note) (F.ATest Note) → F.AnArm Note
  t2 = F.arm_step Note first cases signal

  abbrev t3 : Guard-F Note (F.Walk Note) (F.AnArm Note) (F.AGuard Note) (F.InArm Note) (F.AState Note) (F.ATest Note) → F.AGuard Note
  t3 = F.guard_step Note first cases signal

  abbrev t4 : Handler-F Note (F.Walk Note) (F.AnArm Note) (F.AGuard Note) (F.InArm Note) (F.AState Note) (F.ATest Note) → F.InArm Note
  t4 = F.handler_step Note first cases signal

  abbrev t5 : State-F Note (F.Walk Note) (F.AnArm Note) (F.AGuard Note) (F.InArm Note) (F.AState Note) (F.ATest Note) → F.AState Note
  t5 = F.state_step Note first cases signal

  abbrev t6 : Test-F Note (F.Walk Note) (F.AnArm Note) (F.AGuard Note) (F.InArm Note) (F.AState Note) (F.ATest Note) → F.ATest Note
  t6 = F.test_step Note first cases signal

  by_either : (c : Bool) (ds es : List (Demand TypeTerm)) (Q : Type 0) → (M ds → Q) → (M es → Q) → M (if c then ds else es) → Q
  by_either true ds es Q p q h = p h
  by_either false ds es Q p q h = q h

  by_signal : (o : Option ℕ) (e : Expr Note) (u : Around) → M (B.signal_equation N X bound ty sigs case_type params marks vs type_of o (said (noted erase e)) u) → GoodIn e
  by_signal None e u h = absurd h.0
  by_signal (Some x) e u h =
      let r = said (noted erase e) in
      (gives e).2 (right (B.same_as N X bound ty sigs case_type params marks vs type_of (B.bound_at N X bound ty sigs case_type params marks vs type_of u x) r.ty) r.whole h)

  plain_good : (p : Pat) (e : Expr Note) (u : Around) → M (B.plain_equation N X bound ty sigs case_type params marks vs type_of (shape_of p) (said (noted erase e)) u) → GoodIn e
  plain_good p e u h =
      let r = said (noted erase e) in
      let ds = parts_have (B.bound_at N X bound ty sigs case_type params marks vs type_of u) r.ty (λ z. z) (shape_of p) in
      by_either r.answers_signal (B.signal_equation N X bound ty sigs case_type params marks vs type_of (shape_of p).alone r u) (ds ++ r.stream) (GoodIn e) (by_signal (shape_of p).alone e u) (λ q. (gives e).0 (right ds r.stream q)) h

  step1 : (y : Equation-F Note T1 T2 T3 T4 T5 T6) → R1 (s1 (lefts_Equation erase s1 s2 s3 s4 s5 s6 t1 t2 t3 t4 t5 t6 R1 R2 R3 R4 R5 R6 y)) (t1 (rights_Equation erase s1 s2 s3 s4 s5 s6 t1 t2 t3 t4 t5 t6 R1 R2 R3 R4 R5 R6 y))
  step1 (Equation-F.Plain p e) u n v g h a = read e v.place g (plain_good p e u h) a
  step1 (Equation-F.Clock x e) u n v g h a =
      let r = said (noted erase e) in
      stream_read e v.place g (right (B.both_any N X bound ty sigs case_type params marks vs type_of (B.bound_at N X bound ty sigs case_type params marks vs type_of u x.0) r.ty) r.stream h) a
  step1 (Equation-F.Initial x e) u n v g h a =
      let r = said (noted erase e) in
      stream_read e v.place g (right (B.both_any N X bound ty sigs case_type params marks vs type_of (B.bound_at N X bound ty sigs case_type params marks vs type_of u x.0) r.ty) r.stream h) a
  step1 (Equation-F.Emit x e) u n v g h a =
      let r = said (noted erase e) in
      stream_read e v.place g (right (B.emitted N X bound ty sigs case_type params marks vs type_of (B.bound_at N X bound ty sigs case_type params marks vs type_of u x.0) r.ty) r.stream h) a
  step1 (Equation-F.Reset qs e) u n v g h a =
      let here = B.is_bool N X bound ty sigs case_type params marks vs type_of (said (noted erase e)) in
      let later = B.ask_all N X (map {A = T1} {B = Asks N X} (λ p. p.0) qs) u n in
      all_given qs u n (F.in_reset (length g.resets) v) (F.open_reset Note e v g) (right here later h) (stream_read e v.place g (left here later h).1 a)
  step1 (Equation-F.Match e all) u n v g h a =
      let r = said (noted erase e) in
      let cs = B.cases_have N X bound ty sigs case_type params marks vs type_of r.ty (map {A = T2} {B = CaseAsks N X} (λ p. p.0) all) in
      let later = B.ask_arms N X n 0 (B.arms_of N X (map {A = T2} {B = CaseAsks N X} (λ p. p.0) all)) u (n + 1) in
      cases_given all n 0 u (n + 1) (first + length g.names) 0 v (F.open_match Note e (F.arm_cases Note (map {A = T2} {B = F.AnArm Note} (λ p. p.1) all)) v g) (right (r.stream ++ cs) later h)
      (stream_read e v.place g (left r.stream cs (left (r.stream ++ cs) later h)) a)
  step1 (Equation-F.Present all None) u n v g h a = tests_given all None n 0 u (n + 1) (first + length g.names) 0 v (F.open_present Note (F.test_signals Note (map {A = T6} {B = F.ATest Note} (λ p. p.1) all)) v g) h a
  step1 (Equation-F.Present all (Some q)) u n v g h a = tests_given all (Some q) n 0 u (n + 1) (first + length g.names) 0 v (F.open_present Note (F.test_signals Note (map {A = T6} {B = F.ATest Note} (λ p. p.1) all)) v g) h a
  step1 (Equation-F.Automaton all) u n v g h a = states_given all n 0 u (n + 2) (first + length g.names) 0 v (F.open_modes Note v.place g) h a

  step2 : (y : Arm-F Note T1 T2 T3 T4 T5 T6) → R2 (s2 (lefts_Arm erase s1 s2 s3 s4 s5 s6 t1 t2 t3 t4 t5 t6 R1 R2 R3 R4 R5 R6 y)) (t2 (rights_Arm erase s1 s2 s3 s4 s5 s6 t1 t2 t3 t4 t5 t6 R1 R2 R3 R4 R5 R6 y))
  step2 y m' j' u n m j v g h a = y.handler.2 m' j' u n m j v g h a

  step3 : (y : Guard-F Note T1 T2 T3 T4 T5 T6) → R3 (s3 (lefts_Guard erase s1 s2 s3 s4 s5 s6 t1 t2 t3 t4 t5 t6 R1 R2 R3 R4 R5 R6 y)) (t3 (rights_Guard erase s1 s2 s3 s4 s5 s6 t1 t2 t3 t4 t5 t6 R1 R2 R3 R4 R5 R6 y))
  step3 y m' j' u n m j v g h a =
      let here = B.ask_all N X (map {A = T1} {B = Asks N X} (λ p. p.0) y.eqs) (B.in_let m' j' u) n in
      let later = B.is_bool N X bound ty sigs case_type params marks vs type_of (said (noted erase y.cond)) in
      let v' = F.in_let m j v in
      stream_read y.cond v'.place (F.walk_all Note (map {A = T1} {B = F.Walk Note} (λ p. p.1) y.eqs) v' g) (right here later h).1 (all_given y.eqs (B.in_let m' j' u) n v' g (left here later h) a)

  step4 : (y : Handler-F Note T1 T2 T3 T4 T5 T6) → R4 (s4 (lefts_Handler erase s1 s2 s3 s4 s5 s6 t1 t2 t3 t4 t5 t6 R1 R2 R3 R4 R5 R6 y)) (t4 (rights_Handler erase s1 s2 s3 s4 s5 s6 t1 t2 t3 t4 t5 t6 R1 R2 R3 R4 R5 R6 y))
  step4 y m' j' u n m j v g h a =
      let n' = n + B.names_all N X (map {A = T1} {B = Asks N X} (λ p. p.0) y.locals) in
      let here = B.ask_all N X (map {A = T1} {B = Asks N X} (λ p. p.0) y.locals) (B.in_let m' j' u) n in
      let later = B.ask_all N X (map {A = T1} {B = Asks N X} (λ p. p.0) y.eqs) (B.in_do m' j' u) n' in
      all_given y.eqs (B.in_do m' j' u) n' (F.in_do m j v) (F.walk_all Note (map {A = T1} {B = F.Walk Note} (λ p. p.1) y.locals) (F.in_let m j v) g) (right here later h)
      (all_given y.locals (B.in_let m' j' u) n (F.in_let m j v) g (left here later h) a)

  step5 : (y : State-F Note T1 T2 T3 T4 T5 T6) → R5 (s5 (lefts_State erase s1 s2 s3 s4 s5 s6 t1 t2 t3 t4 t5 t6 R1 R2 R3 R4 R5 R6 y)) (t5 (rights_State erase s1 s2 s3 s4 s5 s6 t1 t2 t3 t4 t5 t6 R1 R2 R3 R4 R5 R6 y))
  step5 y m' j' u n m j v g h a =
      let st = map {A = T3} {B = ArmAsks N X} (λ p. p.0) y.strong in
      let i = y.handler.0.names in
      let one = y.handler.0.at m' j' u n in
      let two = B.ask_guards N X st (m' + 1) j' u (n + i) in
      let three = B.ask_guards N X (map {A = T3} {B = ArmAsks N X} (λ p. p.0) y.weak) m' j' u (n + i + B.names_arms N X st) in
      let h' = left (one ++ two) three h in
      let g1 = y.handler.1 m j v g in
      let g2 = F.walk_guards Note (map {A = T3} {B = F.AGuard Note} (λ p. p.1) y.strong) (m + 1) j v g1 in
      guards_given y.weak m' j' u (n + i + B.names_arms N X st) m j v g2 (right (one ++ two) three h)
      (guards_given y.strong (m' + 1) j' u (n + i) (m + 1) j v g1 (right one two h') (y.handler.2 m' j' u n m j v g (left one two h') a))

  pattern_given : (o : Option Pat) (x : ℕ) (v : around_of.Where) (g : G) → All g → All (F.bind_pattern Note x o v g)
  pattern_given None x v g a = a
  pattern_given (Some p) x v g a = a

  step6 : (y : Test-F Note T1 T2 T3 T4 T5 T6) → R6 (s6 (lefts_Test erase s1 s2 s3 s4 s5 s6 t1 t2 t3 t4 t5 t6 R1 R2 R3 R4 R5 R6 y)) (t6 (rights_Test erase s1 s2 s3 s4 s5 s6 t1 t2 t3 t4 t5 t6 R1 R2 R3 R4 R5 R6 y))
  step6 y m' j' u n m j v g h a =
      let here = B.tested N X bound ty sigs case_type params marks vs type_of (B.signal_type N X bound ty sigs case_type params marks vs type_of u y.signal.0) y.pat (B.in_let m' j' u) in
      y.handler.2 m' j' u n m j v (F.bind_pattern Note y.signal.0 y.pat (F.in_let m j v) g) (right here (y.handler.0.at m' j' u n) h) (pattern_given y.pat y.signal.0 (F.in_let m j v) g a)

  equation_given : (q : Equation Note) → R1 (B.asks N X bound ty sigs case_type params marks vs type_of (noted_Equation erase q)) (F.walk_of Note first cases signal q)
  equation_given = related_eqs erase s1 s2 s3 s4 s5 s6 t1 t2 t3 t4 t5 t6 R1 R2 R3 R4 R5 R6 step1 step2 step3 step4 step5 step6

  eqs_given : (qs : List (Equation Note)) (u : Around) (n : ℕ) (v : around_of.Where) (g : G) → M (B.ask_all N X (map (B.asks N X bound ty sigs case_type params marks vs type_of) (map (T.in_equation Note TypeNote erase) qs)) u n) → All g
      → All (F.walk_all Note (map (F.walk_of Note first cases signal) qs) v g)
  eqs_given [] u n v g h a = a
  eqs_given (q ∷ qs) u n v g h a =
      let b = B.asks N X bound ty sigs case_type params marks vs type_of (T.in_equation Note TypeNote erase q) in
      let later = B.ask_all N X (map (B.asks N X bound ty sigs case_type params marks vs type_of) (map (T.in_equation Note TypeNote erase) qs)) u (n + b.names) in
      let mine : R1 b (F.walk_of Note first cases signal q) = subst (λ z. R1 (B.asks N X bound ty sigs case_type params marks vs type_of z) (F.walk_of Note first cases signal q)) (noted_is erase q) (equation_given q) in
      eqs_given qs u (n + b.names) v (F.walk_of Note first cases signal q v g) (right (b.at u n) later h) (mine u n v g (left (b.at u n) later h) a)

  -- a whole body
  pub body_given : (b : BodyOf Note) → M (B.body_asks N X bound ty sigs case_type params marks vs type_of first (T.in_body Note TypeNote erase b)) → All (F.find Note first cases signal b)
  body_given b h =
      let r = said (noted erase b.result) in
      let later = B.ask_all N X (map (B.asks N X bound ty sigs case_type params marks vs type_of) (map (T.in_equation Note TypeNote erase) b.eqs)) B.at_top first in
      read b.result [] (F.walk_body Note first cases signal b.eqs F.at_top (F.nothing Note)) ((gives b.result).3 (left r.body later h)) (eqs_given b.eqs B.at_top first F.at_top (F.nothing Note) (right r.body later h) tt)

-- the nodes of whole expressions

module _ (schemes : List ClockScheme) where
  abbrev function' : Note → Bool
  function' n = is_function n.ty

  abbrev GivenNode : Layer Note × F.Place → Type 0
  GivenNode n = FormGiven schemes n.0.note n.0.form

  placed_given : (p : F.Place) (ls : List (Layer Note)) → Each (λ (l : Layer Note). FormGiven schemes l.note l.form) ls → Each GivenNode (placed Note p ls)
  placed_given p [] h = tt
  placed_given p (l ∷ ls) h = (h.0, placed_given p ls h.1)

  nodes_given : (ws : List (Whole Note)) → Each (λ (w : Whole Note). Each (λ (l : Layer Note). FormGiven schemes l.note l.form) (layers Note function' w.expr)) ws → Each GivenNode (nodes_of Note function' ws)
  nodes_given [] h = tt
  nodes_given (w ∷ ws) h = each_both GivenNode (placed Note w.place (layers Note function' w.expr)) (nodes_of Note function' ws) (placed_given w.place (layers Note function' w.expr) h.0) (nodes_given ws h.1)

  -- of a definition that obeys the rules of types
  pub given_by_types : (sigs : List Sig) (case_type : ℕ → Option TypeTerm) (vs : List Variable) (at : ℕ → TypeTerm) (a : Definition TypeNote) (cases : ℕ → Option ℕ) (notes : List Note) (body : BodyOf Note)
      → SchemesOfSigs sigs schemes → T.in_body Note TypeNote erase body ≡ a.body → Obeys sigs case_type vs at a → AllGiven schemes (facts_of schemes cases a.params a.marks notes body)
  given_by_types sigs case_type vs at a cases notes body same is o =
      let names = param_names a.params in
      let marks = λ (k : ℕ). mark_in (slice_get (name_marks a.params a.marks) k) in
      let types = names_type sigs case_type (length names) (length vs) at in
      let bound' : TypeNote → Binder = λ n. n.bound in
      let ty' : TypeNote → TypeTerm = λ n. n.ty in
      let heads = params_named sigs case_type marks at names 0 ++ vars_named sigs case_type at vs (length names) in
      let firsts = B.params_ask TypeNote TypeTerm bound' ty' sigs case_type names marks vs types a.params a.marks a.notes 0 in
      let inside = B.body_asks TypeNote TypeTerm bound' ty' sigs case_type names marks vs types (length a.params) a.body in
      let signal : Expr Note → Bool = λ e. is_signal e.note.ty in
      let h : Each Holds inside = each_right Holds (heads ++ firsts) inside o in
      nodes_given (F.find Note (length a.params) cases signal body).exprs
      (body_given sigs schemes same case_type names marks vs types (length a.params) cases signal body
      (subst (λ z. Each Holds (B.body_asks TypeNote TypeTerm bound' ty' sigs case_type names marks vs types (length a.params) z)) (sym is) h))

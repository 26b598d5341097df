-- What equations ask goes along with a change of what stands for types.
use Rattle.std.specs.Prelude.{◌≡◌, refl, ℕ, suc, ◌+◌, List, [], ◌∷◌, ◌++◌, map, slice_get, Option, Some, None, if◌then◌else◌}
use Rattle.std.proofs.Common.{ap, ap₂, sym, ◌∙◌}
use Rattle.ls_ast.specs.declared.tree.Mark.{Mark}
use Rattle.ls_ast.specs.declared.tree.Pat.{Pat}
use Rattle.ls_ast.specs.declared.tree.Expr.{Expr}
use Rattle.ls_ast.specs.declared.tree.Equation.{Equation}
use Rattle.ls_ast.specs.declared.tree.Equation.TheOpen.{Equation-F, Arm-F, Guard-F, Handler-F, State-F, Test-F}
use Rattle.ls_terms.specs.declared.types.TypeTerm.{TypeTerm}
use Rattle.ls_terms.specs.declared.types.TypeTerm.TheVariants as t
use Rattle.ls_places.specs.Places.{place_of}
use Rattle.ls_sig.specs.declared.binder.Binder.{Binder}
use Rattle.ls_places.specs.declared.places.Variable.{Variable}
use Rattle.ls_sig.specs.declared.sigs.Sig.{Sig}
use Rattle.type_rules.specs.declared.demand.Demand.{Demand}
use Rattle.type_rules.specs.declared.demand.Demand.TheVariants.{Fits}
use Rattle.type_rules.specs.Demands.{map_fits, map_demands}
use Rattle.type_rules.specs.Expressions.{Reading}
use Rattle.type_rules.specs.declared.around.Around.{Around}
use Rattle.type_rules.specs.Bodies as B
use Rattle.type_rules.specs.Bodies.{Shape, shape_of, in_do, in_let, at_top, fit_of, miss_of, found, missing, parts_have, in_sight, index_of, name_number, Asks, ArmAsks, CaseAsks}
use Rattle.tree_notes.proofs.Refold.{noted}
use Rattle.tree_notes.proofs.RefoldEquations.{noted_Equation, related_eqs, lefts_Equation, lefts_Arm, lefts_Guard, lefts_Handler, lefts_State, lefts_Test, rights_Equation, rights_Arm, rights_Guard, rights_Handler, rights_State, rights_Test}
use Rattle.type_rules.proofs.Natural.{map_option, map_reading, if_same, demands_append, natural}

module _ {X Y : Type 0} (f : X → Y) where
  pub fits_append : (ps qs : List (X × TypeTerm)) → map_fits f (ps ++ qs) ≡ map_fits f ps ++ map_fits f qs
  fits_append [] qs = refl
  fits_append (p ∷ ps) qs = ap (λ zs. (f p.0, p.1) ∷ zs) (fits_append ps qs)

  pub fit_nat : (u : Option X) (v : ℕ) → fit_of (map_option f u) v ≡ map_fits f (fit_of u v)
  fit_nat None v = refl
  fit_nat (Some u) v = refl

  pub miss_nat : (u : Option X) → miss_of (map_option f u) ≡ map_demands f (miss_of u)
  miss_nat None = refl
  miss_nat (Some u) = refl

  module _ (look : ℕ → Option X) (look' : ℕ → Option Y) (same : (x : ℕ) → look' x ≡ map_option f (look x)) where
    found_nat : (ps : List (ℕ × ℕ)) → found look' ps ≡ map_fits f (found look ps)
    found_nat [] = refl
    found_nat (p ∷ ps) = ap₂ (λ us vs. us ++ vs) (ap (λ o. fit_of o p.1) (same p.0) ∙ fit_nat (look p.0) p.1) (found_nat ps) ∙ sym (fits_append (fit_of (look p.0) p.1) (found look ps))

    missing_nat : (ps : List (ℕ × ℕ)) → missing look' ps ≡ map_demands f (missing look ps)
    missing_nat [] = refl
    missing_nat (p ∷ ps) = ap₂ (λ us vs. us ++ vs) (ap miss_of (same p.0) ∙ miss_nat (look p.0)) (missing_nat ps) ∙ sym (demands_append f (miss_of (look p.0)) (missing look ps))

    pub parts_nat : (u : X) (wrap : TypeTerm → TypeTerm) (p : Shape) → parts_have look' (f u) wrap p ≡ map_demands f (parts_have look u wrap p)
    parts_nat u wrap p = ap₂ (λ ps ds. Fits ((f u, wrap (p.scheme 0)) ∷ ps) ∷ ds) (found_nat (p.names 0)) (missing_nat (p.names 0))

module _ {N M X Y : Type 0} (f : X → Y) (g : N → M) where
  abbrev pub map_asks : Asks N X → Asks M Y
  map_asks q = record { names = q.names; at = λ w m. map_demands f (q.at w m) }

  abbrev pub map_arm : ArmAsks N X → ArmAsks M Y
  map_arm q = record { names = q.names; at = λ m j w n. map_demands f (q.at m j w n) }

  abbrev pub map_case : CaseAsks N X → CaseAsks M Y
  map_case c = record { case = c.case; arm = map_arm c.arm }

  abbrev pub all_asks : List (Asks N X) → List (Asks M Y)
  all_asks [] = []
  all_asks (q ∷ qs) = map_asks q ∷ all_asks qs

  abbrev all_arms : List (ArmAsks N X) → List (ArmAsks M Y)
  all_arms [] = []
  all_arms (a ∷ rest) = map_arm a ∷ all_arms rest

  abbrev all_cases : List (CaseAsks N X) → List (CaseAsks M Y)
  all_cases [] = []
  all_cases (c ∷ cs) = map_case c ∷ all_cases cs

  names_all_nat : (qs : List (Asks N X)) → B.names_all M Y (all_asks qs) ≡ B.names_all N X qs
  names_all_nat [] = refl
  names_all_nat (q ∷ qs) = ap (λ n. q.names + n) (names_all_nat qs)

  pub ask_all_nat : (qs : List (Asks N X)) (w : Around) (m : ℕ) → B.ask_all M Y (all_asks qs) w m ≡ map_demands f (B.ask_all N X qs w m)
  ask_all_nat [] w m = refl
  ask_all_nat (q ∷ qs) w m = ap (λ ds. map_demands f (q.at w m) ++ ds) (ask_all_nat qs w (m + q.names)) ∙ sym (demands_append f (q.at w m) (B.ask_all N X qs w (m + q.names)))

  names_arms_nat : (all : List (ArmAsks N X)) → B.names_arms M Y (all_arms all) ≡ B.names_arms N X all
  names_arms_nat [] = refl
  names_arms_nat (a ∷ rest) = ap (λ n. a.names + n) (names_arms_nat rest)

  ask_arms_nat : (m j : ℕ) (all : List (ArmAsks N X)) (w : Around) (n : ℕ) → B.ask_arms M Y m j (all_arms all) w n ≡ map_demands f (B.ask_arms N X m j all w n)
  ask_arms_nat m j [] w n = refl
  ask_arms_nat m j (a ∷ rest) w n =
      ap (λ ds. map_demands f (a.at m j w n) ++ ds) (ask_arms_nat m (suc j) rest w (n + a.names)) ∙ sym (demands_append f (a.at m j w n) (B.ask_arms N X m (suc j) rest w (n + a.names)))

  ask_guards_nat : (all : List (ArmAsks N X)) (m j : ℕ) (w : Around) (n : ℕ) → B.ask_guards M Y (all_arms all) m j w n ≡ map_demands f (B.ask_guards N X all m j w n)
  ask_guards_nat [] m j w n = refl
  ask_guards_nat (a ∷ rest) m j w n =
      ap (λ ds. map_demands f (a.at m j w n) ++ ds) (ask_guards_nat rest m j w (n + a.names)) ∙ sym (demands_append f (a.at m j w n) (B.ask_guards N X rest m j w (n + a.names)))

  arms_of_nat : (cs : List (CaseAsks N X)) → B.arms_of M Y (all_cases cs) ≡ all_arms (B.arms_of N X cs)
  arms_of_nat [] = refl
  arms_of_nat (c ∷ cs) = ap (λ zs. map_arm c.arm ∷ zs) (arms_of_nat cs)

  arms_append : (xs ys : List (ArmAsks N X)) → all_arms (xs ++ ys) ≡ all_arms xs ++ all_arms ys
  arms_append [] ys = refl
  arms_append (x ∷ xs) ys = ap (λ zs. map_arm x ∷ zs) (arms_append xs ys)

  module _ (bound : M → Binder) (ty : N → X) (ty' : M → Y) (same : (n : N) → ty' (g n) ≡ f (ty n))
      (sigs : List Sig) (case_type : ℕ → Option TypeTerm) (params : List ℕ) (marks : ℕ → Mark) (vars : List Variable) (type_of : Binder → Option X) where
    abbrev type_of' : Binder → Option Y
    type_of' x = map_option f (type_of x)

    abbrev bound' : N → Binder
    bound' n = bound (g n)

    abbrev said : Expr N → Reading X
    said = B.said N X bound' ty sigs case_type params marks vars type_of

    said_nat : (e : Expr N) → B.said M Y bound ty' sigs case_type params marks vars type_of' (noted g e) ≡ map_reading f (said e)
    said_nat = natural f g bound ty ty' same sigs case_type marks (λ k. B.is_signal_at M Y bound ty' sigs case_type params marks vars type_of' (slice_get vars k)) type_of

    variable_nat : (o : Option ℕ) → B.variable_type M Y bound ty' sigs case_type params marks vars type_of' o ≡ map_option f (B.variable_type N X bound' ty sigs case_type params marks vars type_of o)
    variable_nat None = refl
    variable_nat (Some k) = refl

    bound_nat : (w : Around) (x : ℕ) → B.bound_at M Y bound ty' sigs case_type params marks vars type_of' w x ≡ map_option f (B.bound_at N X bound' ty sigs case_type params marks vars type_of w x)
    bound_nat w x = variable_nat (place_of x w.list vars 0)

    param_nat : (o : Option ℕ) → B.param_type M Y bound ty' sigs case_type params marks vars type_of' o ≡ map_option f (B.param_type N X bound' ty sigs case_type params marks vars type_of o)
    param_nat None = refl
    param_nat (Some k) = refl

    signal_at_nat : (x : ℕ) (o : Option ℕ) → B.signal_at M Y bound ty' sigs case_type params marks vars type_of' x o ≡ map_option f (B.signal_at N X bound' ty sigs case_type params marks vars type_of x o)
    signal_at_nat x None = param_nat (index_of x params 0)
    signal_at_nat x (Some k) = refl

    signal_nat : (w : Around) (x : ℕ) → B.signal_type M Y bound ty' sigs case_type params marks vars type_of' w x ≡ map_option f (B.signal_type N X bound' ty sigs case_type params marks vars type_of w x)
    signal_nat w x = signal_at_nat x (in_sight x w.here vars 0)

    both_nat : (v : Option X) (u : X) → B.both_any M Y bound ty' sigs case_type params marks vars type_of' (map_option f v) (f u) ≡ map_demands f (B.both_any N X bound' ty sigs case_type params marks vars type_of v u)
    both_nat None u = refl
    both_nat (Some v) u = refl

    same_as_nat : (v : Option X) (u : X) → B.same_as M Y bound ty' sigs case_type params marks vars type_of' (map_option f v) (f u) ≡ map_demands f (B.same_as N X bound' ty sigs case_type params marks vars type_of v u)
    same_as_nat None u = refl
    same_as_nat (Some v) u = refl

    emitted_nat : (v : Option X) (u : X) → B.emitted M Y bound ty' sigs case_type params marks vars type_of' (map_option f v) (f u) ≡ map_demands f (B.emitted N X bound' ty sigs case_type params marks vars type_of v u)
    emitted_nat None u = refl
    emitted_nat (Some v) u = refl

    signal_equation_nat : (o : Option ℕ) (e : Reading X) (w : Around) → B.signal_equation M Y bound ty' sigs case_type params marks vars type_of' o (map_reading f e) w ≡ map_demands f (B.signal_equation N X bound' ty sigs case_type params marks vars type_of o e w)
    signal_equation_nat None e w = refl
    signal_equation_nat (Some x) e w =
        ap (λ ds. ds ++ map_demands f e.whole)
        (ap (λ o. B.same_as M Y bound ty' sigs case_type params marks vars type_of' o (f e.ty)) (bound_nat w x) ∙ same_as_nat (B.bound_at N X bound' ty sigs case_type params marks vars type_of w x) e.ty)
        ∙ sym (demands_append f (B.same_as N X bound' ty sigs case_type params marks vars type_of (B.bound_at N X bound' ty sigs case_type params marks vars type_of w x) e.ty) e.whole)

    plain_nat : (p : Shape) (e : Reading X) (w : Around) → B.plain_equation M Y bound ty' sigs case_type params marks vars type_of' p (map_reading f e) w ≡ map_demands f (B.plain_equation N X bound' ty sigs case_type params marks vars type_of p e w)
    plain_nat p e w =
        ap₂ (λ us vs. if e.answers_signal then us else vs) (signal_equation_nat p.alone e w)
        (ap (λ ds. ds ++ map_demands f e.stream) (parts_nat f (B.bound_at N X bound' ty sigs case_type params marks vars type_of w) (B.bound_at M Y bound ty' sigs case_type params marks vars type_of' w) (bound_nat w) e.ty (λ s. s) p)
        ∙ sym (demands_append f (parts_have (B.bound_at N X bound' ty sigs case_type params marks vars type_of w) e.ty (λ s. s) p) e.stream))
        ∙ sym (if_same (map_demands f) e.answers_signal (B.signal_equation N X bound' ty sigs case_type params marks vars type_of p.alone e w)
        (parts_have (B.bound_at N X bound' ty sigs case_type params marks vars type_of w) e.ty (λ s. s) p ++ e.stream))

    one_case_nat : (u : X) (o : Option TypeTerm) → B.one_case M Y bound ty' sigs case_type params marks vars type_of' (f u) o ≡ map_demands f (B.one_case N X bound' ty sigs case_type params marks vars type_of u o)
    one_case_nat u None = refl
    one_case_nat u (Some s) = refl

    named_case_nat : (u : X) (o : Option ℕ) → B.named_case M Y bound ty' sigs case_type params marks vars type_of' (f u) o ≡ map_demands f (B.named_case N X bound' ty sigs case_type params marks vars type_of u o)
    named_case_nat u None = refl
    named_case_nat u (Some c) = one_case_nat u (case_type c)

    cases_have_nat : (u : X) (cs : List (CaseAsks N X)) → B.cases_have M Y bound ty' sigs case_type params marks vars type_of' (f u) (all_cases cs) ≡ map_demands f (B.cases_have N X bound' ty sigs case_type params marks vars type_of u cs)
    cases_have_nat u [] = refl
    cases_have_nat u (c ∷ cs) = ap₂ (λ us vs. us ++ vs) (named_case_nat u c.case) (cases_have_nat u cs) ∙ sym (demands_append f (B.named_case N X bound' ty sigs case_type params marks vars type_of u c.case) _)

    tested_nat : (v : Option X) (p : Option Pat) (w : Around) → B.tested M Y bound ty' sigs case_type params marks vars type_of' (map_option f v) p w ≡ map_demands f (B.tested N X bound' ty sigs case_type params marks vars type_of v p w)
    tested_nat None None w = refl
    tested_nat None (Some p) w = refl
    tested_nat (Some v) None w = refl
    tested_nat (Some v) (Some p) w = parts_nat f (B.bound_at N X bound' ty sigs case_type params marks vars type_of w) (B.bound_at M Y bound ty' sigs case_type params marks vars type_of' w) (bound_nat w) v t.Signal (shape_of p)

    -- ---- the layers

    abbrev R1 : Asks M Y → Asks N X → Type 0
    R1 a c = a ≡ map_asks c

    abbrev R2 : CaseAsks M Y → CaseAsks N X → Type 0
    R2 a c = a ≡ map_case c

    abbrev R3 : ArmAsks M Y → ArmAsks N X → Type 0
    R3 a c = a ≡ map_arm c

    abbrev T1 : Type 0
    T1 = (a : Asks M Y) × (c : Asks N X) × R1 a c

    abbrev T2 : Type 0
    T2 = (a : CaseAsks M Y) × (c : CaseAsks N X) × R2 a c

    abbrev T3 : Type 0
    T3 = (a : ArmAsks M Y) × (c : ArmAsks N X) × R3 a c

    same_asks : (ps : List T1) → map (λ p. p.0) ps ≡ all_asks (map (λ p. p.1) ps)
    same_asks [] = refl
    same_asks (p ∷ ps) = ap₂ (λ q qs. q ∷ qs) p.2 (same_asks ps)

    same_cases : (ps : List T2) → map (λ p. p.0) ps ≡ all_cases (map (λ p. p.1) ps)
    same_cases [] = refl
    same_cases (p ∷ ps) = ap₂ (λ q qs. q ∷ qs) p.2 (same_cases ps)

    same_arms : (ps : List T3) → map (λ p. p.0) ps ≡ all_arms (map (λ p. p.1) ps)
    same_arms [] = refl
    same_arms (p ∷ ps) = ap₂ (λ q qs. q ∷ qs) p.2 (same_arms ps)

    abbrev s1 : Equation-F M (Asks M Y) (CaseAsks M Y) (ArmAsks M Y) (ArmAsks M Y) (ArmAsks M Y) (ArmAsks M Y) → Asks M Y
    s1 = B.equation_step M Y bound ty' sigs case_type params marks vars type_of'

    abbrev t1 : Equation-F N (Asks N X) (CaseAsks N X) (ArmAsks N X) (ArmAsks N X) (ArmAsks N X) (ArmAsks N X) → Asks N X
    t1 = B.equation_step N X bound' ty sigs case_type params marks vars type_of

    abbrev s2 : Arm-F M (Asks M Y) (CaseAsks M Y) (ArmAsks M Y) (ArmAsks M Y) (ArmAsks M Y) (ArmAsks M Y) → CaseAsks M Y
    s2 = B.arm_step M Y bound ty' sigs case_type params marks vars type_of'

    abbrev t2 : Arm-F N (Asks N X) (CaseAsks N X) (ArmAsks N X) (ArmAsks N X) (ArmAsks N X) (ArmAsks N X) → CaseAsks N X
    t2 = B.arm_step N X bound' ty sigs case_type params marks vars type_of

    abbrev s3 : Guard-F M (Asks M Y) (CaseAsks M Y) (ArmAsks M Y) (ArmAsks M Y) (ArmAsks M Y) (ArmAsks M Y) → ArmAsks M Y
    s3 = B.guard_step M Y bound ty' sigs case_type params marks vars type_of'

    abbrev t3 : Guard-F N (Asks N X) (CaseAsks N X) (ArmAsks N X) (ArmAsks N X) (ArmAsks N X) (ArmAsks N X) → ArmAsks N X
    t3 = B.guard_step N X bound' ty sigs case_type params marks vars type_of

    abbrev s4 : Handler-F M (Asks M Y) (CaseAsks M Y) (ArmAsks M Y) (ArmAsks M Y) (ArmAsks M Y) (ArmAsks M Y) → ArmAsks M Y
    s4 = B.handler_step M Y bound ty' sigs case_type params marks vars type_of'

    abbrev t4 : Handler-F N (Asks N X) (CaseAsks N X) (ArmAsks N X) (ArmAsks N X) (ArmAsks N X) (ArmAsks N X) → ArmAsks N X
    t4 = B.handler_step N X bound' ty sigs case_type params marks vars type_of

    abbrev s5 : State-F M (Asks M Y) (CaseAsks M Y) (ArmAsks M Y) (ArmAsks M Y) (ArmAsks M Y) (ArmAsks M Y) → ArmAsks M Y
    s5 = B.state_step M Y bound ty' sigs case_type params marks vars type_of'

    abbrev t5 : State-F N (Asks N X) (CaseAsks N X) (ArmAsks N X) (ArmAsks N X) (ArmAsks N X) (ArmAsks N X) → ArmAsks N X
    t5 = B.state_step N X bound' ty sigs case_type params marks vars type_of

    abbrev s6 : Test-F M (Asks M Y) (CaseAsks M Y) (ArmAsks M Y) (ArmAsks M Y) (ArmAsks M Y) (ArmAsks M Y) → ArmAsks M Y
    s6 = B.test_step M Y bound ty' sigs case_type params marks vars type_of'

    abbrev t6 : Test-F N (Asks N X) (CaseAsks N X) (ArmAsks N X) (ArmAsks N X) (ArmAsks N X) (ArmAsks N X) → ArmAsks N X
    t6 = B.test_step N X bound' ty sigs case_type params marks vars type_of

    -- two parts one after the other
    both : {ds ds' : List (Demand Y)} (es es' : List (Demand X)) → ds ≡ map_demands f es → ds' ≡ map_demands f es' → ds ++ ds' ≡ map_demands f (es ++ es')
    both es es' p q = ap₂ (λ us vs. us ++ vs) p q ∙ sym (demands_append f es es')

    stream_nat : (e : Expr N) → (B.said M Y bound ty' sigs case_type params marks vars type_of' (noted g e)).stream ≡ map_demands f (said e).stream
    stream_nat e = ap (λ (r : Reading Y). r.stream) (said_nat e)

    ty_nat : (e : Expr N) → (B.said M Y bound ty' sigs case_type params marks vars type_of' (noted g e)).ty ≡ f (said e).ty
    ty_nat e = ap (λ (r : Reading Y). r.ty) (said_nat e)

    bool_nat : (e : Expr N) → B.is_bool M Y bound ty' sigs case_type params marks vars type_of' (B.said M Y bound ty' sigs case_type params marks vars type_of' (noted g e)) ≡ map_demands f (B.is_bool N X bound' ty sigs case_type params marks vars type_of (said e))
    bool_nat e = ap (B.is_bool M Y bound ty' sigs case_type params marks vars type_of') (said_nat e)

    initial_nat : (x : ℕ) (e : Expr N) (w : Around)
        → B.both_any M Y bound ty' sigs case_type params marks vars type_of' (B.bound_at M Y bound ty' sigs case_type params marks vars type_of' w x) (B.said M Y bound ty' sigs case_type params marks vars type_of' (noted g e)).ty
        ++ (B.said M Y bound ty' sigs case_type params marks vars type_of' (noted g e)).stream
        ≡ map_demands f (B.both_any N X bound' ty sigs case_type params marks vars type_of (B.bound_at N X bound' ty sigs case_type params marks vars type_of w x) (said e).ty ++ (said e).stream)
    initial_nat x e w = both _ (said e).stream
        (ap₂ (B.both_any M Y bound ty' sigs case_type params marks vars type_of') (bound_nat w x) (ty_nat e) ∙ both_nat (B.bound_at N X bound' ty sigs case_type params marks vars type_of w x) (said e).ty)
        (stream_nat e)

    emit_nat : (x : ℕ) (e : Expr N) (w : Around)
        → B.emitted M Y bound ty' sigs case_type params marks vars type_of' (B.bound_at M Y bound ty' sigs case_type params marks vars type_of' w x) (B.said M Y bound ty' sigs case_type params marks vars type_of' (noted g e)).ty
        ++ (B.said M Y bound ty' sigs case_type params marks vars type_of' (noted g e)).stream
        ≡ map_demands f (B.emitted N X bound' ty sigs case_type params marks vars type_of (B.bound_at N X bound' ty sigs case_type params marks vars type_of w x) (said e).ty ++ (said e).stream)
    emit_nat x e w = both _ (said e).stream
        (ap₂ (B.emitted M Y bound ty' sigs case_type params marks vars type_of') (bound_nat w x) (ty_nat e) ∙ emitted_nat (B.bound_at N X bound' ty sigs case_type params marks vars type_of w x) (said e).ty)
        (stream_nat e)

    arms_1 : (m : ℕ) (w : Around) (as' : List (ArmAsks M Y)) (qs : List (ArmAsks N X)) (n : ℕ) → as' ≡ all_arms qs → B.ask_arms M Y m 0 as' w n ≡ map_demands f (B.ask_arms N X m 0 qs w n)
    arms_1 m w as' qs n e = ap (λ z. B.ask_arms M Y m 0 z w n) e ∙ ask_arms_nat m 0 qs w n

    names_1 : (as' : List (ArmAsks M Y)) (qs : List (ArmAsks N X)) → as' ≡ all_arms qs → B.names_arms M Y as' ≡ B.names_arms N X qs
    names_1 as' qs e = ap (B.names_arms M Y) e ∙ names_arms_nat qs

    cases_are : (ps : List T2) → B.arms_of M Y (map (λ p. p.0) ps) ≡ all_arms (B.arms_of N X (map (λ p. p.1) ps))
    cases_are ps = ap (B.arms_of M Y) (same_cases ps) ∙ arms_of_nat (map (λ p. p.1) ps)

    tests_none : (ps : List T3) → map (λ p. p.0) ps ++ [] ≡ all_arms (map (λ p. p.1) ps ++ [])
    tests_none ps = ap (λ z. z ++ []) (same_arms ps) ∙ sym (arms_append (map (λ p. p.1) ps) [])

    tests_some : (ps : List T3) (h : T3) → map (λ p. p.0) ps ++ h.0 ∷ [] ≡ all_arms (map (λ p. p.1) ps ++ h.1 ∷ [])
    tests_some ps h = ap₂ (λ z q. z ++ q ∷ []) (same_arms ps) h.2 ∙ sym (arms_append (map (λ p. p.1) ps) (h.1 ∷ []))

    layer1 : (y : Equation-F N T1 T2 T3 T3 T3 T3) → R1 (s1 (lefts_Equation g s1 s2 s3 s4 s5 s6 t1 t2 t3 t4 t5 t6 R1 R2 R3 R3 R3 R3 y)) (t1 (rights_Equation g s1 s2 s3 s4 s5 s6 t1 t2 t3 t4 t5 t6 R1 R2 R3 R3 R3 R3 y))
    layer1 (Equation-F.Plain p e) = λ i. record {
      names = 0;
      at = λ w m. (ap (λ r. B.plain_equation M Y bound ty' sigs case_type params marks vars type_of' (shape_of p) r w) (said_nat e) ∙ plain_nat (shape_of p) (said e) w) i;
    }
    layer1 (Equation-F.Clock x e) = λ i. record { names = 1; at = λ w m. initial_nat x.0 e w i }
    layer1 (Equation-F.Initial x e) = λ i. record { names = 0; at = λ w m. initial_nat x.0 e w i }
    layer1 (Equation-F.Emit x e) = λ i. record { names = 0; at = λ w m. emit_nat x.0 e w i }
    layer1 (Equation-F.Reset ps e) = λ i. record {
      names = (ap (B.names_all M Y) (same_asks ps) ∙ names_all_nat (map (λ p. p.1) ps)) i;
      at = λ w m. both (B.is_bool N X bound' ty sigs case_type params marks vars type_of (said e)) (B.ask_all N X (map (λ p. p.1) ps) w m)
          (bool_nat e) (ap (λ z. B.ask_all M Y z w m) (same_asks ps) ∙ ask_all_nat (map (λ p. p.1) ps) w m) i;
    }
    layer1 (Equation-F.Match e ps) = λ i. record {
      names = 1 + names_1 _ (B.arms_of N X (map (λ p. p.1) ps)) (cases_are ps) i;
      at = λ w m. both ((said e).stream ++ B.cases_have N X bound' ty sigs case_type params marks vars type_of (said e).ty (map (λ p. p.1) ps)) (B.ask_arms N X m 0 (B.arms_of N X (map (λ p. p.1) ps)) w (m + 1))
          (both (said e).stream _ (stream_nat e)
          (ap₂ (B.cases_have M Y bound ty' sigs case_type params marks vars type_of') (ty_nat e) (same_cases ps) ∙ cases_have_nat (said e).ty (map (λ p. p.1) ps)))
          (arms_1 m w _ (B.arms_of N X (map (λ p. p.1) ps)) (m + 1) (cases_are ps)) i;
    }
    layer1 (Equation-F.Present ps None) = λ i. record {
      names = 1 + names_1 _ (map (λ p. p.1) ps ++ []) (tests_none ps) i;
      at = λ w m. arms_1 m w _ (map (λ p. p.1) ps ++ []) (m + 1) (tests_none ps) i;
    }
    layer1 (Equation-F.Present ps (Some h)) = λ i. record {
      names = 1 + names_1 _ (map (λ p. p.1) ps ++ h.1 ∷ []) (tests_some ps h) i;
      at = λ w m. arms_1 m w _ (map (λ p. p.1) ps ++ h.1 ∷ []) (m + 1) (tests_some ps h) i;
    }
    layer1 (Equation-F.Automaton ps) = λ i. record {
      names = 2 + names_1 _ (map (λ p. p.1) ps) (same_arms ps) i;
      at = λ w m. arms_1 m w _ (map (λ p. p.1) ps) (m + 2) (same_arms ps) i;
    }

    layer2 : (y : Arm-F N T1 T2 T3 T3 T3 T3) → R2 (s2 (lefts_Arm g s1 s2 s3 s4 s5 s6 t1 t2 t3 t4 t5 t6 R1 R2 R3 R3 R3 R3 y)) (t2 (rights_Arm g s1 s2 s3 s4 s5 s6 t1 t2 t3 t4 t5 t6 R1 R2 R3 R3 R3 R3 y))
    layer2 y = λ i. record { case = name_number y.case; arm = y.handler.2 i }

    layer3 : (y : Guard-F N T1 T2 T3 T3 T3 T3) → R3 (s3 (lefts_Guard g s1 s2 s3 s4 s5 s6 t1 t2 t3 t4 t5 t6 R1 R2 R3 R3 R3 R3 y)) (t3 (rights_Guard g s1 s2 s3 s4 s5 s6 t1 t2 t3 t4 t5 t6 R1 R2 R3 R3 R3 R3 y))
    layer3 y = λ i. record {
      names = (ap (B.names_all M Y) (same_asks y.eqs) ∙ names_all_nat (map (λ p. p.1) y.eqs)) i;
      at = λ m j w n. both (B.ask_all N X (map (λ p. p.1) y.eqs) (in_let m j w) n) (B.is_bool N X bound' ty sigs case_type params marks vars type_of (said y.cond))
          (ap (λ z. B.ask_all M Y z (in_let m j w) n) (same_asks y.eqs) ∙ ask_all_nat (map (λ p. p.1) y.eqs) (in_let m j w) n) (bool_nat y.cond) i;
    }

    layer4 : (y : Handler-F N T1 T2 T3 T3 T3 T3) → R3 (s4 (lefts_Handler g s1 s2 s3 s4 s5 s6 t1 t2 t3 t4 t5 t6 R1 R2 R3 R3 R3 R3 y)) (t4 (rights_Handler g s1 s2 s3 s4 s5 s6 t1 t2 t3 t4 t5 t6 R1 R2 R3 R3 R3 R3 y))
    layer4 y =
        let l = same_asks y.locals in let d = same_asks y.eqs in
        let ls = map (λ p. p.1) y.locals in let ds = map (λ p. p.1) y.eqs in
        let n1 = ap (B.names_all M Y) l ∙ names_all_nat ls in let n2 = ap (B.names_all M Y) d ∙ names_all_nat ds in
        λ i. record {
          names = n1 i + n2 i;
          at = λ m j w n. both (B.ask_all N X ls (in_let m j w) n) (B.ask_all N X ds (in_do m j w) (n + B.names_all N X ls))
              (ap (λ z. B.ask_all M Y z (in_let m j w) n) l ∙ ask_all_nat ls (in_let m j w) n)
              (ap₂ (λ z k. B.ask_all M Y z (in_do m j w) (n + k)) d n1 ∙ ask_all_nat ds (in_do m j w) (n + B.names_all N X ls)) i;
        }

    layer5 : (y : State-F N T1 T2 T3 T3 T3 T3) → R3 (s5 (lefts_State g s1 s2 s3 s4 s5 s6 t1 t2 t3 t4 t5 t6 R1 R2 R3 R3 R3 R3 y)) (t5 (rights_State g s1 s2 s3 s4 s5 s6 t1 t2 t3 t4 t5 t6 R1 R2 R3 R3 R3 R3 y))
    layer5 y =
        let st = same_arms y.strong in let wk = same_arms y.weak in
        let ss = map (λ p. p.1) y.strong in let ws = map (λ p. p.1) y.weak in
        let h = ap (λ (a : ArmAsks M Y). a.names) y.handler.2 in
        let n1 = names_1 (map (λ p. p.0) y.strong) ss st in let n2 = names_1 (map (λ p. p.0) y.weak) ws wk in
        λ i. record {
          names = h i + n1 i + n2 i;
          at = λ m j w n. both (y.handler.1.at m j w n ++ B.ask_guards N X ss (m + 1) j w (n + y.handler.1.names)) (B.ask_guards N X ws m j w (n + y.handler.1.names + B.names_arms N X ss))
              (both (y.handler.1.at m j w n) (B.ask_guards N X ss (m + 1) j w (n + y.handler.1.names))
              (ap (λ (a : ArmAsks M Y). a.at m j w n) y.handler.2)
              (ap₂ (λ z k. B.ask_guards M Y z (m + 1) j w (n + k)) st h ∙ ask_guards_nat ss (m + 1) j w (n + y.handler.1.names)))
              ((λ i. B.ask_guards M Y (wk i) m j w (n + h i + n1 i)) ∙ ask_guards_nat ws m j w (n + y.handler.1.names + B.names_arms N X ss)) i;
        }

    layer6 : (y : Test-F N T1 T2 T3 T3 T3 T3) → R3 (s6 (lefts_Test g s1 s2 s3 s4 s5 s6 t1 t2 t3 t4 t5 t6 R1 R2 R3 R3 R3 R3 y)) (t6 (rights_Test g s1 s2 s3 s4 s5 s6 t1 t2 t3 t4 t5 t6 R1 R2 R3 R3 R3 R3 y))
    layer6 y = λ i. record {
      names = (ap (λ (a : ArmAsks M Y). a.names) y.handler.2) i;
      at = λ m j w n. both (B.tested N X bound' ty sigs case_type params marks vars type_of (B.signal_type N X bound' ty sigs case_type params marks vars type_of w y.signal.0) y.pat (in_let m j w)) (y.handler.1.at m j w n)
          (ap (λ o. B.tested M Y bound ty' sigs case_type params marks vars type_of' o y.pat (in_let m j w)) (signal_nat w y.signal.0) ∙ tested_nat (B.signal_type N X bound' ty sigs case_type params marks vars type_of w y.signal.0) y.pat (in_let m j w))
          (ap (λ (a : ArmAsks M Y). a.at m j w n) y.handler.2) i;
    }

    -- an equation with other notes asks the same of the other types
    pub natural_equation : (q : Equation N) → B.asks M Y bound ty' sigs case_type params marks vars type_of' (noted_Equation g q) ≡ map_asks (B.asks N X bound' ty sigs case_type params marks vars type_of q)
    natural_equation = related_eqs g s1 s2 s3 s4 s5 s6 t1 t2 t3 t4 t5 t6 R1 R2 R3 R3 R3 R3 layer1 layer2 layer3 layer4 layer5 layer6

-- What equations, blocks and whole definitions ask of the types of their direct parts.
use Rattle.std.specs.Prelude.{ℕ, suc, ◌+◌, ◌==◌, ◌&&◌, Bool, true, false, List, [], ◌∷◌, ◌++◌, map, length, slice_get, Option, Some, None, if◌then◌else◌}
use Rattle.ls_base.specs.declared.Name.{Name}
use Rattle.ls_ast.specs.declared.tree.Mark.{Mark}
use Rattle.ls_ast.specs.declared.tree.Mark.TheVariants as mark
use Rattle.ls_ast.specs.declared.tree.Pat.{Pat, fold-Pat}
use Rattle.ls_ast.specs.declared.tree.Pat.TheOpen.{Pat-F}
use Rattle.ls_ast.specs.declared.tree.Expr.{Expr}
use Rattle.ls_ast.specs.declared.tree.Equation.{Equation, fold-Equation}
use Rattle.ls_ast.specs.declared.tree.Equation.TheOpen.{Equation-F, Arm-F, Guard-F, Handler-F, State-F, Test-F}
use Rattle.ls_ast.specs.declared.tree.BodyOf.{BodyOf}
use Rattle.ls_terms.specs.declared.types.TypeTerm.{TypeTerm}
use Rattle.ls_terms.specs.declared.types.TypeTerm.TheVariants as t
use Rattle.ls_places.specs.Places.{InnerArm, place_of}
use Rattle.ls_sig.specs.declared.binder.Binder.{Binder}
use Rattle.ls_sig.specs.declared.binder.Binder.TheVariants as b
use Rattle.ls_places.specs.declared.places.Variable.{Variable}
use Rattle.ls_sig.specs.declared.sigs.Sig.{Sig}
use Rattle.type_rules.specs.declared.around.Around.{Around}
use Rattle.type_rules.specs.declared.demand.Demand.{Demand}
use Rattle.type_rules.specs.declared.demand.Demand.TheVariants.{Fits, Equal, Never}
use Rattle.type_rules.specs.Expressions.{any, Reading, reading_of}

-- ---- patterns

-- a pattern as a scheme: a variable for each name and each `_`, numbered from a number on, and which name has which
pub record Shape : Type 0 where
  pub leaves : ℕ
  pub scheme : ℕ → TypeTerm
  pub names : ℕ → List (ℕ × ℕ)
  -- the name, where the pattern is one
  pub alone : Option ℕ

abbrev pub leaves_of : List Shape → ℕ
leaves_of [] = 0
leaves_of (p ∷ ps) = p.leaves + leaves_of ps

abbrev pub schemes_of : List Shape → ℕ → List TypeTerm
schemes_of [] n = []
schemes_of (p ∷ ps) n = p.scheme n ∷ schemes_of ps (n + p.leaves)

abbrev pub names_in : List Shape → ℕ → List (ℕ × ℕ)
names_in [] n = []
names_in (p ∷ ps) n = p.names n ++ names_in ps (n + p.leaves)

abbrev pub shape_step : Pat-F Shape → Shape
shape_step Pat-F.Any = record { leaves = 1; scheme = λ n. t.Var n; names = λ n. []; alone = None }
shape_step Pat-F.Unit = record { leaves = 0; scheme = λ n. t.Unit; names = λ n. []; alone = None }
shape_step (Pat-F.Var x) = record { leaves = 1; scheme = λ n. t.Var n; names = λ n. (x.0, n) ∷ []; alone = Some x.0 }
shape_step (Pat-F.Tuple ps) = record { leaves = leaves_of ps; scheme = λ n. t.Tuple (schemes_of ps n); names = λ n. names_in ps n; alone = None }

abbrev pub shape_of : Pat → Shape
shape_of = fold-Pat Shape shape_step

abbrev pub fit_of : {X : Type 0} → Option X → ℕ → List (X × TypeTerm)
fit_of None v = []
fit_of (Some u) v = (u, t.Var v) ∷ []

abbrev pub miss_of : {X : Type 0} → Option X → List (Demand X)
miss_of None = Never ∷ []
miss_of (Some u) = []

abbrev pub name_number : Option Name → Option ℕ
name_number None = None
name_number (Some c) = Some c.0

module _ {X : Type 0} (look : ℕ → Option X) where
  abbrev pub found : List (ℕ × ℕ) → List (X × TypeTerm)
  found [] = []
  found (p ∷ ps) = fit_of (look p.0) p.1 ++ found ps

  abbrev pub missing : List (ℕ × ℕ) → List (Demand X)
  missing [] = []
  missing (p ∷ ps) = miss_of (look p.0) ++ missing ps

  -- the names of the pattern have the parts of the type, which is in the scheme
  abbrev pub parts_have : X → (TypeTerm → TypeTerm) → Shape → List (Demand X)
  parts_have u wrap p = Fits ((u, wrap (p.scheme 0)) ∷ found (p.names 0)) ∷ missing (p.names 0)

-- ---- where an equation stands

abbrev pub at_top : Around
at_top = record { here = []; list = [] }

abbrev pub in_do : ℕ → ℕ → Around → Around
in_do m j w = record { here = w.here ++ (m, j) ∷ []; list = w.list }

abbrev pub in_let : ℕ → ℕ → Around → Around
in_let m j w = record { here = w.here ++ (m, j) ∷ []; list = w.here ++ (m, j) ∷ [] }

-- whether the arms around a list are among the outermost arms around a place
abbrev pub begins : List InnerArm → List InnerArm → Bool
begins p [] = true
begins [] (a ∷ q) = false
begins (c ∷ p) (a ∷ q) = c.0 == a.0 && (c.1 == a.1 && begins p q)

-- the number of the variable of this name that is in sight
abbrev pub in_sight : ℕ → List InnerArm → List Variable → ℕ → Option ℕ
in_sight x p [] k = None
in_sight x p (v ∷ vs) k = if v.name == x && begins p v.list then Some k else in_sight x p vs (suc k)

abbrev pub index_of : ℕ → List ℕ → ℕ → Option ℕ
index_of x [] k = None
index_of x (y ∷ ys) k = if y == x then Some k else index_of x ys (suc k)

-- ---- equations

module _ (N X : Type 0) where
  -- how many clock names an equation brings, and what it asks, from the number of its first clock name on
  pub record Asks : Type 0 where
    pub names : ℕ
    pub at : Around → ℕ → List (Demand X)

  -- the same for an arm, given the clock name of its block and its number
  pub record ArmAsks : Type 0 where
    pub names : ℕ
    pub at : ℕ → ℕ → Around → ℕ → List (Demand X)

  pub record CaseAsks : Type 0 where
    pub case : Option ℕ
    pub arm : ArmAsks

  abbrev pub names_all : List Asks → ℕ
  names_all [] = 0
  names_all (q ∷ qs) = q.names + names_all qs

  abbrev pub ask_all : List Asks → Around → ℕ → List (Demand X)
  ask_all [] w m = []
  ask_all (q ∷ qs) w m = q.at w m ++ ask_all qs w (m + q.names)

  abbrev pub names_arms : List ArmAsks → ℕ
  names_arms [] = 0
  names_arms (a ∷ rest) = a.names + names_arms rest

  abbrev pub ask_arms : ℕ → ℕ → List ArmAsks → Around → ℕ → List (Demand X)
  ask_arms m j [] w n = []
  ask_arms m j (a ∷ rest) w n = a.at m j w n ++ ask_arms m (suc j) rest w (n + a.names)

  abbrev pub arms_of : List CaseAsks → List ArmAsks
  arms_of [] = []
  arms_of (c ∷ cs) = c.arm ∷ arms_of cs

  abbrev pub other_of : Option ArmAsks → List ArmAsks
  other_of None = []
  other_of (Some a) = a ∷ []

  -- the guards of a state are all at one arm
  abbrev pub ask_guards : List ArmAsks → ℕ → ℕ → Around → ℕ → List (Demand X)
  ask_guards [] m j w n = []
  ask_guards (g ∷ gs) m j w n = g.at m j w n ++ ask_guards gs m j w (n + g.names)

  module _ (bound : N → Binder) (ty : N → X) (sigs : List Sig) (case_type : ℕ → Option TypeTerm) (params : List ℕ) (marks : ℕ → Mark) (vars : List Variable) (type_of : Binder → Option X) where
    abbrev pub is_signal_at : Option Variable → Bool
    is_signal_at None = false
    is_signal_at (Some v) = v.signal

    abbrev pub said : Expr N → Reading X
    said = reading_of bound ty sigs case_type marks (λ k. is_signal_at (slice_get vars k)) type_of

    abbrev pub variable_type : Option ℕ → Option X
    variable_type None = None
    variable_type (Some k) = type_of (b.Var k)

    -- the type of a name that the list binds
    abbrev pub bound_at : Around → ℕ → Option X
    bound_at w x = variable_type (place_of x w.list vars 0)

    abbrev pub param_type : Option ℕ → Option X
    param_type None = None
    param_type (Some k) = type_of (b.Param k)

    abbrev pub signal_at : ℕ → Option ℕ → Option X
    signal_at x (Some k) = type_of (b.Var k)
    signal_at x None = param_type (index_of x params 0)

    -- the type of a signal in sight
    abbrev pub signal_type : Around → ℕ → Option X
    signal_type w x = signal_at x (in_sight x w.here vars 0)

    abbrev pub both_any : Option X → X → List (Demand X)
    both_any None u = Never ∷ []
    both_any (Some v) u = Fits ((v, any) ∷ (u, any) ∷ []) ∷ []

    abbrev pub same_as : Option X → X → List (Demand X)
    same_as None u = Never ∷ []
    same_as (Some v) u = Equal v u ∷ []

    -- a signal that an equation defines by a call
    abbrev pub signal_equation : Option ℕ → Reading X → Around → List (Demand X)
    signal_equation None e w = Never ∷ []
    signal_equation (Some x) e w = same_as (bound_at w x) e.ty ++ e.whole

    abbrev pub plain_equation : Shape → Reading X → Around → List (Demand X)
    plain_equation p e w = if e.answers_signal then signal_equation p.alone e w else parts_have (bound_at w) e.ty (λ s. s) p ++ e.stream

    abbrev pub emitted : Option X → X → List (Demand X)
    emitted None u = Never ∷ []
    emitted (Some s) u = Fits ((s, t.Signal any) ∷ (u, any) ∷ []) ∷ []

    abbrev pub is_bool : Reading X → List (Demand X)
    is_bool e = Fits ((e.ty, t.Bool) ∷ []) ∷ e.stream

    abbrev pub one_case : X → Option TypeTerm → List (Demand X)
    one_case u None = Never ∷ []
    one_case u (Some s) = Fits ((u, s) ∷ []) ∷ []

    abbrev pub named_case : X → Option ℕ → List (Demand X)
    named_case u None = []
    named_case u (Some c) = one_case u (case_type c)

    -- the scrutinee has the type of each constructor
    abbrev pub cases_have : X → List CaseAsks → List (Demand X)
    cases_have u [] = []
    cases_have u (c ∷ cs) = named_case u c.case ++ cases_have u cs

    abbrev pub tested : Option X → Option Pat → Around → List (Demand X)
    tested None p w = Never ∷ []
    tested (Some s) None w = Fits ((s, t.Signal any) ∷ []) ∷ []
    tested (Some s) (Some p) w = parts_have (bound_at w) s t.Signal (shape_of p)

    abbrev pub equation_step : Equation-F N Asks CaseAsks ArmAsks ArmAsks ArmAsks ArmAsks → Asks
    equation_step (Equation-F.Plain p e) = record { names = 0; at = λ w m. plain_equation (shape_of p) (said e) w }
    equation_step (Equation-F.Clock x e) = record { names = 1; at = λ w m. both_any (bound_at w x.0) (said e).ty ++ (said e).stream }
    equation_step (Equation-F.Initial x e) = record { names = 0; at = λ w m. both_any (bound_at w x.0) (said e).ty ++ (said e).stream }
    equation_step (Equation-F.Emit x e) = record { names = 0; at = λ w m. emitted (bound_at w x.0) (said e).ty ++ (said e).stream }
    equation_step (Equation-F.Reset eqs e) = record { names = names_all eqs; at = λ w m. is_bool (said e) ++ ask_all eqs w m }
    equation_step (Equation-F.Match e all) = record {
      names = 1 + names_arms (arms_of all);
      at = λ w m. (said e).stream ++ cases_have (said e).ty all ++ ask_arms m 0 (arms_of all) w (m + 1);
    }
    equation_step (Equation-F.Present tests other) = record {
      names = 1 + names_arms (tests ++ other_of other);
      at = λ w m. ask_arms m 0 (tests ++ other_of other) w (m + 1);
    }
    equation_step (Equation-F.Automaton all) = record { names = 2 + names_arms all; at = λ w m. ask_arms m 0 all w (m + 2) }

    abbrev pub handler_step : Handler-F N Asks CaseAsks ArmAsks ArmAsks ArmAsks ArmAsks → ArmAsks
    handler_step h = record {
      names = names_all h.locals + names_all h.eqs;
      at = λ m j w n. ask_all h.locals (in_let m j w) n ++ ask_all h.eqs (in_do m j w) (n + names_all h.locals);
    }

    abbrev pub arm_step : Arm-F N Asks CaseAsks ArmAsks ArmAsks ArmAsks ArmAsks → CaseAsks
    arm_step a = record { case = name_number a.case; arm = a.handler }

    abbrev pub test_step : Test-F N Asks CaseAsks ArmAsks ArmAsks ArmAsks ArmAsks → ArmAsks
    test_step s = record {
      names = s.handler.names;
      at = λ m j w n. tested (signal_type w s.signal.0) s.pat (in_let m j w) ++ s.handler.at m j w n;
    }

    abbrev pub guard_step : Guard-F N Asks CaseAsks ArmAsks ArmAsks ArmAsks ArmAsks → ArmAsks
    guard_step g = record { names = names_all g.eqs; at = λ m j w n. ask_all g.eqs (in_let m j w) n ++ is_bool (said g.cond) }

    -- the strong guards of a state stand at the automaton's second name
    abbrev pub state_step : State-F N Asks CaseAsks ArmAsks ArmAsks ArmAsks ArmAsks → ArmAsks
    state_step s = record {
      names = s.handler.names + names_arms s.strong + names_arms s.weak;
      at = λ m j w n. s.handler.at m j w n ++ ask_guards s.strong (m + 1) j w (n + s.handler.names) ++ ask_guards s.weak m j w (n + s.handler.names + names_arms s.strong);
    }

    abbrev pub asks : Equation N → Asks
    asks = fold-Equation N Asks CaseAsks ArmAsks ArmAsks ArmAsks ArmAsks equation_step arm_step guard_step handler_step state_step test_step

    -- a body, whose first clock name has this number
    abbrev pub body_asks : ℕ → BodyOf N → List (Demand X)
    body_asks first body = (said body.result).body ++ ask_all (map asks body.eqs) at_top first

    -- ---- parameters

    -- the names of a pattern are the parameters from k on
    abbrev pub own_parts : ℕ → List (ℕ × ℕ) → List (X × TypeTerm)
    own_parts k [] = []
    own_parts k (p ∷ ps) = fit_of (type_of (b.Param k)) p.1 ++ own_parts (suc k) ps

    abbrev pub own_missing : ℕ → List (ℕ × ℕ) → List (Demand X)
    own_missing k [] = []
    own_missing k (p ∷ ps) = miss_of (type_of (b.Param k)) ++ own_missing (suc k) ps

    abbrev pub only_alone : Option ℕ → List (Demand X) → List (Demand X)
    only_alone None ds = Never ∷ []
    only_alone (Some x) ds = ds

    abbrev pub param_asks : Mark → X → ℕ → Shape → List (Demand X)
    param_asks mark.Comb u k p = only_alone p.alone (same_as (type_of (b.Param k)) u)
    param_asks mark.Seq u k p = only_alone p.alone (same_as (type_of (b.Param k)) u)
    param_asks mark.Signal u k p = only_alone p.alone (Fits ((u, t.Signal any) ∷ []) ∷ same_as (type_of (b.Param k)) u)
    param_asks _ u k p = Fits ((u, p.scheme 0) ∷ own_parts k (p.names 0)) ∷ own_missing k (p.names 0)

    abbrev pub params_ask : List Pat → List Mark → List N → ℕ → List (Demand X)
    params_ask [] [] [] k = []
    params_ask (p ∷ ps) (m ∷ ms) (n ∷ ns) k = param_asks m (ty n) k (shape_of p) ++ params_ask ps ms ns (k + length ((shape_of p).names 0))
    params_ask _ _ _ k = Never ∷ []

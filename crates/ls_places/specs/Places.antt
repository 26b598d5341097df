-- What stands where in a definition: its variables, equations, blocks and clock names, in the order of the text.
use Rattle.std.specs.Prelude.{ℕ, suc, ◌+◌, ◌==◌, ◌&&◌, Bool, true, false, List, [], ◌∷◌, ◌++◌, map, length, slice_set, Option, Some, None, option_map, unwrap_or, if◌then◌else◌}
use Rattle.ls_ast.specs.declared.tree.Pat.{Pat}
use Rattle.ls_ast.specs.declared.tree.Expr.{Expr}
use Rattle.ls_ast.specs.declared.tree.Equation.{Equation, fold-Equation}
use Rattle.ls_ast.specs.declared.tree.Equation.TheOpen.{Equation-F, Arm-F, Guard-F, Handler-F, State-F, Test-F}
use Rattle.ls_ast.specs.declared.tree.BodyOf.{BodyOf}
use Rattle.ls_ast.specs.declared.tree.Arm.{Arm, fold-Arm}
use Rattle.ls_ast.specs.declared.tree.Guard.{Guard, fold-Guard}
use Rattle.ls_ast.specs.declared.tree.Handler.{Handler, fold-Handler}
use Rattle.ls_ast.specs.declared.tree.State.{State, fold-State}
use Rattle.ls_ast.specs.declared.tree.Test.{Test, fold-Test}
use Rattle.ls_places.specs.Patterns.{names_of}
use Rattle.ls_places.specs.declared.around.Where.{Where}
use Rattle.ls_places.specs.declared.places.Frame.{Frame}
use Rattle.ls_places.specs.declared.places.Frame.TheVariants as frame
use Rattle.ls_places.specs.declared.places.Right.{Right}
use Rattle.ls_places.specs.declared.places.Right.TheVariants as rhs
use Rattle.ls_places.specs.declared.places.Variable.{Variable}
use Rattle.ls_places.specs.declared.places.Transition.{Transition}
use Rattle.ls_places.specs.declared.places.Named.{Named}
use Rattle.ls_places.specs.declared.places.Named.TheVariants as named
use Rattle.ls_places.specs.declared.places.Places.{Places}

-- what is around a place, outermost first
abbrev pub Place : Type 0
Place = List Frame

-- an arm: the clock name of its block, and its number
abbrev pub InnerArm : Type 0
InnerArm = ℕ × ℕ

-- the arms among what is around a place
abbrev pub arms : Place → List InnerArm
arms [] = []
arms (frame.Reset r ∷ p) = arms p
arms (frame.Arm m j ∷ p) = (m, j) ∷ arms p

abbrev pub same_arms : List InnerArm → List InnerArm → Bool
same_arms [] [] = true
same_arms (a ∷ p) (b ∷ q) = a.0 == b.0 && (a.1 == b.1 && same_arms p q)
same_arms _ _ = false

-- Where an equation stands is its place, the place of its outermost block within the list of equations that binds its
-- names, and the arms between that list and the equation.

-- the place of what binds a name in its list: the equation or the block
abbrev pub spot : Where → Place
spot w = unwrap_or w.block w.place

abbrev pub at_top : Where
at_top = record { place = []; block = None; inner = [] }

abbrev pub in_reset : ℕ → Where → Where
in_reset r w = record { place = w.place ++ frame.Reset r ∷ []; block = w.block; inner = w.inner }

-- in the `do` of an arm, which binds names of the list around the block
abbrev pub in_do : ℕ → ℕ → Where → Where
in_do m j w = record { place = w.place ++ frame.Arm m j ∷ []; block = Some (spot w); inner = w.inner ++ (m, j) ∷ [] }

-- in the `let` of an arm, whose names are local to the arm
abbrev pub in_let : ℕ → ℕ → Where → Where
in_let m j w = record { place = w.place ++ frame.Arm m j ∷ []; block = None; inner = [] }

-- the number of the variable that a list binds by this name
abbrev pub place_of : ℕ → List InnerArm → List Variable → ℕ → Option ℕ
place_of x l [] k = None
place_of x l (v ∷ vs) k = if v.name == x && same_arms v.list l then Some k else place_of x l vs (suc k)

abbrev pub option_list : {A : Type 0} → Option A → List A
option_list None = []
option_list (Some x) = x ∷ []

-- the place of an arm's constructor, if it has one
abbrev pub named_case : (ℕ → Option ℕ) → Option ℕ → Option ℕ
named_case cases None = None
named_case cases (Some c) = cases c

-- the variables so far, and the numbers of those that an equation binds
abbrev pub Bound : Type 0
Bound = List Variable × List ℕ

-- one more name of an equation, which is a new variable where its list has not bound it before
abbrev pub bind_at : ℕ → Bool → Where → Bound → Option ℕ → Bound
bind_at x signal w b (Some k) = (b.0, b.1 ++ k ∷ [])
bind_at x signal w b None =
    (b.0 ++ record { name = x; list = arms (spot w); place = spot w; signal = signal } ∷ [], b.1 ++ length b.0 ∷ [])

abbrev pub bind : ℕ → Bool → Where → Bound → Bound
bind x signal w b = bind_at x signal w b (place_of x (arms (spot w)) b.0 0)

abbrev pub bind_all : List ℕ → Bool → Where → Bound → Bound
bind_all [] signal w b = b
bind_all (x ∷ xs) signal w b = bind_all xs signal w (bind x signal w b)

module _ (N : Type 0) where
  abbrev pub E : Type 0
  E = Expr N

  abbrev pub Found : Type 0
  Found = Places N

  abbrev pub nothing : Found
  nothing = record { vars = []; sites = []; starts = []; names = []; resets = []; exprs = [] }

  -- one more equation, with the variables that it binds
  abbrev pub site_of : Bound → Right → Where → Found → Found
  site_of b right w f = record f {
    vars = b.0;
    sites = f.sites ++ record { vars = b.1; right = right; place = w.place; inner = w.inner } ∷ [];
  }

  -- one more equation, which binds these names
  abbrev pub site_at : List ℕ → Bool → Right → Where → Found → Found
  site_at xs signal right w f = site_of (bind_all xs signal w (f.vars, [])) right w f

  -- one more whole expression
  abbrev pub reading : E → Place → Found → Found
  reading e p f = record f { exprs = f.exprs ++ record { expr = e; place = p } ∷ [] }

  -- the number of the next whole expression
  abbrev pub next_expr : Found → ℕ
  next_expr f = length f.exprs

  abbrev pub naming : Named → Found → Found
  naming n f = record f { names = f.names ++ n ∷ [] }

  -- `pat = e`: all names of the pattern are signals, or none is
  abbrev pub plain_at : Pat → Bool → E → Where → Found → Found
  plain_at p signal e w f = site_at (names_of p) signal (rhs.Part p (next_expr f)) w (reading e w.place f)

  -- `clock x = e` or `emit x = e`
  abbrev pub whole_at : ℕ → Bool → E → Where → Found → Found
  whole_at x signal e w f = site_at (x ∷ []) signal (rhs.Whole (next_expr f)) w (reading e w.place f)

  -- the clock name of `clock x = ..`
  abbrev pub clock_at : ℕ → Where → Found → Found
  clock_at x w f = naming (named.Clock (unwrap_or (place_of x (arms (spot w)) f.vars 0) 0)) f

  abbrev pub start_at : ℕ → E → Where → Found → Found
  start_at x e w f = reading e w.place (record f {
    starts = f.starts ++ record { name = x; list = arms (spot w); right = next_expr f } ∷ [];
  })

  -- the walk in the order of the text
  abbrev pub Walk : Type 0
  Walk = Where → Found → Found

  abbrev pub walk_all : List Walk → Walk
  walk_all [] w f = f
  walk_all (x ∷ xs) w f = walk_all xs w (x w f)

  -- what goes by a block's clock name, the number of an arm of it, and what was found before the arm
  abbrev pub Inside : Type 0 → Type 0
  Inside A = ℕ → ℕ → Where → Found → A

  -- the walk through an arm
  abbrev pub InArm : Type 0
  InArm = Inside Found

  abbrev pub arms_from : ℕ → ℕ → List InArm → Walk
  arms_from m j [] w f = f
  arms_from m j (a ∷ rest) w f = arms_from m (suc j) rest w (a m j w f)

  pub record AnArm : Type 0 where
    pub case : Option ℕ
    pub walk : InArm

  pub record ATest : Type 0 where
    pub signal : ℕ
    pub walk : InArm

  pub record AGuard : Type 0 where
    pub transition : Inside Transition
    pub walk : InArm

  pub record AState : Type 0 where
    pub name : ℕ
    pub strong : Inside (List Transition)
    pub weak : Inside (List Transition)
    pub walk : InArm

  abbrev pub arm_walks : List AnArm → List InArm
  arm_walks = map {A = AnArm} {B = InArm} (λ a. a.walk)

  abbrev pub test_walks : List ATest → List InArm
  test_walks = map {A = ATest} {B = InArm} (λ t. t.walk)

  abbrev pub state_walks : List AState → List InArm
  state_walks = map {A = AState} {B = InArm} (λ s. s.walk)

  abbrev pub arm_cases : List AnArm → List (Option ℕ)
  arm_cases = map {A = AnArm} {B = Option ℕ} (λ a. a.case)

  abbrev pub test_signals : List ATest → List ℕ
  test_signals = map {A = ATest} {B = ℕ} (λ t. t.signal)

  -- all guards of a state, at the arm that they go by
  abbrev pub walk_guards : List AGuard → InArm
  walk_guards [] m j w f = f
  walk_guards (g ∷ gs) m j w f = walk_guards gs m j w (g.walk m j w f)

  abbrev pub transitions : List AGuard → Inside (List Transition)
  transitions [] m j w f = []
  transitions (g ∷ gs) m j w f = g.transition m j w f ∷ transitions gs m j w (g.walk m j w f)

  -- the guards of each state, by its name, where the first state is the arm `j`
  abbrev pub Guards : Type 0
  Guards = List (ℕ × List Transition)

  abbrev pub strongs_from : ℕ → ℕ → List AState → Where → Found → Guards
  strongs_from m j [] w f = []
  strongs_from m j (s ∷ rest) w f = (s.name, s.strong m j w f) ∷ strongs_from m (suc j) rest w (s.walk m j w f)

  abbrev pub weaks_from : ℕ → ℕ → List AState → Where → Found → Guards
  weaks_from m j [] w f = []
  weaks_from m j (s ∷ rest) w f = (s.name, s.weak m j w f) ∷ weaks_from m (suc j) rest w (s.walk m j w f)

  -- what opens a block
  abbrev pub open_reset : E → Where → Found → Found
  open_reset e w f = reading e w.place (record f { resets = f.resets ++ next_expr f ∷ [] })

  abbrev pub open_match : E → List (Option ℕ) → Where → Found → Found
  open_match e all w f = naming (named.Match (next_expr f) all w.place) (reading e w.place f)

  abbrev pub open_present : List ℕ → Where → Found → Found
  open_present xs w f = naming (named.Present xs w.place) f

  -- the two names of an automaton, before its guards are known
  abbrev pub open_modes : Place → Found → Found
  open_modes p f = naming (named.Tested [] p) (naming (named.Active [] p) f)

  -- and after: the first name has this place among the names
  abbrev pub close_modes : ℕ → Guards → Guards → Place → Found → Found
  close_modes k strong weak p f = record f {
    names = slice_set (slice_set f.names k (named.Active strong p)) (k + 1) (named.Tested weak p);
  }

  abbrev pub bind_pattern : ℕ → Option Pat → Walk
  bind_pattern s None w f = f
  bind_pattern s (Some p) w f = site_at (names_of p) false (rhs.Pattern s p) w f

  -- `first` is the number of the definition's parameters, `cases` the place of a constructor in its enumeration, and
  -- `signal` says whether an expression is a signal
  module _ (first : ℕ) (cases : ℕ → Option ℕ) (signal : E → Bool) where
    -- the number of the next clock name
    abbrev pub next : Found → ℕ
    next f = first + length f.names

    -- `f` is what was found before the automaton, and `opened` with its two names
    abbrev pub automaton_at : List AState → Where → Found → Found → Found
    automaton_at all w f opened = close_modes (length f.names) (strongs_from (next f) 0 all w opened)
        (weaks_from (next f) 0 all w opened) w.place (arms_from (next f) 0 (state_walks all) w opened)

    abbrev pub equation_step : Equation-F N Walk AnArm AGuard InArm AState ATest → Walk
    equation_step (Equation-F.Plain p e) w f = plain_at p (signal e) e w f
    equation_step (Equation-F.Clock x e) w f = clock_at x.0 w (whole_at x.0 false e w f)
    equation_step (Equation-F.Initial x e) w f = start_at x.0 e w f
    equation_step (Equation-F.Emit x e) w f = whole_at x.0 true e w f
    equation_step (Equation-F.Reset eqs e) w f = walk_all eqs (in_reset (length f.resets) w) (open_reset e w f)
    equation_step (Equation-F.Match e all) w f = arms_from (next f) 0 (arm_walks all) w (open_match e (arm_cases all) w f)
    equation_step (Equation-F.Present tests other) w f =
        arms_from (next f) 0 (test_walks tests ++ option_list other) w (open_present (test_signals tests) w f)
    equation_step (Equation-F.Automaton all) w f = automaton_at all w f (open_modes w.place f)

    abbrev pub handler_step : Handler-F N Walk AnArm AGuard InArm AState ATest → InArm
    handler_step h m j w f = walk_all h.eqs (in_do m j w) (walk_all h.locals (in_let m j w) f)

    abbrev pub arm_step : Arm-F N Walk AnArm AGuard InArm AState ATest → AnArm
    arm_step a = record { case = named_case cases (option_map (λ c. c.0) a.case); walk = a.handler }

    abbrev pub test_step : Test-F N Walk AnArm AGuard InArm AState ATest → ATest
    test_step t = record { signal = t.signal.0; walk = λ m j w f. t.handler m j w (bind_pattern t.signal.0 t.pat (in_let m j w) f) }

    -- the equations of a guard stand where its condition does, and bind names there
    abbrev pub guard_step : Guard-F N Walk AnArm AGuard InArm AState ATest → AGuard
    guard_step g = record {
      transition = λ m j w f. record { cond = next_expr (walk_all g.eqs (in_let m j w) f); restart = g.restart; target = g.target.0 };
      walk = λ m j w f. reading g.cond (in_let m j w).place (walk_all g.eqs (in_let m j w) f);
    }

    -- the body of a state and its weak guards are arms of the automaton's first name, its strong guards of the second
    abbrev pub state_step : State-F N Walk AnArm AGuard InArm AState ATest → AState
    state_step s = record {
      name = s.name.0;
      strong = λ m j w f. transitions s.strong (m + 1) j w (s.handler m j w f);
      weak = λ m j w f. transitions s.weak m j w (walk_guards s.strong (m + 1) j w (s.handler m j w f));
      walk = λ m j w f. walk_guards s.weak m j w (walk_guards s.strong (m + 1) j w (s.handler m j w f));
    }

    abbrev pub walk_of : Equation N → Walk
    walk_of = fold-Equation N Walk AnArm AGuard InArm AState ATest equation_step arm_step guard_step handler_step state_step test_step

    abbrev pub arm_of : Arm N → AnArm
    arm_of = fold-Arm N Walk AnArm AGuard InArm AState ATest equation_step arm_step guard_step handler_step state_step test_step

    abbrev pub guard_of : Guard N → AGuard
    guard_of = fold-Guard N Walk AnArm AGuard InArm AState ATest equation_step arm_step guard_step handler_step state_step test_step

    abbrev pub handler_of : Handler N → InArm
    handler_of = fold-Handler N Walk AnArm AGuard InArm AState ATest equation_step arm_step guard_step handler_step state_step test_step

    abbrev pub state_of : State N → AState
    state_of = fold-State N Walk AnArm AGuard InArm AState ATest equation_step arm_step guard_step handler_step state_step test_step

    abbrev pub test_of : Test N → ATest
    test_of = fold-Test N Walk AnArm AGuard InArm AState ATest equation_step arm_step guard_step handler_step state_step test_step

    abbrev pub walk_body : List (Equation N) → Walk
    walk_body eqs = walk_all (map walk_of eqs)

    -- what stands in a body, with its places
    abbrev pub find : BodyOf N → Found
    find b = reading b.result [] (walk_body b.eqs at_top nothing)

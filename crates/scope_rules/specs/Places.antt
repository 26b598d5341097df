-- What stands where in the body of a definition, before its names are resolved.
use Rattle.std.specs.Prelude.{ℕ, suc, ◌+◌, ◌==◌, nat_lt, ◌&&◌, ◌||◌, Bool, true, false, List, [], ◌∷◌, ◌++◌, map, length, Option, Some, None, option_map}
use Rattle.ls_ast.specs.declared.tree.Mark.TheVariants as mark
use Rattle.ls_ast.specs.declared.tree.Pat.{Pat, fold-Pat, out-Pat}
use Rattle.ls_ast.specs.declared.tree.Pat.TheOpen.{Pat-F}
use Rattle.ls_ast.specs.declared.tree.Expr.{Expr}
use Rattle.ls_ast.specs.declared.tree.Form.{Form, out-Form}
use Rattle.ls_ast.specs.declared.tree.Form.TheOpen.{Form-F}
use Rattle.ls_ast.specs.declared.tree.Equation.{Equation, fold-Equation}
use Rattle.ls_ast.specs.declared.tree.Equation.TheOpen.{Equation-F, Arm-F, Guard-F, Handler-F, State-F, Test-F}
use Rattle.ls_ast.specs.declared.tree.BodyOf.{BodyOf}
use Rattle.ls_ast.specs.declared.tree.Arm.{Arm, fold-Arm}
use Rattle.ls_ast.specs.declared.tree.Guard.{Guard, fold-Guard}
use Rattle.ls_ast.specs.declared.tree.Handler.{Handler, fold-Handler}
use Rattle.ls_ast.specs.declared.tree.State.{State, fold-State, out-State}
use Rattle.ls_ast.specs.declared.tree.Test.{Test, fold-Test}
pub use Rattle.scope_rules.specs.declared.places.Where.{Where}
pub use Rattle.scope_rules.specs.declared.places.Site.{Site}
pub use Rattle.scope_rules.specs.declared.places.Way.{Way}
use Rattle.scope_rules.specs.declared.places.Way.TheVariants as way
pub use Rattle.scope_rules.specs.declared.claims.Stand.{Stand}
pub use Rattle.scope_rules.specs.declared.claims.Stand.TheVariants.{Whole as whole, Right as right, At as at, Loose as loose, Before as before, Asked as asked, Applied as applied}

-- one arm around a place: the clock name of its block, and its number. The states of an automaton are the arms of its first name, their strong guards those of its second.
abbrev pub OneArm : Type 0
OneArm = ℕ × ℕ

-- the arms around a place, outermost first
abbrev pub Place : Type 0
Place = List OneArm

abbrev pub same_place : Place → Place → Bool
same_place [] [] = true
same_place (a ∷ p) (b ∷ q) = a.0 == b.0 && (a.1 == b.1 && same_place p q)
same_place _ _ = false

-- what stands at `q` stands inside what stands at `p`, or at the same place
abbrev pub holds : Place → Place → Bool
holds [] q = true
holds (a ∷ p) [] = false
holds (a ∷ p) (b ∷ q) = a.0 == b.0 && (a.1 == b.1 && holds p q)

-- `q` is in a later arm of a block that has `p` in one of its arms
abbrev pub later : Place → Place → Bool
later (a ∷ p) (b ∷ q) = a.0 == b.0 && (nat_lt a.1 b.1 || (a.1 == b.1 && later p q))
later _ _ = false

abbrev pub around : Where → Place
around w = w.list ++ w.inner

abbrev pub at_top : Where
at_top = record { list = []; inner = [] }

-- in the `do` of an arm, which binds names of the list around the block
abbrev pub in_do : ℕ → ℕ → Where → Where
in_do m j w = record { list = w.list; inner = w.inner ++ (m, j) ∷ [] }

-- in the `let` of an arm, whose names are local to the arm
abbrev pub in_let : ℕ → ℕ → Where → Where
in_let m j w = record { list = around w ++ (m, j) ∷ []; inner = [] }

-- how a name or an expression stands: `at Data` is a stream
abbrev pub stream : Stand
stream = at mark.Data

abbrev pub joined : {A : Type 0} → List (List A) → List A
joined [] = []
joined (xs ∷ rest) = xs ++ joined rest

abbrev pub option_list : {A : Type 0} → Option A → List A
option_list None = []
option_list (Some x) = x ∷ []

abbrev pub pattern_names : Pat-F (List ℕ) → List ℕ
pattern_names Pat-F.Any = []
pattern_names Pat-F.Unit = []
pattern_names (Pat-F.Var x) = x.0 ∷ []
pattern_names (Pat-F.Tuple parts) = joined parts

-- the names of a pattern, in the order of the text
abbrev pub names_of : Pat → List ℕ
names_of = fold-Pat (List ℕ) pattern_names

-- one name, and no tuple
abbrev pub is_name_at : {X : Type 0} → Pat-F X → Bool
is_name_at (Pat-F.Var x) = true
is_name_at _ = false

abbrev pub is_name : Pat → Bool
is_name p = is_name_at (out-Pat p)

-- the form of an expression
abbrev pub root : {N : Type 0} → Expr N → Form-F N (Form N) (Expr N)
root {N} e = out-Form N e.form

abbrev pub called_at : {N X Y : Type 0} → Form-F N X Y → Way
called_at (Form-F.Call run x args every) = way.Called x.0
called_at _ = way.Part

abbrev pub way_of : {N : Type 0} → Bool → Expr N → Way
way_of true e = called_at (root e)
way_of false e = way.Part

abbrev pub stand_of : Bool → Stand
stand_of true = right
stand_of false = stream

abbrev pub site_at : Way → Where → ℕ → Site
site_at how w x = record { var = x; list = w.list; inner = w.inner; way = how }

-- An expression and how it stands, or the signal of a test, at a place.
pub data Reading (N : Type 0) : Type 0 where
  reads : Expr N → Stand → Place → Reading N
  tests : ℕ → Place → Reading N

-- What stands in a body, each list in the order of the text: the names that are bound; the initial equations, with the place of their lists; the expressions and the
-- signals of tests; the constructors of each `match` (None is `_`); of each automaton its states, and the targets of its guards. `next` is the number of the next clock name.
pub record Contents (N : Type 0) : Type 0 where
  pub sites : List Site
  pub starts : List (ℕ × Place)
  pub readings : List (Reading N)
  pub arms : List (List (Option ℕ))
  pub automata : List (List ℕ × List ℕ)
  pub next : ℕ

-- what a block keeps of its arms
module _ {N : Type 0} where
  abbrev pub case_of : Arm N → Option ℕ
  case_of a = option_map (λ c. c.0) a.case

  abbrev pub signal_of : Test N → ℕ
  signal_of t = t.signal.0

  abbrev pub title_of : State N → ℕ
  title_of s = (out-State N s).name.0

  abbrev pub guard_targets : List (Guard N) → List ℕ
  guard_targets = map {A = Guard N} {B = ℕ} (λ g. g.target.0)

  abbrev pub targets_of : State N → List ℕ
  targets_of s = guard_targets (out-State N s).strong ++ guard_targets (out-State N s).weak

module _ (N : Type 0) where
  abbrev pub nothing_yet : ℕ → Contents N
  nothing_yet first = record { sites = []; starts = []; readings = []; arms = []; automata = []; next = first }

  abbrev pub read : Reading N → Contents N → Contents N
  read r f = record f { readings = f.readings ++ r ∷ [] }

  abbrev pub bind : Way → Where → ℕ → Contents N → Contents N
  bind how w x f = record f { sites = f.sites ++ site_at how w x ∷ [] }

  abbrev pub bind_all : Way → Where → List ℕ → Contents N → Contents N
  bind_all how w [] f = f
  bind_all how w (x ∷ xs) f = bind_all how w xs (bind how w x f)

  abbrev pub bind_pattern : Option Pat → Where → Contents N → Contents N
  bind_pattern None w f = f
  bind_pattern (Some p) w f = bind_all way.Tested w (names_of p) f

  abbrev pub start : ℕ → Where → Contents N → Contents N
  start x w f = record f { starts = f.starts ++ (x, w.list) ∷ [] }

  abbrev pub read_tests : List ℕ → Where → Contents N → Contents N
  read_tests [] w f = f
  read_tests (x ∷ xs) w f = read_tests xs w (read (tests x (around w)) f)

  abbrev pub open_match : List (Option ℕ) → Contents N → Contents N
  open_match cases f = record f { arms = f.arms ++ cases ∷ []; next = f.next + 1 }

  abbrev pub count_name : Contents N → Contents N
  count_name f = record f { next = f.next + 1 }

  abbrev pub open_automaton : List ℕ → List ℕ → Contents N → Contents N
  open_automaton titles targets f = record f { automata = f.automata ++ (titles, targets) ∷ []; next = f.next + 2 }

  -- a walk adds what stands in a part of a body, where it stands being given
  abbrev pub Walk : Type 0
  Walk = Where → Contents N → Contents N

  abbrev pub walk_all : List Walk → Walk
  walk_all [] w f = f
  walk_all (x ∷ xs) w f = walk_all xs w (x w f)

  -- the walk through an arm, given its block's clock name and its number
  abbrev pub InArm : Type 0
  InArm = ℕ → ℕ → Walk

  -- the arms of the block with the clock name m, from number j on
  abbrev pub arms_from : ℕ → ℕ → List InArm → Walk
  arms_from m j [] w f = f
  arms_from m j (a ∷ rest) w f = arms_from m (suc j) rest w (a m j w f)

  pub record AnArm : Type 0 where
    pub case : Option ℕ
    pub walk : InArm

  pub record ATest : Type 0 where
    pub signal : ℕ
    pub walk : InArm

  pub record AGuard : Type 0 where
    pub target : ℕ
    pub walk : InArm

  pub record AState : Type 0 where
    pub title : ℕ
    pub targets : List ℕ
    pub walk : InArm

  abbrev pub arm_walks : List AnArm → List InArm
  arm_walks = map {A = AnArm} {B = InArm} (λ a. a.walk)

  abbrev pub arm_cases : List AnArm → List (Option ℕ)
  arm_cases = map {A = AnArm} {B = Option ℕ} (λ a. a.case)

  abbrev pub test_walks : List ATest → List InArm
  test_walks = map {A = ATest} {B = InArm} (λ t. t.walk)

  abbrev pub test_signals : List ATest → List ℕ
  test_signals = map {A = ATest} {B = ℕ} (λ t. t.signal)

  abbrev pub state_walks : List AState → List InArm
  state_walks = map {A = AState} {B = InArm} (λ s. s.walk)

  abbrev pub state_titles : List AState → List ℕ
  state_titles = map {A = AState} {B = ℕ} (λ s. s.title)

  abbrev pub state_targets : List AState → List ℕ
  state_targets all = joined (map {A = AState} {B = List ℕ} (λ s. s.targets) all)

  abbrev pub targets : List AGuard → List ℕ
  targets = map {A = AGuard} {B = ℕ} (λ g. g.target)

  -- all guards of a state go by one arm
  abbrev pub walk_guards : List AGuard → InArm
  walk_guards [] m j w f = f
  walk_guards (g ∷ gs) m j w f = walk_guards gs m j w (g.walk m j w f)

  abbrev pub other_arm : ℕ → ℕ → Option InArm → Walk
  other_arm m j None w f = f
  other_arm m j (Some a) w f = a m j w f

  abbrev pub walk_plain : Pat → Expr N → Walk
  walk_plain p e w f = bind_all (way_of (is_name p) e) w (names_of p) (read (reads e (stand_of (is_name p)) (around w)) f)

  abbrev pub equation_step : Equation-F N Walk AnArm AGuard InArm AState ATest → Walk
  equation_step (Equation-F.Plain p e) w f = walk_plain p e w f
  equation_step (Equation-F.Clock x e) w f = bind way.Clock w x.0 (read (reads e stream (around w)) (count_name f))
  equation_step (Equation-F.Initial x e) w f = start x.0 w (read (reads e stream (around w)) f)
  equation_step (Equation-F.Emit x e) w f = bind way.Emitted w x.0 (read (reads e stream (around w)) f)
  equation_step (Equation-F.Reset eqs e) w f = walk_all eqs w (read (reads e stream (around w)) f)
  equation_step (Equation-F.Match e all) w f = arms_from f.next 0 (arm_walks all) w (open_match (arm_cases all) (read (reads e stream (around w)) f))
  equation_step (Equation-F.Present all other) w f =
      other_arm f.next (length all) other w (arms_from f.next 0 (test_walks all) w (count_name (read_tests (test_signals all) w f)))
  equation_step (Equation-F.Automaton all) w f = arms_from f.next 0 (state_walks all) w (open_automaton (state_titles all) (state_targets all) f)

  abbrev pub arm_step : Arm-F N Walk AnArm AGuard InArm AState ATest → AnArm
  arm_step a = record { case = option_map (λ c. c.0) a.case; walk = a.handler }

  abbrev pub handler_step : Handler-F N Walk AnArm AGuard InArm AState ATest → InArm
  handler_step h m j w f = walk_all h.eqs (in_do m j w) (walk_all h.locals (in_let m j w) f)

  abbrev pub test_step : Test-F N Walk AnArm AGuard InArm AState ATest → ATest
  test_step t = record { signal = t.signal.0; walk = λ m j w f. t.handler m j w (bind_pattern t.pat (in_let m j w) f) }

  -- the equations of a guard stand where its condition does, and bind names there
  abbrev pub guard_step : Guard-F N Walk AnArm AGuard InArm AState ATest → AGuard
  guard_step g = record {
    target = g.target.0;
    walk = λ m j w f. read (reads g.cond stream (around (in_let m j w))) (walk_all g.eqs (in_let m j w) f);
  }

  -- the body of a state and its weak guards are arms of the automaton's first name, its strong guards of the second
  abbrev pub state_step : State-F N Walk AnArm AGuard InArm AState ATest → AState
  state_step s = record {
    title = s.name.0;
    targets = targets s.strong ++ targets s.weak;
    walk = λ m j w f. walk_guards s.weak m j w (walk_guards s.strong (m + 1) j w (s.handler m j w f));
  }

  abbrev pub walk_of : Equation N → Walk
  walk_of = fold-Equation N Walk AnArm AGuard InArm AState ATest equation_step arm_step guard_step handler_step state_step test_step

  abbrev pub arm_of : Arm N → AnArm
  arm_of = fold-Arm N Walk AnArm AGuard InArm AState ATest equation_step arm_step guard_step handler_step state_step test_step

  abbrev pub guard_of : Guard N → AGuard
  guard_of = fold-Guard N Walk AnArm AGuard InArm AState ATest equation_step arm_step guard_step handler_step state_step test_step

  abbrev pub handler_of : Handler N → InArm
  handler_of = fold-Handler N Walk AnArm AGuard InArm AState ATest equation_step arm_step guard_step handler_step state_step test_step

  abbrev pub state_of : State N → AState
  state_of = fold-State N Walk AnArm AGuard InArm AState ATest equation_step arm_step guard_step handler_step state_step test_step

  abbrev pub test_of : Test N → ATest
  test_of = fold-Test N Walk AnArm AGuard InArm AState ATest equation_step arm_step guard_step handler_step state_step test_step

  -- What stands in a body. `first` is the number of the first clock name of the body, which is that of the parameters of the definition.
  abbrev pub contents_of : ℕ → BodyOf N → Contents N
  contents_of first b = read (reads b.result whole (around at_top)) (walk_all (map walk_of b.eqs) at_top (nothing_yet first))

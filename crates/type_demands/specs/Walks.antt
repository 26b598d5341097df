-- The walk through equations, as what it has asked so far grows.
use Rattle.std.specs.Prelude.{ℕ, suc, ◌+◌, Bool, true, false, List, [], ◌∷◌, ◌++◌, map, min, Option, Some, None, option_map}
use Rattle.ls_ast.specs.declared.tree.Arm.{Arm, fold-Arm}
use Rattle.ls_ast.specs.declared.tree.BodyOf.{BodyOf}
use Rattle.ls_ast.specs.declared.tree.Equation.{Equation, fold-Equation}
use Rattle.ls_ast.specs.declared.tree.Equation.TheOpen.{Equation-F, Arm-F, Guard-F, Handler-F, State-F, Test-F}
use Rattle.ls_ast.specs.declared.tree.Expr.{Expr}
use Rattle.ls_ast.specs.declared.tree.Guard.{Guard, fold-Guard}
use Rattle.ls_ast.specs.declared.tree.Handler.{Handler, fold-Handler}
use Rattle.ls_ast.specs.declared.tree.Mark.{Mark}
use Rattle.ls_ast.specs.declared.tree.Pat.{Pat}
use Rattle.ls_ast.specs.declared.tree.State.{State, fold-State}
use Rattle.ls_ast.specs.declared.tree.Test.{Test, fold-Test}
use Rattle.ls_places.specs.declared.places.Variable.{Variable}
use Rattle.ls_terms.specs.declared.types.TypeTerm.{TypeTerm}
use Rattle.ls_terms.specs.declared.types.TypeTerm.TheVariants as t
use Rattle.type_demands.specs.declared.bodies.Asking.{Asking}
use Rattle.type_readings.specs.declared.given.Given.{Given}
use Rattle.type_readings.specs.Given as scene
use Rattle.type_rules.specs.declared.around.Around.{Around}
use Rattle.type_rules.specs.declared.demand.Demand.{Demand}
use Rattle.type_rules.specs.Bodies as B
use Rattle.type_rules.specs.Bodies.{Shape, Asks, ArmAsks, CaseAsks}
use Rattle.type_rules.specs.Definitions as D
use Rattle.type_rules.specs.Definitions.{Definition}
use Rattle.type_rules.specs.Expressions.{Reading, any}
use Rattle.ls_sig.specs.declared.binder.Binder.{Binder}
use Rattle.ls_sig.specs.declared.binder.Binder.TheVariants as b
use Rattle.type_rules.specs.declared.demand.Demand.TheVariants.{Fits, Never}
use Rattle.type_rules.specs.Numbers.{Placed, bound_of, place_of}

-- the earlier of two numbers, where there is one
abbrev pub earlier : Option ℕ → Option ℕ → Option ℕ
earlier None c = c
earlier (Some a) None = Some a
earlier (Some a) (Some c) = Some (min a c)

-- a scheme, or that of a signal
abbrev pub wrapped : Bool → TypeTerm → TypeTerm
wrapped true s = t.Signal s
wrapped false s = s

-- what an equation asks is added, and its clock names are counted
abbrev pub took : Asks Placed ℕ → Around → Asking → Asking
took q w s = record { out = s.out ++ q.at w s.next; next = s.next + q.names }

-- some clock names are counted
abbrev pub counted : ℕ → Asking → Asking
counted k s = record { out = s.out; next = s.next + k }

abbrev pub all : List (Asks Placed ℕ) → Around → Asking → Asking
all [] w s = s
all (q ∷ qs) w s = all qs w (took q w s)

abbrev pub took_arm : ArmAsks Placed ℕ → ℕ → ℕ → Around → Asking → Asking
took_arm a m j w s = record { out = s.out ++ a.at m j w s.next; next = s.next + a.names }

abbrev pub arms_from : ℕ → ℕ → List (ArmAsks Placed ℕ) → Around → Asking → Asking
arms_from m j [] w s = s
arms_from m j (a ∷ rest) w s = arms_from m (suc j) rest w (took_arm a m j w s)

-- the guards of a state are all at one arm
abbrev pub all_guards : List (ArmAsks Placed ℕ) → ℕ → ℕ → Around → Asking → Asking
all_guards [] m j w s = s
all_guards (g ∷ gs) m j w s = all_guards gs m j w (took_arm g m j w s)

abbrev pub option_list : {A : Type 0} → Option A → List A
option_list None = []
option_list (Some x) = x ∷ []

module _ {C : Type 0} (case_type : C → ℕ → Option TypeTerm) (g : Given C) where
  abbrev pub types : ℕ → Option TypeTerm
  types = scene.cases case_type g

  abbrev pub marks : ℕ → Mark
  marks = scene.marks case_type g

  abbrev pub type_of : Binder → Option ℕ
  type_of = scene.type_of case_type g

  abbrev pub said : Expr Placed → Reading ℕ
  said = scene.said case_type g

  -- ---- names

  -- the place of a name that the list binds
  abbrev pub bound_at : Around → ℕ → Option ℕ
  bound_at = B.bound_at Placed ℕ bound_of place_of g.sigs.now types g.params.now marks g.vars.now type_of

  abbrev pub signal_type : Around → ℕ → Option ℕ
  signal_type = B.signal_type Placed ℕ bound_of place_of g.sigs.now types g.params.now marks g.vars.now type_of

  -- ---- equations without parts

  abbrev pub signal_equation : Option ℕ → Expr Placed → Around → List (Demand ℕ)
  signal_equation x e w = B.signal_equation Placed ℕ bound_of place_of g.sigs.now types g.params.now marks g.vars.now type_of x (said e) w

  abbrev pub plain_equation : Shape → Expr Placed → Around → List (Demand ℕ)
  plain_equation p e w = B.plain_equation Placed ℕ bound_of place_of g.sigs.now types g.params.now marks g.vars.now type_of p (said e) w

  abbrev pub both_any : Option ℕ → ℕ → List (Demand ℕ)
  both_any = B.both_any Placed ℕ bound_of place_of g.sigs.now types g.params.now marks g.vars.now type_of

  abbrev pub same_as : Option ℕ → ℕ → List (Demand ℕ)
  same_as = B.same_as Placed ℕ bound_of place_of g.sigs.now types g.params.now marks g.vars.now type_of

  abbrev pub named : ℕ → Expr Placed → Around → List (Demand ℕ)
  named x e w = both_any (bound_at w x) (said e).ty ++ (said e).stream

  abbrev pub emitted : ℕ → Expr Placed → Around → List (Demand ℕ)
  emitted x e w = B.emitted Placed ℕ bound_of place_of g.sigs.now types g.params.now marks g.vars.now type_of (bound_at w x) (said e).ty ++ (said e).stream

  abbrev pub is_bool : Expr Placed → List (Demand ℕ)
  is_bool e = B.is_bool Placed ℕ bound_of place_of g.sigs.now types g.params.now marks g.vars.now type_of (said e)

  abbrev pub named_case : ℕ → Option ℕ → List (Demand ℕ)
  named_case = B.named_case Placed ℕ bound_of place_of g.sigs.now types g.params.now marks g.vars.now type_of

  abbrev pub rule_cases : ℕ → List (CaseAsks Placed ℕ) → List (Demand ℕ)
  rule_cases = B.cases_have Placed ℕ bound_of place_of g.sigs.now types g.params.now marks g.vars.now type_of

  -- the scrutinee has the type of each constructor
  abbrev pub cases_have : ℕ → List (Arm Placed) → List (Demand ℕ)
  cases_have u [] = []
  cases_have u (a ∷ rest) = named_case u (B.name_number a.case) ++ cases_have u rest

  abbrev pub match_opened : Expr Placed → List (Arm Placed) → Asking → Asking
  match_opened e arms s = record { out = s.out ++ (said e).stream ++ cases_have (place_of e.note) arms; next = s.next + 1 }

  abbrev pub tested : Option ℕ → Option Pat → Around → List (Demand ℕ)
  tested = B.tested Placed ℕ bound_of place_of g.sigs.now types g.params.now marks g.vars.now type_of

  -- ---- equations with parts

  abbrev pub equation_step : Equation-F Placed (Asks Placed ℕ) (CaseAsks Placed ℕ) (ArmAsks Placed ℕ) (ArmAsks Placed ℕ) (ArmAsks Placed ℕ) (ArmAsks Placed ℕ) → Asks Placed ℕ
  equation_step = B.equation_step Placed ℕ bound_of place_of g.sigs.now types g.params.now marks g.vars.now type_of

  abbrev pub arm_step : Arm-F Placed (Asks Placed ℕ) (CaseAsks Placed ℕ) (ArmAsks Placed ℕ) (ArmAsks Placed ℕ) (ArmAsks Placed ℕ) (ArmAsks Placed ℕ) → CaseAsks Placed ℕ
  arm_step = B.arm_step Placed ℕ bound_of place_of g.sigs.now types g.params.now marks g.vars.now type_of

  abbrev pub guard_step : Guard-F Placed (Asks Placed ℕ) (CaseAsks Placed ℕ) (ArmAsks Placed ℕ) (ArmAsks Placed ℕ) (ArmAsks Placed ℕ) (ArmAsks Placed ℕ) → ArmAsks Placed ℕ
  guard_step = B.guard_step Placed ℕ bound_of place_of g.sigs.now types g.params.now marks g.vars.now type_of

  abbrev pub handler_step : Handler-F Placed (Asks Placed ℕ) (CaseAsks Placed ℕ) (ArmAsks Placed ℕ) (ArmAsks Placed ℕ) (ArmAsks Placed ℕ) (ArmAsks Placed ℕ) → ArmAsks Placed ℕ
  handler_step = B.handler_step Placed ℕ bound_of place_of g.sigs.now types g.params.now marks g.vars.now type_of

  abbrev pub state_step : State-F Placed (Asks Placed ℕ) (CaseAsks Placed ℕ) (ArmAsks Placed ℕ) (ArmAsks Placed ℕ) (ArmAsks Placed ℕ) (ArmAsks Placed ℕ) → ArmAsks Placed ℕ
  state_step = B.state_step Placed ℕ bound_of place_of g.sigs.now types g.params.now marks g.vars.now type_of

  abbrev pub test_step : Test-F Placed (Asks Placed ℕ) (CaseAsks Placed ℕ) (ArmAsks Placed ℕ) (ArmAsks Placed ℕ) (ArmAsks Placed ℕ) (ArmAsks Placed ℕ) → ArmAsks Placed ℕ
  test_step = B.test_step Placed ℕ bound_of place_of g.sigs.now types g.params.now marks g.vars.now type_of

  abbrev pub asks : Equation Placed → Asks Placed ℕ
  asks = fold-Equation Placed (Asks Placed ℕ) (CaseAsks Placed ℕ) (ArmAsks Placed ℕ) (ArmAsks Placed ℕ) (ArmAsks Placed ℕ) (ArmAsks Placed ℕ) equation_step arm_step guard_step handler_step state_step test_step

  abbrev pub arm : Arm Placed → CaseAsks Placed ℕ
  arm = fold-Arm Placed (Asks Placed ℕ) (CaseAsks Placed ℕ) (ArmAsks Placed ℕ) (ArmAsks Placed ℕ) (ArmAsks Placed ℕ) (ArmAsks Placed ℕ) equation_step arm_step guard_step handler_step state_step test_step

  abbrev pub guard : Guard Placed → ArmAsks Placed ℕ
  guard = fold-Guard Placed (Asks Placed ℕ) (CaseAsks Placed ℕ) (ArmAsks Placed ℕ) (ArmAsks Placed ℕ) (ArmAsks Placed ℕ) (ArmAsks Placed ℕ) equation_step arm_step guard_step handler_step state_step test_step

  abbrev pub handler : Handler Placed → ArmAsks Placed ℕ
  handler = fold-Handler Placed (Asks Placed ℕ) (CaseAsks Placed ℕ) (ArmAsks Placed ℕ) (ArmAsks Placed ℕ) (ArmAsks Placed ℕ) (ArmAsks Placed ℕ) equation_step arm_step guard_step handler_step state_step test_step

  abbrev pub state : State Placed → ArmAsks Placed ℕ
  state = fold-State Placed (Asks Placed ℕ) (CaseAsks Placed ℕ) (ArmAsks Placed ℕ) (ArmAsks Placed ℕ) (ArmAsks Placed ℕ) (ArmAsks Placed ℕ) equation_step arm_step guard_step handler_step state_step test_step

  abbrev pub test : Test Placed → ArmAsks Placed ℕ
  test = fold-Test Placed (Asks Placed ℕ) (CaseAsks Placed ℕ) (ArmAsks Placed ℕ) (ArmAsks Placed ℕ) (ArmAsks Placed ℕ) (ArmAsks Placed ℕ) equation_step arm_step guard_step handler_step state_step test_step

  abbrev pub equations : List (Equation Placed) → List (Asks Placed ℕ)
  equations = map asks

  abbrev pub arms : List (Arm Placed) → List (ArmAsks Placed ℕ)
  arms = map {A = Arm Placed} {B = ArmAsks Placed ℕ} (λ a. handler a.handler)

  abbrev pub guards : List (Guard Placed) → List (ArmAsks Placed ℕ)
  guards = map guard

  abbrev pub states : List (State Placed) → List (ArmAsks Placed ℕ)
  states = map state

  abbrev pub tests : List (Test Placed) → List (ArmAsks Placed ℕ)
  tests = map test

  abbrev pub otherwise : Option (Handler Placed) → List (ArmAsks Placed ℕ)
  otherwise o = option_list (option_map handler o)

  -- ---- definitions

  abbrev pub name_asks : Mark → ℕ → List (Demand ℕ)
  name_asks = D.name_asks g.sigs.now types

  abbrev pub signal_asks : Bool → ℕ → List (Demand ℕ)
  signal_asks = D.variable_asks g.sigs.now types

  abbrev pub params_named : List ℕ → ℕ → List (Demand ℕ)
  params_named = D.params_named g.sigs.now types marks (λ k. k)

  abbrev pub vars_named : List Variable → ℕ → List (Demand ℕ)
  vars_named = D.vars_named g.sigs.now types (λ k. k)

  abbrev pub own_parts : ℕ → List (ℕ × ℕ) → List (ℕ × TypeTerm)
  own_parts = B.own_parts Placed ℕ bound_of place_of g.sigs.now types g.params.now marks g.vars.now type_of

  abbrev pub own_missing : ℕ → List (ℕ × ℕ) → List (Demand ℕ)
  own_missing = B.own_missing Placed ℕ bound_of place_of g.sigs.now types g.params.now marks g.vars.now type_of

  abbrev pub alone_asks : Bool → ℕ → ℕ → Option ℕ → List (Demand ℕ)
  alone_asks signal u k None = Never ∷ []
  alone_asks true u k (Some x) = Fits ((u, t.Signal any) ∷ []) ∷ same_as (type_of (b.Param k)) u
  alone_asks false u k (Some x) = same_as (type_of (b.Param k)) u

  abbrev pub data_asks : ℕ → ℕ → TypeTerm → List (ℕ × ℕ) → List (Demand ℕ)
  data_asks u k whole names = Fits ((u, whole) ∷ own_parts k names) ∷ own_missing k names

  abbrev pub param_asks : Mark → ℕ → ℕ → Shape → List (Demand ℕ)
  param_asks = B.param_asks Placed ℕ bound_of place_of g.sigs.now types g.params.now marks g.vars.now type_of

  abbrev pub params_ask : List Pat → List Mark → List Placed → ℕ → List (Demand ℕ)
  params_ask = B.params_ask Placed ℕ bound_of place_of g.sigs.now types g.params.now marks g.vars.now type_of

  abbrev pub body_asks : ℕ → BodyOf Placed → List (Demand ℕ)
  body_asks = B.body_asks Placed ℕ bound_of place_of g.sigs.now types g.params.now marks g.vars.now type_of

  -- what a definition asks, after these signatures
  abbrev pub definition_asks : Definition Placed → List (Demand ℕ)
  definition_asks d = D.definition_asks g.sigs.now types bound_of place_of g.vars.now (λ k. k) d

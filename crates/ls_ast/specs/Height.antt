-- How deeply a definition nests: what has no parts has height 1, and everything else 1 more than its highest part.
--
-- The parts are expressions, patterns, equations, handlers, guards and bodies. A branch of a `merge`, an arm of a `match`, a test of a `present` and a state of an
-- `automaton` are no level of their own: what stands in them is a part of the expression or equation that they belong to. So a test's pattern is a part of its `present`,
-- and a state's handler and guards are parts of its `automaton`. Names, cases and a type's constructors are no parts.
use Rattle.std.specs.Prelude.{ℕ, ◌+◌, max, List, [], ◌∷◌, map, Option, Some, None, option_map}
use Rattle.ls_ast.specs.declared.tree.Case.{Case}
use Rattle.ls_ast.specs.declared.tree.Pat.{Pat, fold-Pat}
use Rattle.ls_ast.specs.declared.tree.Pat.TheOpen.{Pat-F}
use Rattle.ls_ast.specs.declared.tree.Expr.{Expr, Expr-F, fold-Expr}
use Rattle.ls_ast.specs.declared.tree.Form.{Form, fold-Form}
use Rattle.ls_ast.specs.declared.tree.Form.TheOpen.{Form-F}
use Rattle.ls_ast.specs.declared.tree.Equation.{Equation, fold-Equation}
use Rattle.ls_ast.specs.declared.tree.Equation.TheOpen.{Equation-F, Arm-F, Guard-F, Handler-F, State-F, Test-F}
use Rattle.ls_ast.specs.declared.tree.Arm.{Arm, fold-Arm}
use Rattle.ls_ast.specs.declared.tree.Guard.{Guard, fold-Guard}
use Rattle.ls_ast.specs.declared.tree.Handler.{Handler, fold-Handler}
use Rattle.ls_ast.specs.declared.tree.State.{State, fold-State}
use Rattle.ls_ast.specs.declared.tree.Test.{Test, fold-Test}
use Rattle.ls_ast.specs.declared.tree.BodyOf.{BodyOf}
use Rattle.ls_ast.specs.declared.tree.DefOf.{DefOf}

-- the highest of the heights of some parts, 0 where there are none
abbrev pub highest : List ℕ → ℕ
highest [] = 0
highest (n ∷ ns) = max n (highest ns)

-- the highest branch of a `merge`
abbrev pub highest_branch : List (Case × ℕ) → ℕ
highest_branch [] = 0
highest_branch (branch ∷ others) = max branch.1 (highest_branch others)

-- the height of a part that may be absent
abbrev pub if_any : Option ℕ → ℕ
if_any None = 0
if_any (Some n) = n

-- the height of a pattern from those of its parts
abbrev pub pat_step : Pat-F ℕ → ℕ
pat_step Pat-F.Any = 1
pat_step Pat-F.Unit = 1
pat_step (Pat-F.Var name) = 1
pat_step (Pat-F.Tuple parts) = highest parts + 1

abbrev pub pat_height : Pat → ℕ
pat_height = fold-Pat ℕ pat_step

-- the height of an expression from those of its parts
abbrev pub form_step : {N : Type 0} → Form-F N ℕ ℕ → ℕ
form_step (Form-F.Leaf leaf) = 1
form_step (Form-F.Case name) = 1
form_step (Form-F.Var name) = 1
form_step (Form-F.Last name) = 1
form_step (Form-F.Asked name) = 1
form_step (Form-F.Op op args) = highest args + 1
form_step (Form-F.Tuple parts) = highest parts + 1
form_step (Form-F.Pre e) = e + 1
form_step (Form-F.Fby a b) = max a b + 1
form_step (Form-F.Init a b) = max a b + 1
form_step (Form-F.When e name case) = e + 1
form_step (Form-F.Merge name branches) = highest_branch branches + 1
form_step (Form-F.Call run head args every) = max (highest args) (if_any every) + 1

abbrev pub expr_step : {N : Type 0} → Expr-F N ℕ ℕ → ℕ
expr_step e = e.form

abbrev pub expr_height : {N : Type 0} → Expr N → ℕ
expr_height {N} = fold-Expr N ℕ ℕ form_step expr_step

abbrev pub form_height : {N : Type 0} → Form N → ℕ
form_height {N} = fold-Form N ℕ ℕ form_step expr_step

-- the height of an equation from those of its parts
abbrev pub eq_step : {N : Type 0} → Equation-F N ℕ ℕ ℕ ℕ ℕ ℕ → ℕ
eq_step (Equation-F.Plain pat e) = max (pat_height pat) (expr_height e) + 1
eq_step (Equation-F.Clock name e) = expr_height e + 1
eq_step (Equation-F.Initial name e) = expr_height e + 1
eq_step (Equation-F.Emit name e) = expr_height e + 1
eq_step (Equation-F.Reset eqs e) = max (highest eqs) (expr_height e) + 1
eq_step (Equation-F.Match e arms) = max (expr_height e) (highest arms) + 1
eq_step (Equation-F.Present tests other) = max (highest tests) (if_any other) + 1
eq_step (Equation-F.Automaton states) = highest states + 1

-- the part that an arm gives to its `match`
abbrev pub arm_step : {N : Type 0} → Arm-F N ℕ ℕ ℕ ℕ ℕ ℕ → ℕ
arm_step arm = arm.handler

abbrev pub guard_step : {N : Type 0} → Guard-F N ℕ ℕ ℕ ℕ ℕ ℕ → ℕ
guard_step guard = max (highest guard.eqs) (expr_height guard.cond) + 1

abbrev pub handler_step : {N : Type 0} → Handler-F N ℕ ℕ ℕ ℕ ℕ ℕ → ℕ
handler_step handler = max (highest handler.locals) (highest handler.eqs) + 1

-- the highest part that a state gives to its `automaton`
abbrev pub state_step : {N : Type 0} → State-F N ℕ ℕ ℕ ℕ ℕ ℕ → ℕ
state_step state = max state.handler (max (highest state.strong) (highest state.weak))

-- the highest part that a test gives to its `present`
abbrev pub test_step : {N : Type 0} → Test-F N ℕ ℕ ℕ ℕ ℕ ℕ → ℕ
test_step test = max (if_any (option_map pat_height test.pat)) test.handler

module _ {N : Type 0} where
  abbrev pub eq_height : Equation N → ℕ
  eq_height = fold-Equation N ℕ ℕ ℕ ℕ ℕ ℕ eq_step arm_step guard_step handler_step state_step test_step

  abbrev pub arm_height : Arm N → ℕ
  arm_height = fold-Arm N ℕ ℕ ℕ ℕ ℕ ℕ eq_step arm_step guard_step handler_step state_step test_step

  abbrev pub guard_height : Guard N → ℕ
  guard_height = fold-Guard N ℕ ℕ ℕ ℕ ℕ ℕ eq_step arm_step guard_step handler_step state_step test_step

  abbrev pub handler_height : Handler N → ℕ
  handler_height = fold-Handler N ℕ ℕ ℕ ℕ ℕ ℕ eq_step arm_step guard_step handler_step state_step test_step

  abbrev pub state_height : State N → ℕ
  state_height = fold-State N ℕ ℕ ℕ ℕ ℕ ℕ eq_step arm_step guard_step handler_step state_step test_step

  abbrev pub test_height : Test N → ℕ
  test_height = fold-Test N ℕ ℕ ℕ ℕ ℕ ℕ eq_step arm_step guard_step handler_step state_step test_step

  abbrev pub body_height : BodyOf N → ℕ
  body_height body = max (expr_height body.result) (highest (map eq_height body.eqs)) + 1

  -- the height of a definition
  abbrev pub height : DefOf N → ℕ
  height (DefOf.Cases line name cases) = 1
  height (DefOf.Let line node name params marks notes body) = max (highest (map pat_height params)) (body_height body) + 1

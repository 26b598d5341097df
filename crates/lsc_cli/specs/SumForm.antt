-- The one form of file that is run: `let node NAME PARAM = RESULT where S = PARAM + (K fby Y)`, where S
-- is another name than PARAM, RESULT and Y are PARAM or S, and K is an integer.
use Rattle.std.specs.Prelude.{ℕ, ℤ, Bool, true, false, ◌==◌, not, ◌||◌, if◌then◌else◌, List, [], ◌∷◌, Option, Some, None, option_and_then}
use Rattle.ls_base.specs.declared.Name.{Name}
use Rattle.ls_ops.specs.declared.kinds.Op.{Op}
use Rattle.ls_ops.specs.declared.kinds.Op.TheVariants as ops
use Rattle.ls_value.specs.declared.leaf.Leaf.{Leaf}
use Rattle.ls_value.specs.declared.leaf.Leaf.TheVariants as leaves
use Rattle.ls_ast.specs.declared.tree.Arm.{Arm}
use Rattle.ls_ast.specs.declared.tree.BodyOf.{BodyOf}
use Rattle.ls_ast.specs.declared.tree.DefOf.{DefOf}
use Rattle.ls_ast.specs.declared.tree.DefOf.TheVariants as defs
use Rattle.ls_ast.specs.declared.tree.Equation.{Equation, out-Equation}
use Rattle.ls_ast.specs.declared.tree.Equation.TheOpen.{Equation-F}
use Rattle.ls_ast.specs.declared.tree.Expr.{Expr}
use Rattle.ls_ast.specs.declared.tree.Form.{Form, out-Form}
use Rattle.ls_ast.specs.declared.tree.Form.TheOpen.{Form-F}
use Rattle.ls_ast.specs.declared.tree.Guard.{Guard}
use Rattle.ls_ast.specs.declared.tree.Handler.{Handler}
use Rattle.ls_ast.specs.declared.tree.State.{State}
use Rattle.ls_ast.specs.declared.tree.Test.{Test}
use Rattle.ls_ast.specs.declared.tree.Pat.{Pat, out-Pat}
use Rattle.ls_ast.specs.declared.tree.Pat.TheOpen.{Pat-F}
use Rattle.ls_ast.specs.declared.tree.Plain.{Plain}
use Rattle.lsc_cli.specs.declared.form.Delay.{Delay}
use Rattle.lsc_cli.specs.declared.form.Addition.{Addition}
use Rattle.lsc_cli.specs.declared.form.SumNode.{SumNode}
use Rattle.sum_model.specs.declared.running_sum.RunningSum.{RunningSum}
use Rattle.sum_model.specs.declared.running_sum.Stream.{Stream}
use Rattle.sum_model.specs.declared.running_sum.Stream.TheVariants.{Param, Sum}

infixl 10 ◌>>=◌
abbrev pub ◌>>=◌ : {A B : Type 0} → Option A → (A → Option B) → Option B
o >>= f = option_and_then f o

abbrev pub is_name : Name → Name → Bool
is_name a b = a.0 == b.0

-- the name that an expression is
abbrev pub variable_at : Form-F Plain (Form Plain) (Expr Plain) → Option Name
variable_at (Form-F.Var name) = Some name
variable_at _ = None

abbrev pub variable_of : Expr Plain → Option Name
variable_of e = variable_at (out-Form Plain e.form)

-- the integer that an expression is
abbrev pub integer_at : Form-F Plain (Form Plain) (Expr Plain) → Option ℤ
integer_at (Form-F.Leaf (leaves.Int n)) = Some n
integer_at _ = None

abbrev pub integer_of : Expr Plain → Option ℤ
integer_of e = integer_at (out-Form Plain e.form)

-- `K fby Y`
abbrev pub delay_at : Form-F Plain (Form Plain) (Expr Plain) → Option Delay
delay_at (Form-F.Fby a b) = do
  first ← integer_of a
  delayed ← variable_of b
  Some (record { first = first; delayed = delayed })
delay_at _ = None

abbrev pub delay_of : Expr Plain → Option Delay
delay_of e = delay_at (out-Form Plain e.form)

-- `X + (K fby Y)`
abbrev pub addition_of_two : List (Expr Plain) → Option Addition
addition_of_two (a ∷ b ∷ []) = do
  added ← variable_of a
  delay ← delay_of b
  Some (record { added = added; delay = delay })
addition_of_two _ = None

abbrev pub addition_at : Form-F Plain (Form Plain) (Expr Plain) → Option Addition
addition_at (Form-F.Op ops.Add operands) = addition_of_two operands
addition_at _ = None

abbrev pub addition_of : Expr Plain → Option Addition
addition_of e = addition_at (out-Form Plain e.form)

-- the name that a pattern is
abbrev pub name_at : Pat-F Pat → Option Name
name_at (Pat-F.Var name) = Some name
name_at _ = None

abbrev pub name_of : Pat → Option Name
name_of pat = name_at (out-Pat pat)

-- which of the two streams a name means
abbrev pub stream_of : Name → Name → Name → Option Stream
stream_of param sum name = if is_name name param then Some Param else (if is_name name sum then Some Sum else None)

-- the body where the names are as they are to be
abbrev pub body_of : Name → Name → Name → Addition → Option RunningSum
body_of param sum shown addition =
    if is_name sum param || not (is_name addition.added param) then None else do
      delayed ← stream_of param sum addition.delay.delayed
      result ← stream_of param sum shown
      Some (record { first = addition.delay.first; delayed = delayed; result = result })

-- `S = X + (K fby Y)`, after the parameter and the result
abbrev pub equation_at : Name → Name → Equation-F Plain (Equation Plain) (Arm Plain) (Guard Plain) (Handler Plain) (State Plain) (Test Plain) → Option RunningSum
equation_at param shown (Equation-F.Plain pat e) = do
  sum ← name_of pat
  addition ← addition_of e
  body_of param sum shown addition
equation_at param shown _ = None

abbrev pub only_equation : Name → Name → List (Equation Plain) → Option RunningSum
only_equation param shown (e ∷ []) = equation_at param shown (out-Equation Plain e)
only_equation param shown _ = None

abbrev pub only_param : List Pat → Option Name
only_param (pat ∷ []) = name_of pat
only_param _ = None

abbrev pub node_of : Name → List Pat → BodyOf Plain → Option SumNode
node_of name params body = do
  param ← only_param params
  shown ← variable_of body.result
  sum ← only_equation param shown body.eqs
  Some (record { name = name; body = sum })

abbrev pub definition_of : DefOf Plain → Option SumNode
definition_of (defs.Let line node name params marks notes body) = if node then node_of name params body else None
definition_of (defs.Cases line name cases) = None

-- the node, where the file is one definition of the form
abbrev pub file_of : List (DefOf Plain) → Option SumNode
file_of (def ∷ []) = definition_of def
file_of _ = None

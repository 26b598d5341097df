-- The trees that the rules of the grammar make. The parser leaves each note and each mark empty.
use Rattle.std.specs.Prelude.{ℕ, option_map, List, [], ◌∷◌, ◌++◌, map, Option, Some, None, Bool, true, false}
use Rattle.ls_ast.specs.declared.tree.Arm.{Arm}
use Rattle.ls_ast.specs.declared.tree.BodyOf.{BodyOf}
use Rattle.ls_ast.specs.declared.tree.DefOf.{DefOf}
use Rattle.ls_ast.specs.declared.tree.DefOf.TheVariants as def
use Rattle.ls_ast.specs.declared.tree.Equation.{Equation}
use Rattle.ls_ast.specs.declared.tree.Guard.{Guard}
use Rattle.ls_ast.specs.declared.tree.Handler.{Handler}
use Rattle.ls_ast.specs.declared.tree.Mark.TheVariants as mark
use Rattle.ls_ast.specs.declared.tree.Pat.{Pat}
use Rattle.ls_ast.specs.declared.tree.State.{State, roll-State}
use Rattle.ls_ast.specs.declared.tree.Test.{Test}
use Rattle.ls_ast.specs.declared.tree.Case.TheVariants as case
use Rattle.ls_ast.specs.declared.tree.Expr.{Expr}
use Rattle.ls_ast.specs.declared.tree.Form.{Form}
use Rattle.ls_ast.specs.declared.tree.Form.TheVariants as form
use Rattle.ls_ast.specs.declared.tree.Plain.{Plain}
use Rattle.ls_base.specs.declared.Line.{Line}
use Rattle.ls_base.specs.declared.Name.{Name}
use Rattle.ls_lexer.specs.declared.token.Fixed.{Fixed}
use Rattle.ls_lexer.specs.declared.token.Fixed.TheVariants.{KwFalse, KwTrue}
use Rattle.ls_lexer.specs.declared.token.Token.{Token}
use Rattle.ls_lexer.specs.declared.token.Token.TheVariants.{Fixed as Word, Id, Cons, Int, Char, Text, Prefix}
use Rattle.ls_ops.specs.Signature.{signature_of}
use Rattle.ls_ops.specs.declared.kinds.Op.{Op}
use Rattle.ls_ops.specs.declared.kinds.Op.TheVariants as op
use Rattle.ls_ops.specs.declared.kinds.OpSign.{OpSign}
use Rattle.ls_ops.specs.declared.kinds.OpSign.TheVariants as sign
use Rattle.ls_value.specs.declared.leaf.Leaf.{Leaf}
use Rattle.ls_value.specs.declared.leaf.Leaf.TheVariants as leaf

abbrev pub Tree : Type 0
Tree = Expr Plain

abbrev pub plain : Plain
plain = record {}

abbrev pub node : Form Plain → Tree
node form = record { note = plain; form = form }

abbrev pub constant : Leaf → Tree
constant value = node (form.Leaf value)

abbrev pub truth : Fixed → Option Bool
truth KwTrue = Some true
truth KwFalse = Some false
truth _ = None

-- a literal, a constructor or a name
abbrev pub simple : Token → Option Tree
simple (Int i) = Some (constant (leaf.Int i))
simple (Char c) = Some (constant (leaf.Char c))
simple (Text t) = Some (constant (leaf.Text t))
simple (Cons k) = Some (node (form.Case k))
simple (Id x) = Some (node (form.Var x))
simple (Word w) = option_map (λ b. constant (leaf.Bool b)) (truth w)
simple (Prefix o) = None

-- if c then a else b
abbrev pub chosen : Tree × (Tree × Tree) → Tree
chosen x = node (form.Op op.Choose (x.0 ∷ x.1.0 ∷ x.1.1 ∷ []))

-- an operator before its operand
abbrev pub unary : Op → Tree → Tree
unary op x = node (form.Op op (x ∷ []))

-- an operator between its operands
abbrev pub binary : Op → Tree → Tree → Tree
binary op x y = node (form.Op op (x ∷ y ∷ []))

-- pre e
abbrev pub previous : Tree → Tree
previous x = node (form.Pre x)

-- a call, or a name alone
abbrev pub applied : Bool → Name → List Tree → Option Tree
applied false name [] = Some (node (form.Var name))
applied true name [] = None
applied run name (x ∷ xs) = Some (node (form.Call run name (x ∷ xs) None))

-- a call of which the arguments are given
abbrev pub called : Option Tree → Bool × (Name × List Tree) → Tree
called every call = node (form.Call call.0 call.1.0 call.1.1 every)

-- merge c a b
abbrev pub merged : Name → Tree → Tree → Tree
merged name x y = node (form.Merge name ((case.True, x) ∷ (case.False, y) ∷ []))

-- how many operands an operator has
abbrev pub operands_of : OpSign → ℕ
operands_of (sign.Ints n) = n
operands_of (sign.IntPred n) = n
operands_of (sign.Bools n) = n
operands_of sign.CharPred = 1
operands_of sign.CharInt = 1
operands_of sign.Same = 2
operands_of sign.Choice = 3

abbrev pub operands : Op → ℕ
operands op = operands_of (signature_of op)

-- a guard of a parsed tree, which has no equations
abbrev pub guard : Tree → Bool → Name → Guard Plain
guard cond restart target = record { eqs = []; cond = cond; restart = restart; target = target }

abbrev pub arm_of : Option Name → Handler Plain → Arm Plain
arm_of name handler = record { «case» = name; handler = handler }

-- the arms of a `match`, the one for all other cases last
abbrev pub arms_of : List (Arm Plain) → Option (Arm Plain) → List (Arm Plain)
arms_of arms None = arms
arms_of arms (Some other) = arms ++ other ∷ []

abbrev pub test_of : Name → Option Pat → Handler Plain → Test Plain
test_of signal pattern handler = record { signal = signal; pat = pattern; handler = handler }

-- the guards that are strong, or those that are weak
abbrev pub guards_that : Bool → List (Bool × Guard Plain) → List (Guard Plain)
guards_that strong [] = []
guards_that true ((true, g) ∷ gs) = g ∷ guards_that true gs
guards_that true ((false, g) ∷ gs) = guards_that true gs
guards_that false ((true, g) ∷ gs) = guards_that false gs
guards_that false ((false, g) ∷ gs) = g ∷ guards_that false gs

abbrev pub state_with : Name → Handler Plain → List (Guard Plain) → List (Guard Plain) → State Plain
state_with name handler strong weak = roll-State Plain (record { name = name; handler = handler; strong = strong; weak = weak })

abbrev pub state_of : Name → Handler Plain → List (Bool × Guard Plain) → State Plain
state_of name handler guards = state_with name handler (guards_that true guards) (guards_that false guards)

-- the strong guards with one that may be strong, and the weak guards with one that may be weak
abbrev pub with_strong : Bool × Guard Plain → List (Guard Plain) → List (Guard Plain)
with_strong (true, g) gs = gs ++ g ∷ []
with_strong (false, g) gs = gs

abbrev pub with_weak : Bool × Guard Plain → List (Guard Plain) → List (Guard Plain)
with_weak (true, g) gs = gs
with_weak (false, g) gs = gs ++ g ∷ []

abbrev pub handler_with : List (Equation Plain) → List (Equation Plain) → Handler Plain
handler_with locals eqs = record { locals = locals; eqs = eqs }

abbrev pub or_none : Option (List (Equation Plain)) → List (Equation Plain)
or_none None = []
or_none (Some eqs) = eqs

abbrev pub handler_of : Option (List (Equation Plain)) → Option (List (Equation Plain)) → Handler Plain
handler_of locals eqs = handler_with (or_none locals) (or_none eqs)

abbrev pub body_with : Tree → List (Equation Plain) → BodyOf Plain
body_with result eqs = record { result = result; eqs = eqs }

abbrev pub body_of : Tree → Option (List (Equation Plain)) → BodyOf Plain
body_of result eqs = body_with result (or_none eqs)

-- a definition with a mark and a note for each parameter
abbrev pub definition : Line → Bool → Name → List Pat → BodyOf Plain → DefOf Plain
definition line is_node name params body = def.Let line is_node name params (map (λ p. mark.Unknown) params) (map (λ p. plain) params) body

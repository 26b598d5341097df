-- Parts of values and of lists, as the program takes them.
use Rattle.std.specs.Prelude.{◌≡◌, ℕ, ◌||◌, Bool, List, [], ◌∷◌, map, nat_eq}
use Rattle.indexmap.specs.IndexSet.{IndexSet, contains}
use Rattle.ls_ast.specs.declared.tree.Case.{Case}
use Rattle.ls_ast.specs.declared.tree.Expr.{Expr}
use Rattle.ls_ast.specs.declared.tree.Form.{Form, fold-Form}
use Rattle.ls_value.specs.declared.leaf.Leaf.{Leaf}
use Rattle.ls_ops.specs.declared.kinds.Op.{Op}
use Rattle.ls_ops.specs.declared.kinds.Op.TheVariants as op
use Rattle.ls_ops.specs.Values.{value_of}
use Rattle.ls_sig.specs.declared.binder.Note.{Note}
use Rattle.ls_terms.specs.declared.clocks.ClockTerm.{ClockTerm}
use Rattle.ls_places.specs.Clocks.{any, clocks_expr, clocks_form, clocks_in, mentions}
use Rattle.kahn_model.specs.declared.cell.Value.{Value}
use Rattle.kahn_model.specs.declared.cell.Value.TheVariants as v
use Rattle.kahn_model.specs.Values.{nil, the_leaf}

-- the first of some values, and Nil where there is none
abbrev pub head : List Value → Value
head [] = nil
head (w ∷ ws) = w

-- the values after the first
abbrev pub tail : List Value → List Value
tail [] = []
tail (w ∷ ws) = ws

-- an operator on the leaves of its operands
abbrev pub by_leaves : Op → List Value → Value
by_leaves op args = v.Leaf (value_of op (map the_leaf args))

-- the leaves after the first
abbrev pub other_leaves : List Leaf → List Leaf
other_leaves [] = []
other_leaves (l ∷ ls) = ls

-- a conjunction, and whether two leaves are equal
abbrev pub and_equal : Leaf → Leaf → Leaf → Leaf
and_equal done a b = value_of op.And (done ∷ value_of op.Equal (a ∷ b ∷ []) ∷ [])

-- the clocks noted in a form
abbrev pub clocks_of : Form Note → List ClockTerm
clocks_of = fold-Form Note (List ClockTerm) (List ClockTerm) clocks_form clocks_expr

abbrev pub choices_clocks : List (Case × Expr Note) → List (Case × List ClockTerm)
choices_clocks = map {A = Case × Expr Note} {B = Case × List ClockTerm} (λ c. (c.0, clocks_in c.1))

-- the variables of a clock
abbrev pub mentioned : ClockTerm → ℕ → Bool
mentioned ck w = mentions w ck

-- the variables of some clocks
abbrev pub any_mentions : List ClockTerm → ℕ → Bool
any_mentions all w = any (map (mentions w) all)

-- some more clock variables in a set
abbrev pub AddsClockVariables : {S : Type 0} → IndexSet ℕ S → (ℕ → Bool) → IndexSet ℕ S → Type 0
AddsClockVariables old more new = (w : ℕ) → contains nat_eq new w ≡ contains nat_eq old w || more w

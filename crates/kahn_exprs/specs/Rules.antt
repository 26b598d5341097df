-- The cell of a form by the rows of its parts, where each is written down.
use Rattle.std.specs.Prelude.{ℕ, Bool, List, [], ◌∷◌, map, Option, Some, None, if◌then◌else◌}
use Rattle.ls_ast.specs.declared.tree.Case.{Case}
use Rattle.ls_ast.specs.declared.tree.Expr.{Expr}
use Rattle.ls_terms.specs.declared.clocks.ClockTerm.{ClockTerm}
use Rattle.ls_places.specs.Places.{Place}
use Rattle.ls_sig.specs.declared.binder.Note.{Note}
use Rattle.kahn_model.specs.declared.cell.Cell.{Cell}
use Rattle.kahn_model.specs.declared.cell.Cell.TheVariants.{Absent, Present}
use Rattle.kahn_model.specs.declared.cell.Value.TheVariants as v
use Rattle.kahn_model.specs.Cells.{after_first, at, is_yes, say, value_in}
use Rattle.kahn_model.specs.Rows.{Row, either, know, know_all, previous}
use Rattle.kahn_model.specs.Choices.{case_value}
use Rattle.kahn_model.specs.Table.{cell_in}
use Rattle.kahn_model.specs.Values.{case_of, nil}
use Rattle.kahn_exprs.specs.declared.body.Body.{Body}
use Rattle.kahn_exprs.specs.declared.rules.Rule.{Rule}
use Rattle.kahn_exprs.specs.declared.rules.Rule.TheVariants as rule
use Rattle.kahn_exprs.specs.Body as spec

-- a row that is written down
abbrev pub Cells : Type 0
Cells = List (Option Cell)

-- the restarts of a place, with those by `every`
abbrev pub restart : Body → Place → Option Cells → Row Bool
restart b p None i = spec.again b p i
restart b p (Some cells) i = either (spec.again b p i) (say is_yes (cell_in cells i))

-- a row on its clock
abbrev pub clocked : Body → ClockTerm → Cells → Row Cell
clocked b ck cells i = at (spec.on b ck i) (cell_in cells i)

-- the cells of some rows at an instant
abbrev pub column : ℕ → List Cells → List (Option Cell)
column i = map {A = Cells} {B = Option Cell} (λ cells. cell_in cells i)

-- the row of the branch that takes the case `k`
abbrev pub branch : Body → ℕ → List (Case × Expr Note) → List Cells → Row Cell
branch b k [] rows i = Some Absent
branch b k (c ∷ choices) [] i = Some Absent
branch b k (c ∷ choices) (row ∷ rows) i = if spec.is_branch b c.0 k then cell_in row i else branch b k choices rows i

abbrev pub merged_case : Body → List (Case × Expr Note) → List Cells → ℕ → Option ℕ → Option Cell
merged_case b choices rows i None = Some (Present nil)
merged_case b choices rows i (Some k) = branch b k choices rows i

abbrev pub merged : Body → List (Case × Expr Note) → List Cells → ℕ → Cell → Option Cell
merged b choices rows i c = merged_case b choices rows i (case_of (value_in c))

-- delays, by the previous instant
abbrev pub pre_at : Cells → Option ℕ → Option Cell
pre_at cells = after_first (Some (Present nil)) (cell_in cells)

abbrev pub fby_at : Cells → Cells → ℕ → Option ℕ → Option Cell
fby_at x y i = after_first (cell_in x i) (cell_in y)

abbrev pub init_at : Cells → Cells → ℕ → Option ℕ → Option Cell
init_at x y i = after_first (cell_in x i) (λ j. cell_in y i)

module _ (b : Body) (p : Place) (note : Note) where
  abbrev pub before : ℕ → Option (Option ℕ)
  before = previous (spec.on b note.ck) (spec.again_too b (spec.again b p) note.restarts)

  abbrev pub rule_cell : Rule → Row Cell
  rule_cell (rule.Leaf l) i = Some (Present (v.Leaf l))
  rule_cell (rule.Case bound) i = Some (Present (case_value bound))
  rule_cell (rule.Last bound) i = spec.last_bound b bound i
  rule_cell (rule.Asked row) i = know (cell_in row.now i) (λ c. Some (spec.asked c))
  rule_cell (rule.Operator o rows) i = know (know_all (column i rows.now)) (λ cs. Some (spec.operated o cs))
  rule_cell (rule.Tuple rows) i = know (know_all (column i rows.now)) (λ cs. Some (spec.tupled cs))
  rule_cell (rule.Pre row) i = know (before i) (pre_at row.now)
  rule_cell (rule.Fby x y) i = know (before i) (fby_at x.now y.now i)
  rule_cell (rule.Init x y) i = know (before i) (init_at x.now y.now i)
  rule_cell (rule.Merge c choices rows) i = know (cell_in c.now i) (merged b choices.now rows.now i)

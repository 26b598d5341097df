-- Laws of the lines of a node.
use Rattle.std.specs.Prelude.{◌≡◌, ℕ, ◌<◌, ◌⊎◌, Bool as Truth, true, false, not, List, length, slice_get, Option, Some, All}
use Rattle.ls_base.specs.declared.Name.{Name}
use Rattle.line_io.specs.declared.form.Cell.{Cell}
use Rattle.line_io.specs.declared.form.Cell.TheVariants.{Leaf as Given}
use Rattle.line_io.specs.declared.form.InputForm.{InputForm}
use Rattle.line_io.specs.Cells.{Fits}
use Rattle.line_io.specs.Rows.{IsWritable}
use Rattle.ls_terms.specs.declared.types.TypeTerm.{TypeTerm}
use Rattle.ls_terms.specs.declared.clocks.ClockTerm.{ClockTerm}
use Rattle.ls_sig.specs.declared.sigs.Sig.{Sig}
use Rattle.kahn_model.specs.declared.cell.Value.{Value}
use Rattle.kahn_model.specs.declared.cell.Cell.{Cell as Argument}
use Rattle.kahn_model.specs.declared.cell.Cell.TheVariants as cell
use Rattle.kahn_model.specs.Values as values
use Rattle.node_lines.specs.Leaves.{is_unit, leaves}
use Rattle.node_lines.specs.Form.{asked, form}
use Rattle.node_lines.specs.Arguments.{is_on, argument}
use Rattle.node_lines.specs.Results.{result_cells}

abbrev pub is_absent : Argument → Truth
is_absent cell.Absent = true
is_absent _ = false

-- In a line that the form spells the cell of a parameter is absent exactly where its clock is off. This holds of each parameter
-- that is a unit or has a leaf, as each of a node that runs.
abbrev pub AbsentByClock : Type 0
AbsentByClock = (cases : List (List Name)) (names : List (List ℕ)) (sig : Sig) (line : List Cell) → Fits (form cases names sig) line
    → (m : ℕ) (t : TypeTerm) (ck : ClockTerm) → slice_get sig.params m ≡ Some t → slice_get sig.clocks m ≡ Some ck → (is_unit t ≡ true) ⊎ (0 < length (leaves t))
    → (c : Argument) → argument sig.params sig.clocks m line ≡ Some c → is_absent c ≡ not (is_on line (asked sig.params ck))

-- each constructor in the value is the form's
abbrev pub IsSpelled : InputForm → Value → Type 0
IsSpelled form w = All (λ leaf. IsWritable form (Given leaf)) (values.leaves w)

-- the cells of a result can be written where each constructor in its value is the form's
abbrev pub ResultsWritable : Type 0
ResultsWritable = (form : InputForm) (t : TypeTerm) (c : Option Argument) → ((w : Value) → c ≡ Some (cell.Present w) → IsSpelled form w)
    → All (IsWritable form) (result_cells t c)

-- How one line is answered.
use Rattle.std.specs.Prelude.{◌≡◌, ℕ, List, [], None, All}
use Rattle.line_io.specs.declared.form.Cell.{Cell}
use Rattle.line_io.specs.Cells.{IsLine}
use Rattle.line_io.specs.Rows.{IsWritable, row_text}
use Rattle.run_text.specs.declared.lines.Answer.{Answer}
use Rattle.run_text.specs.declared.lines.Answer.TheVariants.{Row, Bad, Alarmed}
use Rattle.run_text.specs.RunText.{Node, IsBad, IsAlarmed}
use Rattle.run_text.specs.Machine.{after}

-- The line spells cells whose instant has no alarm; the row that is shown is the node's, and the node has
-- moved on by this line.
pub record HasRow (old new : Node) (shown : List Cell) (line : List ℕ) : Type 0 where
  pub cells : List Cell
  pub spelled : IsLine old.form line cells
  pub quiet : old.alarm_at [] cells ≡ None
  pub row : row_text old.form shown ≡ old.row_at [] cells
  pub writable : All (IsWritable old.form) shown
  pub next : new ≡ after old cells

-- where there is no row, why
abbrev pub IsStuck : Answer → Node → List ℕ → Type 0
IsStuck Row node line = Unit {0}
IsStuck Bad node line = IsBad node.form line
IsStuck (Alarmed kind) node line = IsAlarmed node [] kind line

-- A machine, and what it answers to the lines that come next.
use Rattle.std.specs.Prelude.{◌+◌, ℕ, List, Option, None, Some, if◌then◌else◌}
use Rattle.ls_value.specs.declared.leaf.Leaf.{Leaf}
use Rattle.line_io.specs.declared.form.Cell.{Cell}
use Rattle.line_io.specs.Rows.{row_text}
use Rattle.run_text.specs.RunText.{Node}
use Rattle.run_text.specs.declared.machine.AlarmKind.{AlarmKind}
use Rattle.run_text.specs.declared.machine.AlarmKind.TheVariants.{Division}
use Rattle.step_code.specs.declared.code.Code.{Code}
use Rattle.step_code.specs.Steps.{Moment, moment, step, row, slots_after, form_of}

-- the code, what its slots hold, and the row that was made last
pub record Running : Type 0 where
  pub code : Code
  pub slots : List Leaf
  pub row : List Cell

-- the alarm of a step
abbrev pub alarm_in : Moment → Option AlarmKind
alarm_in m = if m.alarmed then Some Division else None

-- what code answers whose slots hold these leaves
abbrev pub node_on : Code → List Leaf → Node
node_on code slots = record {
  form = form_of code;
  row_at = λ before cells. row_text (form_of code) (row code (step code cells (slots_after code slots before)).slots);
  alarm_at = λ before cells. alarm_in (step code cells (slots_after code slots before));
}

-- the same where so many ticks were counted before
abbrev pub later : ℕ → Moment → Moment
later t m = moment m.slots m.alarmed (t + m.ticks)

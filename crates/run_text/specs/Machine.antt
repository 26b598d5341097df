-- What a step leaves.
use Rattle.std.specs.Prelude.{List, ◌∷◌, Option, Some, None}
use Rattle.line_io.specs.declared.form.Cell.{Cell}
use Rattle.run_text.specs.RunText.{Node}
use Rattle.run_text.specs.declared.machine.AlarmKind.{AlarmKind}
use Rattle.run_text.specs.declared.machine.Stepped.{Stepped}
use Rattle.run_text.specs.declared.machine.Stepped.TheVariants.{Done, Alarmed}

-- what a node answers after a line of these cells
abbrev pub after : Node → List Cell → Node
after node cells = record {
  form = node.form;
  row_at = λ before. node.row_at (cells ∷ before);
  alarm_at = λ before. node.alarm_at (cells ∷ before);
}

-- the answer of a step with this alarm
abbrev pub stepped : Option AlarmKind → Stepped
stepped None = Done
stepped (Some kind) = Alarmed kind

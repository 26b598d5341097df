-- A running sum as its lines see it, and what its machine answers to the lines that come next.
use Rattle.std.specs.Prelude.{ℤ, pos, List, [], ◌∷◌, ◌++◌, Option, None, Some, length, map, slice_get}
use Rattle.std.specs.Int.{int_wrapping_add, w64}
use Rattle.ls_value.specs.declared.leaf.Leaf.TheVariants.{Int}
use Rattle.ls_value.specs.declared.leaf.Shape.TheVariants.{Int as Ints}
use Rattle.line_io.specs.declared.form.InputForm.{InputForm}
use Rattle.line_io.specs.declared.form.Field.{Field}
use Rattle.line_io.specs.declared.form.Cell.{Cell}
use Rattle.line_io.specs.declared.form.Cell.TheVariants.{Absent, Leaf as Given}
use Rattle.line_io.specs.Rows.{row_text}
use Rattle.run_text.specs.RunText.{Node}
use Rattle.sum_model.specs.declared.running_sum.RunningSum.{RunningSum}
use Rattle.sum_model.specs.RunningSum.{network, value_of}

-- the form of a line that has one field, an integer that is always there
abbrev pub int_field : Field
int_field = record { shape = Ints; on = []; signal = None }

abbrev pub int_form : InputForm
int_form = record { fields = int_field ∷ []; cases = []; names = [] }

-- the integer in the first cell; a line of the form has one there
abbrev pub int_at : Option Cell → ℤ
int_at (Some (Given (Int n))) = n
int_at _ = pos 0

abbrev pub int_in : List Cell → ℤ
int_in cells = int_at (slice_get cells 0)

-- a row of one integer
abbrev pub int_row : ℤ → List Cell
int_row n = Given (Int n) ∷ []

-- the row of a cell of the network
abbrev pub network_row : Option ℤ → List Cell
network_row None = Absent ∷ []
network_row (Some n) = int_row n

-- the node: each row is the last cell of the network of the lines up to its own; it has no division
abbrev pub node_of : RunningSum → Node
node_of body = record {
  form = int_form;
  row_at = λ before cells. row_text int_form (network_row (network body (map int_in before ++ int_in cells ∷ []) (length before)));
  alarm_at = λ before cells. None;
}

-- a machine: the body, what its delay remembers, and the row that was made last
pub record Running : Type 0 where
  pub body : RunningSum
  pub memory : ℤ
  pub row : List Cell

-- the sum, where the delay remembers this
abbrev pub sum_at : ℤ → ℤ → ℤ
sum_at memory x = int_wrapping_add w64 x memory

-- what the delay remembers after one more input, and what the result is at it
abbrev pub memory_next : RunningSum → ℤ → ℤ → ℤ
memory_next body memory x = value_of body.delayed x (sum_at memory x)

abbrev pub result_at : RunningSum → ℤ → ℤ → ℤ
result_at body memory x = value_of body.result x (sum_at memory x)

-- what it remembers after several
abbrev pub memory_from : RunningSum → ℤ → List ℤ → ℤ
memory_from body memory [] = memory
memory_from body memory (x ∷ inputs) = memory_from body (memory_next body memory x) inputs

-- what a machine answers whose delay remembers this
abbrev pub node_on : RunningSum → ℤ → Node
node_on body memory = record {
  form = int_form;
  row_at = λ before cells. row_text int_form (int_row (result_at body (memory_from body memory (map int_in before)) (int_in cells)));
  alarm_at = λ before cells. None;
}

-- What a step of step code does: its slots, its ticks, its alarm and its row.
-- The slots keep their leaves from step to step. A step sets the slots of the inputs, evaluates the instructions once, from
-- first to last, and makes the row. There is no jump back.
use Rattle.std.specs.Prelude.{ℕ, zero, suc, ◌+◌, ◌||◌, Bool as Truth, true, false, List, [], ◌∷◌, ◌++◌, Option, None, Some, map, set, slice_get, slice_index_or, if◌then◌else◌}
use Rattle.ls_value.specs.declared.leaf.Leaf.{Leaf}
use Rattle.ls_value.specs.declared.leaf.Leaf.TheVariants.{Nil, Bool}
use Rattle.ls_ops.specs.declared.kinds.Op.{Op}
use Rattle.ls_ops.specs.Values.{value_of, alarm_of}
use Rattle.line_io.specs.declared.form.Cell.{Cell}
use Rattle.line_io.specs.declared.form.Cell.TheVariants.{Absent, Leaf as Given}
use Rattle.line_io.specs.declared.form.Field.{Field}
use Rattle.line_io.specs.declared.form.InputForm.{InputForm}
use Rattle.step_code.specs.declared.code.Code.{Code}
use Rattle.step_code.specs.declared.parts.Slot.{Slot}
use Rattle.step_code.specs.declared.parts.CodeBody.{CodeBody}
use Rattle.step_code.specs.declared.parts.SlotKind.{SlotKind}
use Rattle.step_code.specs.declared.parts.SlotKind.TheVariants as kinds
use Rattle.step_code.specs.declared.parts.InLine.{InLine}
use Rattle.step_code.specs.declared.parts.OutLine.{OutLine}
use Rattle.step_code.specs.declared.parts.Instr.{Instr}
use Rattle.step_code.specs.declared.parts.Instr.TheVariants.{Const, Copy, Op1, Op2, Op3, Test, When, Call}
use Rattle.step_code.specs.Leaves.{tested, is_true}
use Rattle.step_code.specs.Shapes.{shape_at}

-- the slots, whether an alarm was noted, and the number of instructions evaluated so far
pub record Moment : Type 0 where
  pub slots : List Leaf
  pub alarmed : Truth
  pub ticks : ℕ

abbrev pub moment : List Leaf → Truth → ℕ → Moment
moment slots alarmed ticks = record { slots = slots; alarmed = alarmed; ticks = ticks }

abbrev pub slot : Moment → ℕ → Leaf
slot m k = slice_index_or m.slots k Nil

abbrev pub wrote : Moment → ℕ → Leaf → Moment
wrote m d leaf = moment (set m.slots d leaf) m.alarmed (m.ticks + 1)

-- a zero divisor notes the alarm, and the step goes on to its end
abbrev pub operated : Moment → ℕ → Op → List Leaf → Moment
operated m d op args = moment (set m.slots d (value_of op args)) (m.alarmed || alarm_of op args) (m.ticks + 1)

abbrev pub ticked : Moment → Moment
ticked m = moment m.slots m.alarmed (m.ticks + 1)

-- what a body does where its window begins
abbrev pub BodyStep : Type 0
BodyStep = ℕ → Moment → Moment

abbrev pub called : Option BodyStep → BodyStep
called None base m = m
called (Some body) base m = body base m

-- `bodies` do what the bodies of smaller numbers do; slot k of the list is the machine's slot `place k`
module _ (bodies : List BodyStep) (place : ℕ → ℕ) where
  abbrev pub effect : Instr → Moment → Moment
  effect (Const d leaf) m = wrote m (place d) leaf
  effect (Copy d a) m = wrote m (place d) (slot m (place a))
  effect (Op1 op d a) m = operated m (place d) op (slot m (place a) ∷ [])
  effect (Op2 op d a b) m = operated m (place d) op (slot m (place a) ∷ slot m (place b) ∷ [])
  effect (Op3 op d a b c) m = operated m (place d) op (slot m (place a) ∷ slot m (place b) ∷ slot m (place c) ∷ [])
  effect (Test d a leaf) m = wrote m (place d) (tested (slot m (place a)) leaf)
  effect (When g size) m = ticked m
  effect (Call body window) m = called (slice_get bodies body) (place window) (ticked m)

  -- how many of the next instructions are passed over
  abbrev pub skipped : Instr → Moment → ℕ
  skipped (When g size) m = if is_true (slot m (place g)) then 0 else size
  skipped _ m = 0

  -- the instructions of a list from first to last, of which so many are passed over first
  abbrev pub run : ℕ → List Instr → Moment → Moment
  run skip [] m = m
  run (suc skip) (line ∷ rest) m = run skip rest m
  run zero (line ∷ rest) m = run (skipped line m) rest (effect line m)

-- what the bodies do, after those that are done: each calls smaller numbers alone
abbrev pub body_steps : List BodyStep → List CodeBody → List BodyStep
body_steps done [] = done
body_steps done (body ∷ rest) = body_steps (done ++ (λ base. run done (λ k. base + k) 0 body.list) ∷ []) rest

-- ---- slots before the first step, inputs, the row

abbrev pub first_leaf : SlotKind → Leaf
first_leaf (kinds.Mem leaf) = leaf
first_leaf _ = Nil

abbrev pub first_slots : Code → List Leaf
first_slots code = map (λ (s : Slot). first_leaf s.kind) code.slots

abbrev pub input_leaf : Cell → Leaf
input_leaf (Given leaf) = leaf
input_leaf _ = Nil

abbrev pub is_emitted : Cell → Truth
is_emitted (Given leaf) = true
is_emitted _ = false

-- the slot that says whether a signal is emitted: false also where the clock of the signal is off
abbrev pub with_signal : Option ℕ → Cell → List Leaf → List Leaf
with_signal None c slots = slots
with_signal (Some p) c slots = set slots p (Bool (is_emitted c))

-- a field that is absent or not emitted leaves Nil in its slot
abbrev pub with_inputs : List InLine → List Cell → List Leaf → List Leaf
with_inputs [] cells slots = slots
with_inputs (line ∷ rest) [] slots = slots
with_inputs (line ∷ rest) (c ∷ cells) slots = with_inputs rest cells (with_signal line.signal c (set slots line.slot (input_leaf c)))

abbrev pub guarded_cell : List Leaf → Option ℕ → Leaf → Cell
guarded_cell slots None leaf = Given leaf
guarded_cell slots (Some g) leaf = if is_true (slice_index_or slots g Nil) then Given leaf else Absent

abbrev pub out_cell : List Leaf → OutLine → Cell
out_cell slots out = guarded_cell slots out.guard (slice_index_or slots out.slot Nil)

-- the form of the lines of input: a field for each line of input, and signals numbered by the slots that say whether they
-- are emitted
abbrev pub field_of : List Slot → InLine → Field
field_of slots line = record { shape = shape_at slots line.slot; on = line.on; signal = line.signal }

abbrev pub form_of : Code → InputForm
form_of code = record { fields = map (field_of code.slots) code.inputs; cases = code.cases; names = code.names }

-- ---- steps

abbrev pub start : Code → List Cell → List Leaf → Moment
start code line slots = moment (with_inputs code.inputs line slots) false 0

abbrev pub step : Code → List Cell → List Leaf → Moment
step code line slots = run (body_steps [] code.bodies) (λ k. k) 0 code.main (start code line slots)

abbrev pub row : Code → List Leaf → List Cell
row code slots = map (out_cell slots) code.outputs

-- the slots after steps on some lines
abbrev pub slots_after : Code → List Leaf → List (List Cell) → List Leaf
slots_after code slots [] = slots
slots_after code slots (line ∷ lines) = slots_after code (step code line slots).slots lines

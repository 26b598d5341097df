-- Which cells a line gives to the fields of a form.
use Rattle.std.specs.Prelude.{◌≡◌, ℕ, ◌+◌, ◌<◌, ◌≤◌, ◌==◌, ◌⊎◌, Bool, false, List, Option, None, Some, length, slice_get, MatchOption, All, position}
use Rattle.ls_value.specs.declared.leaf.Leaf.{Leaf}
use Rattle.line_io.specs.declared.form.InputForm.{InputForm}
use Rattle.line_io.specs.declared.form.Field.{Field}
use Rattle.line_io.specs.declared.form.Cell.{Cell}
use Rattle.line_io.specs.declared.form.Cell.TheVariants.{Absent, NotEmitted, Leaf as Given}
use Rattle.line_io.specs.declared.form.Reading.{Reading}
use Rattle.line_io.specs.declared.form.Reading.TheVariants.{Dot, Leaf as Holding}
use Rattle.line_io.specs.Fields.{Reads}
use Rattle.line_io.specs.Words.{words_of}

-- a clock is on where each field that it asks for holds the leaf that it asks. It asks only what the words of these
-- fields spell, and not whether their own clocks are on, so it may ask a later field, or itself, and no order matters:
-- a field that is `.`, missing or no spelling holds no leaf
abbrev pub IsOn : List Reading → List (ℕ × Leaf) → Type 0
IsOn readings on = All (λ asked. slice_get readings asked.0 ≡ Some (Holding asked.1)) on

-- the field belongs to the signal
abbrev pub is_of : ℕ → Option ℕ → Bool
is_of signal None = false
is_of signal (Some own) = own == signal

-- the place of a signal's first field
abbrev pub first_of : List Field → ℕ → Option ℕ
first_of fields signal = position (λ field. is_of signal field.signal) fields

-- the field is of a signal that is not emitted: its first field is `.`
abbrev pub IsSilent : List Field → List Reading → Option ℕ → Type 0
IsSilent fields readings signal =
    MatchOption signal ⊥ (λ s. MatchOption (first_of fields s) ⊥ (λ first. slice_get readings first ≡ Some Dot))

-- the cell of a field that reads so: a field whose clock is off, and one of a signal that is not emitted, is `.`, and any
-- other field holds a leaf
abbrev pub CellIs : List Field → List Reading → Field → Reading → Cell → Type 0
CellIs fields readings field reading Absent = (¬ IsOn readings field.on) × (reading ≡ Dot)
CellIs fields readings field reading NotEmitted = IsOn readings field.on × IsSilent fields readings field.signal × (reading ≡ Dot)
CellIs fields readings field reading (Given leaf) = IsOn readings field.on × (¬ IsSilent fields readings field.signal) × (reading ≡ Holding leaf)

-- the cell of the field at a place
abbrev pub CellAt : List Field → List Reading → ℕ → Cell → Type 0
CellAt fields readings at cell =
    MatchOption (slice_get fields at) ⊥ (λ field. MatchOption (slice_get readings at) ⊥ (λ reading. CellIs fields readings field reading cell))

-- the line is spelled by the form, and these are its cells: it has no field too many, and each field has a cell
pub record IsLine (form : InputForm) (line : List ℕ) (cells : List Cell) : Type 0 where
  pub readings : List Reading
  pub reads : Reads form line readings
  pub few : length (words_of line) ≤ length form.fields
  pub all : length cells ≡ length form.fields
  pub each : (at : ℕ) → MatchOption (slice_get cells at) (Unit {0}) (λ cell. CellAt form.fields readings at cell)

-- the number, from 1, of the first bad field: each field before it has a cell and it has none, or there is no such field and
-- the line has a field too many
pub record IsBadField (form : InputForm) (line : List ℕ) (number : ℕ) : Type 0 where
  pub readings : List Reading
  pub reads : Reads form line readings
  pub before : (at : ℕ) → at + 1 < number → (cell : Cell) × CellAt form.fields readings at cell
  pub here : (at : ℕ) (cell : Cell) → at + 1 ≡ number → ¬ CellAt form.fields readings at cell
  pub there : (number ≤ length form.fields) ⊎ (number ≤ length (words_of line))
  pub counted : 0 < number

-- cells fit a form where they are those of a line that it spells
abbrev pub Fits : InputForm → List Cell → Type 0
Fits form cells = (line : List ℕ) × IsLine form line cells

-- How a row of output is written.
use Rattle.std.specs.Prelude.{◌≡◌, ℕ, ◌<◌, List, [], ◌∷◌, ◌++◌, Option, length, slice_get, MatchOption, unwrap_or}
use Rattle.std.specs.List.{flat_map}
use Rattle.std.specs.Option.{option_map, option_and_then}
use Rattle.ls_value.specs.Spelling.{code_of}
use Rattle.ls_value.specs.declared.leaf.Leaf.{Leaf}
use Rattle.ls_value.specs.declared.leaf.Leaf.TheVariants.{Nil, Int, Bool, Char, Text, Enum, Unit as Nothing}
use Rattle.line_io.specs.declared.form.InputForm.{InputForm}
use Rattle.line_io.specs.declared.form.Cell.{Cell}
use Rattle.line_io.specs.declared.form.Cell.TheVariants.{Absent, NotEmitted, Leaf as Given}

-- the spelling of the name of a constructor, where the form has it
abbrev pub case_spelling : InputForm → ℕ → ℕ → Option (List ℕ)
case_spelling form enumeration place =
    option_and_then (λ name. slice_get form.names name.0) (option_and_then (λ cases. slice_get cases place) (slice_get form.cases enumeration))

-- a leaf as a line has it: in its code spelling, but for a constructor, which is written by its name
abbrev pub leaf_text : InputForm → Leaf → List ℕ
leaf_text form Nil = code_of Nil
leaf_text form (Int n) = code_of (Int n)
leaf_text form (Bool b) = code_of (Bool b)
leaf_text form (Char c) = code_of (Char c)
leaf_text form (Text text) = code_of (Text text)
leaf_text form (Enum enumeration place) = unwrap_or (case_spelling form enumeration place) []
leaf_text form Nothing = code_of Nothing

-- a cell as a line has it: `.` where it is absent or not emitted
abbrev pub cell_text : InputForm → Cell → List ℕ
cell_text form Absent = 46 ∷ []
cell_text form NotEmitted = 46 ∷ []
cell_text form (Given leaf) = leaf_text form leaf

-- cells as a line has them behind others: each behind a space
abbrev pub rest_text : InputForm → List Cell → List ℕ
rest_text form cells = flat_map (λ cell. 32 ∷ cell_text form cell) cells

-- the cells joined by one space
abbrev pub cells_text : InputForm → List Cell → List ℕ
cells_text form [] = []
cells_text form (cell ∷ cells) = cell_text form cell ++ rest_text form cells

-- a row as a line: the cells joined by one space, and a newline
abbrev pub row_text : InputForm → List Cell → List ℕ
row_text form cells = cells_text form cells ++ 10 ∷ []

-- a constructor stands in the form's enumerations, and its name in the form's names
abbrev pub HasCase : InputForm → ℕ → ℕ → Type 0
HasCase form enumeration place =
    MatchOption (option_and_then (λ cases. slice_get cases place) (slice_get form.cases enumeration)) ⊥ (λ name. name.0 < length form.names)

-- the cell holds no constructor that the form does not have
abbrev pub IsWritable : InputForm → Cell → Type 0
IsWritable form Absent = Unit {0}
IsWritable form NotEmitted = Unit {0}
IsWritable form (Given Nil) = Unit {0}
IsWritable form (Given (Int n)) = Unit {0}
IsWritable form (Given (Bool b)) = Unit {0}
IsWritable form (Given (Char c)) = Unit {0}
IsWritable form (Given (Text text)) = Unit {0}
IsWritable form (Given (Enum enumeration place)) = HasCase form enumeration place
IsWritable form (Given Nothing) = Unit {0}

-- a text was begun: a front of it was written after what was written before, and the rest of it is still to be written
abbrev pub Begins : Option (List ℕ) → List ℕ → Option (List ℕ) → List ℕ → Type 0
Begins old text new pending = (done : List ℕ) × (new ≡ option_map (λ before. before ++ done) old) × (done ++ pending ≡ text)

-- The meaning of a core: its rows on lines of inputs, and what a full solution of its equations is.
-- A core has one row a variable. A cell is None where the variable is absent, and its leaf where it is present; nothing
-- is unknown here, since a full solution knows every cell. Instants count from 0.
use Rattle.std.specs.Prelude.{◌≡◌, ℕ, zero, suc, ◌-◌, ◌<◌, nat_lt, ◌&&◌, ◌||◌, Bool as Truth, true, false, List, [], ◌∷◌, Option, None, Some, length, map, slice_get, if◌then◌else◌, All}
use Rattle.std.specs.Option.{option_map, option_and_then}
use Rattle.std.specs.List.{list_any}
use Rattle.ls_value.specs.declared.leaf.Leaf.{Leaf}
use Rattle.ls_value.specs.declared.leaf.Leaf.TheVariants.{Nil, Bool}
use Rattle.ls_ops.specs.Values.{value_of, alarm_of}
use Rattle.line_io.specs.declared.form.InputForm.{InputForm}
use Rattle.line_io.specs.declared.form.Cell.{Cell}
use Rattle.line_io.specs.declared.form.Cell.TheVariants.{Absent, NotEmitted, Leaf as Given}
use Rattle.line_io.specs.Cells.{first_of}
use Rattle.core_lang.specs.declared.cores.Core.{Core}
use Rattle.core_lang.specs.declared.equations.CoreEq.{CoreEq}
use Rattle.core_lang.specs.declared.equations.CoreOut.{CoreOut}
use Rattle.core_lang.specs.declared.equations.CoreRight.{CoreRight}
use Rattle.core_lang.specs.declared.equations.CoreRight.TheVariants.{Const, Copy, Op, Pre, Fby, Init, Sample, Choose}
use Rattle.step_code.specs.Leaves.{tested, is_true}
use Rattle.core_lang.specs.Leaves.{leaf_of, is_held}
use Rattle.core_lang.specs.Cores.{input_count}

-- a cell by variable and instant
abbrev pub Table : Type 0
Table = ℕ → ℕ → Option Leaf

-- ---- the previous instant

-- the last instant before i, where no restart stands after it and before i
abbrev pub before : (ℕ → Truth) → (ℕ → Truth) → ℕ → Option ℕ
before on again zero = None
before on again (suc i) = if on i then Some i else (if again i then None else before on again i)

-- the same with i's own restart; None: i is a first instant
abbrev pub previous : (ℕ → Truth) → (ℕ → Truth) → ℕ → Option ℕ
previous on again i = if again i then None else before on again i

-- ---- the cells of one instant, by variable

abbrev pub Cells : Type 0
Cells = ℕ → Option Leaf

abbrev pub is_on : Cells → List (ℕ × Leaf) → Truth
is_on cells [] = true
is_on cells (asked ∷ clock) = is_held (cells asked.0) asked.1 && is_on cells clock

abbrev pub restarts : Cells → List ℕ → Truth
restarts cells [] = false
restarts cells (r ∷ rest) = is_held (cells r) (Bool true) || restarts cells rest

abbrev pub chosen : Cells → Leaf → Leaf → List (Leaf × ℕ) → Leaf
chosen cells so_far c [] = so_far
chosen cells so_far c (branch ∷ rest) =
    chosen cells (if is_true (tested c branch.0) then leaf_of (cells branch.1) else so_far) c rest

abbrev pub first_or : Option Leaf → Leaf → Leaf
first_or None leaf = leaf
first_or (Some old) leaf = old

-- the leaf of a right side, given the cells of this instant and, by variable, the cells of the previous one, if there is one
abbrev pub right_leaf : CoreRight → Cells → Option Cells → Leaf
right_leaf (Const leaf) now past = leaf
right_leaf (Copy a) now past = leaf_of (now a)
right_leaf (Op op args) now past = value_of op (map (λ a. leaf_of (now a)) args)
right_leaf (Pre a) now past = first_or (option_map (λ old. leaf_of (old a)) past) Nil
right_leaf (Fby a b) now past = first_or (option_map (λ old. leaf_of (old b)) past) (leaf_of (now a))
right_leaf (Init a b) now past = first_or (option_map (λ old. leaf_of (now b)) past) (leaf_of (now a))
right_leaf (Sample a) now past = leaf_of (now a)
right_leaf (Choose c branches) now past = chosen now Nil (leaf_of (now c)) branches

-- ---- rows

abbrev pub at : Table → ℕ → Cells
at T i v = T v i

-- the previous instant of an equation
abbrev pub previous_of : Table → CoreEq → ℕ → Option ℕ
previous_of T e i = previous (λ j. is_on (at T j) e.clock) (λ j. restarts (at T j) e.restarts) i

abbrev pub cell : Table → CoreEq → ℕ → Option Leaf
cell T e i = if is_on (at T i) e.clock then Some (right_leaf e.right (at T i) (option_map (at T) (previous_of T e i))) else None

-- the cells that a line gives: a field's, and after the fields whether each signal is emitted
abbrev pub field_cell : Cell → Option Leaf
field_cell Absent = None
field_cell NotEmitted = Some Nil
field_cell (Given leaf) = Some leaf

abbrev pub emitted_cell : Cell → Option Leaf
emitted_cell Absent = None
emitted_cell NotEmitted = Some (Bool false)
emitted_cell (Given leaf) = Some (Bool true)

abbrev pub given : InputForm → List Cell → Cells
given form line v =
    if nat_lt v (length form.fields) then option_and_then field_cell (slice_get line v)
    else option_and_then (λ first. option_and_then emitted_cell (slice_get line first)) (first_of form.fields (v - length form.fields))

-- a full solution on n lines
pub record IsSolution (core : Core) (n : ℕ) (line : ℕ → List Cell) (T : Table) : Type 0 where
  pub is_given : (v i : ℕ) → v < input_count core.inputs → i < n → T v i ≡ given core.inputs (line i) v
  pub is_cell : (i : ℕ) → i < n → All (λ e. T e.var i ≡ cell T e i) core.eqs

-- ---- outputs and alarms

abbrev pub shown : Option Leaf → Cell
shown None = Absent
shown (Some leaf) = Given leaf

-- an output of a signal, where this is the variable that says whether it is emitted
abbrev pub signalled : Cells → ℕ → Option ℕ → Cell
signalled cells var None = shown (cells var)
signalled cells var (Some s) = if is_held (cells s) (Bool true) then shown (cells var) else NotEmitted

abbrev pub output : Cells → CoreOut → Cell
output cells out = signalled cells out.var out.signal

abbrev pub divides : Cells → CoreRight → Truth
divides cells (Op op args) = alarm_of op (map (λ a. leaf_of (cells a)) args)
divides cells _ = false

-- an operator that is present gives the alarm
abbrev pub is_alarmed : Cells → List CoreEq → Truth
is_alarmed cells eqs = list_any (λ e. is_on cells e.clock && divides cells e.right) eqs

-- What the cells of a line give to the parameters of a node.
use Rattle.std.specs.Prelude.{ℕ, ◌&&◌, Bool as Truth, true, false, if◌then◌else◌, List, [], ◌∷◌, map, length, drop, Option, Some, slice_get, unwrap_or}
use Rattle.ls_value.specs.declared.leaf.Leaf.{Leaf}
use Rattle.ls_value.specs.declared.leaf.Leaf.TheVariants.{Nil, Unit as Nothing}
use Rattle.ls_ops.specs.Values.{equality}
use Rattle.line_io.specs.declared.form.Cell.{Cell}
use Rattle.line_io.specs.declared.form.Cell.TheVariants.{Absent, NotEmitted, Leaf as Given}
use Rattle.ls_terms.specs.declared.types.TypeTerm.{TypeTerm, fold-TypeTerm}
use Rattle.ls_terms.specs.declared.types.TypeTerm.TheOpen.{TypeTerm-F}
use Rattle.ls_terms.specs.declared.clocks.ClockTerm.{ClockTerm}
use Rattle.ls_places.specs.Search.{count_up}
use Rattle.kahn_model.specs.declared.cell.Value.{Value}
use Rattle.kahn_model.specs.declared.cell.Value.TheVariants as v
use Rattle.kahn_model.specs.declared.cell.Cell.{Cell as Argument}
use Rattle.kahn_model.specs.declared.cell.Cell.TheVariants as cell
use Rattle.kahn_model.specs.Rows.{know}
use Rattle.kahn_model.specs.Values.{nil}
use Rattle.node_lines.specs.Leaves.{is_unit, field_of}
use Rattle.node_lines.specs.Form.{asked}

-- ---- clocks

-- the two are one leaf, which is not Nil
abbrev pub is_same : Leaf → Leaf → Truth
is_same a b = unwrap_or (equality a b) false

-- the cell holds the leaf
abbrev pub holds : Option Cell → Leaf → Truth
holds (Some (Given own)) leaf = is_same own leaf
holds _ leaf = false

-- the line holds what is asked of a field
abbrev pub is_held : List Cell → ℕ × Leaf → Truth
is_held line a = holds (slice_get line a.0) a.1

-- the clock that asks this is on in a line of these cells
abbrev pub is_on : List Cell → List (ℕ × Leaf) → Truth
is_on line [] = true
is_on line (a ∷ on) = is_held line a && is_on line on

-- ---- values

abbrev pub leaf_in : Cell → Leaf
leaf_in (Given leaf) = leaf
leaf_in _ = Nil

-- the first leaf of some cells, and the cells behind it
abbrev pub take_leaf : List Cell → Value × List Cell
take_leaf [] = (nil, [])
take_leaf (c ∷ cells) = (v.Leaf (leaf_in c), cells)

-- values one after the other, and the cells behind them
abbrev pub take_all : List (List Cell → Value × List Cell) → List Cell → List Value × List Cell
take_all [] cells = ([], cells)
take_all (f ∷ fs) cells = ((f cells).0 ∷ (take_all fs (f cells).1).0, (take_all fs (f cells).1).1)

abbrev pub take_step : TypeTerm-F (List Cell → Value × List Cell) → List Cell → Value × List Cell
take_step (TypeTerm-F.Tuple fs) cells = (v.Tuple (take_all fs cells).0, (take_all fs cells).1)
take_step (TypeTerm-F.Signal f) cells = f cells
take_step (TypeTerm-F.Var x) cells = (nil, cells)
take_step (TypeTerm-F.Arrow kind all to) cells = (nil, cells)
take_step _ cells = take_leaf cells

-- a value of a type, whose leaves are those that the first cells hold, and the cells behind these
abbrev pub take_value : TypeTerm → List Cell → Value × List Cell
take_value = fold-TypeTerm (List Cell → Value × List Cell) take_step

-- ---- parameters

-- a parameter that has fields goes by the first of them
abbrev pub by_fields : TypeTerm → List Cell → Argument
by_fields t [] = cell.Absent
by_fields t (Absent ∷ cells) = cell.Absent
by_fields t (NotEmitted ∷ cells) = cell.Silent
by_fields t (Given leaf ∷ cells) = cell.Present (take_value t (Given leaf ∷ cells)).0

-- one that has none is there where its clock is on
abbrev pub by_clock : Truth → Argument
by_clock on = if on then cell.Present (v.Leaf Nothing) else cell.Absent

-- the cell of a parameter of a type, whose clock is on or off, and whose fields are the first of these
abbrev pub argument_of : TypeTerm → Truth → List Cell → Argument
argument_of t on cells = if is_unit t then by_clock on else by_fields t cells

-- its cell in a line: its fields begin at a place, and its clock asks this
abbrev pub cell_in : TypeTerm → List (ℕ × Leaf) → ℕ → List Cell → Option Argument
cell_in t on at line = Some (argument_of t (is_on line on) (drop at line))

-- the cell of the parameter m, which has this type and this clock
abbrev pub cell_of : List TypeTerm → ℕ → TypeTerm → ClockTerm → List Cell → Option Argument
cell_of params m t ck = cell_in t (asked params ck) (field_of params m)

module _ (params : List TypeTerm) (clocks : List ClockTerm) where
  -- the cell of the parameter m in a line of these cells
  abbrev pub argument : ℕ → List Cell → Option Argument
  argument m line = know (slice_get params m) (λ t. know (slice_get clocks m) (λ ck. cell_of params m t ck line))

  -- the cells of the parameter m in some lines
  abbrev pub column : List (List Cell) → ℕ → List (Option Argument)
  column lines m = map (argument m) lines

  -- the cells of each parameter
  abbrev pub columns : List (List Cell) → List (List (Option Argument))
  columns lines = map (column lines) (count_up (length params) 0)

-- The rows of a table by their kinds, and how they come to be known.
use Rattle.std.specs.Prelude.{◌≡◌, ℕ, ◌+◌, ◌<◌, ◌≤◌, ◌^◌, Bool, false, true, List, [], ◌∷◌, length, Option, Some, None, ◌⊎◌}
use Rattle.ls_places.specs.Search.{nth}
use Rattle.ls_places.specs.declared.definition.Definition.{Definition}
use Rattle.ls_places.specs.declared.definition.Key.{Key}
use Rattle.ls_places.specs.declared.definition.Key.TheVariants as key
use Rattle.kahn_model.specs.declared.cell.Cell.{Cell}
use Rattle.kahn_model.specs.Order.{TableBelow}
use Rattle.kahn_model.specs.Rows.{Below, Row}
use Rattle.kahn_model.specs.Table
use Rattle.kahn_model.specs.Table.{cell_in, read, row_keys}
use Rattle.kahn_model.specs.Turn
use Rattle.kahn_model.specs.Turn.{Table as Asked}
use Rattle.kahn_exprs.specs.declared.body.Body.{Body}
use Rattle.kahn_exprs.specs.declared.table.Rows.{Rows}
use Rattle.kahn_exprs.specs.Body as spec
use Rattle.kahn_exprs.specs.Standing.{InRange, row, table}
use Rattle.kahn_plain.specs.declared.turns.Kind.{Kind}
use Rattle.kahn_plain.specs.declared.turns.Kind.TheVariants as kind

abbrev pub key_of : Kind → ℕ → Key
key_of kind.Var = key.Var
key_of kind.Start = key.Start
key_of kind.Name = key.Name
key_of kind.Reset = key.Reset

-- a clock name has a number after it
abbrev pub IsNumbered : Key → Type 0
IsNumbered (key.Name m) = m + 1 < 2 ^ 32
IsNumbered _ = Unit {0}

-- each clock name of a definition has a number
abbrev pub AreNumbered : Definition → Type 0
AreNumbered d = length d.params + length d.places.names < 2 ^ 32

abbrev pub AllNumbered : List Definition → Type 0
AllNumbered defs = (k : ℕ) (d : Definition) → nth defs k ≡ Some d → AreNumbered d

-- the same, one after the other
abbrev pub EachNumbered : List Definition → Type 0
EachNumbered [] = Unit {0}
EachNumbered (d ∷ defs) = AreNumbered d × EachNumbered defs

-- ---- cells that are put into rows

-- cells of a row are put where none was known, below the instant `n`; `more` says whether there was one
pub record Merged (k : Key) (n : ℕ) (cells : List (Option Cell)) (old : Rows) (more : Bool) (new : Rows) : Type 0 where
  pub lengths : (l : Key) → length (row new l) ≡ length (row old l)
  pub grows : TableBelow (table old) (table new)
  pub only : (l : Key) (i : ℕ) (x : Cell) → table new l i ≡ Some x → (table old l i ≡ Some x) ⊎ ((l ≡ k) × (i < n) × (cell_in cells i ≡ Some x))
  pub filled : n ≤ length (row old k) → (i : ℕ) → i < n → table old k i ≡ None → Below (cell_in cells i) (table new k i)
  pub same : more ≡ false → (l : Key) (i : ℕ) → table new l i ≡ table old l i

-- at one instant
pub record MergedAt (k : Key) (i : ℕ) (cells : List (Option Cell)) (old : Rows) (more : Bool) (new : Rows) : Type 0 where
  pub lengths : (l : Key) → length (row new l) ≡ length (row old l)
  pub grows : TableBelow (table old) (table new)
  pub only : (l : Key) (j : ℕ) (x : Cell) → table new l j ≡ Some x → (table old l j ≡ Some x) ⊎ ((l ≡ k) × (j ≡ i) × (cell_in cells i ≡ Some x))
  pub filled : i < length (row old k) → table old k i ≡ None → Below (cell_in cells i) (table new k i)
  pub same : more ≡ false → (l : Key) (j : ℕ) → table new l j ≡ table old l j

-- ---- the turns of a body, whatever table stands in it

module _ (b : Body) where
  abbrev pub turn_of : Asked → Asked
  turn_of = Turn.turn (spec.cases b) b.defs.now (spec.call b) b.def.now (spec.around b)

  abbrev pub after : ℕ → Asked
  after t = read (Table.after (row_keys b.def.now) b.lines turn_of t)

  abbrev pub least : Asked
  least = read (Table.table_of (spec.cases b) b.defs.now b.lines (spec.call b) b.def.now (spec.around b))

  -- the row of its result
  abbrev pub result : Row Cell
  result = Table.body (spec.cases b) b.defs.now b.lines (spec.call b) (Some b.def.now) (spec.around b)

  -- rows that say no more than the table, with a cell for each line
  pub record Low (r : Rows) : Type 0 where
    pub below : TableBelow (table r) least
    pub shaped : (k : Key) → InRange b.def.now k → length (row r k) ≡ b.lines

  -- a row has what a turn gives it
  abbrev pub Turned : Key → Rows → Rows → Type 0
  Turned k old new = (i : ℕ) → i < b.lines → Below (turn_of (table old) k i) (table new k i)

  -- some rows anew; `more` says whether a cell is known that was not
  pub record Renewed (Which : Key → Type 0) (old : Rows) (more : Bool) (new : Rows) : Type 0 where
    pub low : Low new
    pub grows : TableBelow (table old) (table new)
    pub turned : (k : Key) → Which k → Turned k old new
    pub same : more ≡ false → (l : Key) (i : ℕ) → table new l i ≡ table old l i

  -- all rows anew, so many times: they are the table, or have what so many turns give
  pub record Swept (times : ℕ) (old : Rows) (done : Bool) (new : Rows) : Type 0 where
    pub low : Low new
    pub table_is : done ≡ true → table new ≡ least
    pub above : done ≡ false → (t : ℕ) → TableBelow (after t) (table old) → TableBelow (after (t + times)) (table new)

-- one key, and those of a kind
abbrev pub Only : Key → Key → Type 0
Only k l = l ≡ k

abbrev pub OfKind : Kind → ℕ → ℕ → Key → Type 0
OfKind of from count l = (k : ℕ) × (k < count) × (l ≡ key_of of (from + k))

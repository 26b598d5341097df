-- A table as it stands: its rows by their keys.
use Rattle.std.specs.Prelude.{◌≡◌, ℕ, zero, suc, ◌+◌, ◌-◌, ◌<◌, ◌≤◌, ◌==◌, ◌&&◌, Bool, List, length, [], ◌∷◌, Option, Some, None, Vec, if◌then◌else◌, nat_lt}
use Rattle.kahn_model.specs.declared.cell.Cell.{Cell}
use Rattle.kahn_model.specs.Table.{cell_in, same_key}
use Rattle.kahn_model.specs.Turn.{Table}
use Rattle.ls_places.specs.declared.definition.Definition.{Definition}
use Rattle.ls_places.specs.declared.definition.Key.{Key}
use Rattle.ls_places.specs.declared.definition.Key.TheVariants as key
use Rattle.kahn_exprs.specs.declared.table.Rows.{Rows}

-- the row of this number; what is out of range has no cells
abbrev pub row_at : {Z : Type 0} → List (Vec (Option Cell) Z) → ℕ → List (Option Cell)
row_at [] k = []
row_at (r ∷ rows) zero = r.items
row_at (r ∷ rows) (suc k) = row_at rows k

-- the row of a key
abbrev pub row : Rows → Key → List (Option Cell)
row r (key.Var x) = row_at r.vars.items x
row r (key.Start x) = row_at r.starts.items x
row r (key.Name m) = if nat_lt m r.first then [] else row_at r.names.items (m - r.first)
row r (key.Reset k) = row_at r.resets.items k

-- the table that is asked
abbrev pub table : Rows → Table
table r k = cell_in (row r k)

-- the rows that a body has
abbrev pub InRange : Definition → Key → Type 0
InRange d (key.Var x) = x < length d.places.vars
InRange d (key.Start x) = x < length d.places.vars
InRange d (key.Name m) = (length d.params ≤ m) × (m < length d.params + length d.places.names)
InRange d (key.Reset r) = r < length d.places.resets

-- one cell is another, if it is there
abbrev pub PutAt : {Z : Type 0} → List (Vec (Option Cell) Z) → ℕ → ℕ → Cell → Bool → List (Vec (Option Cell) Z) → Type 0
PutAt old k i c there new = (j m : ℕ) → cell_in (row_at new j) m ≡ (if there && (k == j && i == m) then Some c else cell_in (row_at old j) m)

abbrev pub Put : Rows → Key → ℕ → Cell → Bool → Rows → Type 0
Put old k i c there new = (l : Key) (m : ℕ) → table new l m ≡ (if there && (same_key k l && i == m) then Some c else table old l m)

-- A core run instant by instant: what each equation keeps, and the cells of an instant, solved in the order of the equations.
-- This is no definition of the meaning but a step toward code: its rows are shown to be the full solution.
use Rattle.std.specs.Prelude.{ℕ, zero, suc, ◌==◌, Bool as Truth, true, false, List, [], ◌∷◌, Option, None, Some, if◌then◌else◌}
use Rattle.ls_value.specs.declared.leaf.Leaf.{Leaf}
use Rattle.ls_value.specs.declared.leaf.Leaf.TheVariants.{Nil}
use Rattle.line_io.specs.declared.form.InputForm.{InputForm}
use Rattle.line_io.specs.declared.form.Cell.{Cell}
use Rattle.core_lang.specs.declared.equations.CoreEq.{CoreEq}
use Rattle.core_lang.specs.declared.equations.CoreRight.{CoreRight}
use Rattle.core_lang.specs.declared.equations.CoreRight.TheVariants.{Const, Copy, Op, Pre, Fby, Init, Sample, Choose}
use Rattle.core_lang.specs.Leaves.{leaf_of}
use Rattle.core_lang.specs.Equations.{Cells, Table, is_on, restarts, right_leaf, given}

-- ---- one instant

pub record Kept : Type 0 where
  pub memory : Leaf
  pub first : Truth

-- what each equation keeps
abbrev pub Memory : Type 0
Memory = CoreEq → Kept

-- an instant is first where the equation keeps that it is, or a restart stands at it
abbrev pub is_first : Kept → Truth → Truth
is_first kept again = if again then true else kept.first

abbrev pub past_of : Kept → Truth → Option Cells
past_of kept again = if is_first kept again then None else Some (λ v. Some kept.memory)

abbrev pub cell_now : Memory → CoreEq → Cells → Option Leaf
cell_now memory e cells =
    if is_on cells e.clock then Some (right_leaf e.right cells (past_of (memory e) (restarts cells e.restarts))) else None

abbrev pub with_cell : Cells → ℕ → Option Leaf → Cells
with_cell cells v c w = if v == w then c else cells w

abbrev pub solved : Memory → List CoreEq → Cells → Cells
solved memory [] cells = cells
solved memory (e ∷ rest) cells = solved memory rest (with_cell cells e.var (cell_now memory e cells))

-- ---- from instant to instant

-- what a delay keeps of an instant at which it is on
abbrev pub delayed : CoreRight → Cells → Leaf
delayed (Pre a) cells = leaf_of (cells a)
delayed (Fby a b) cells = leaf_of (cells b)
delayed _ cells = Nil

abbrev pub kept_after : Memory → Cells → CoreEq → Kept
kept_after memory cells e =
    if is_on cells e.clock then record { memory = delayed e.right cells; first = false }
    else record { memory = (memory e).memory; first = is_first (memory e) (restarts cells e.restarts) }

module _ (form : InputForm) (eqs : List CoreEq) (line : ℕ → List Cell) where
  abbrev pub memory_at : ℕ → Memory
  memory_at zero e = record { memory = Nil; first = true }
  memory_at (suc i) e = kept_after (memory_at i) (solved (memory_at i) eqs (given form (line i))) e

  abbrev pub cells_at : ℕ → Cells
  cells_at i = solved (memory_at i) eqs (given form (line i))

  abbrev pub rows : Table
  rows v i = cells_at i v

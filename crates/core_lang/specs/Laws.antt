-- The laws of cores.
use Rattle.std.specs.Prelude.{◌≡◌, ℕ, ◌+◌, ◌<◌, List, length}
use Rattle.line_io.specs.declared.form.Cell.{Cell}
use Rattle.core_lang.specs.declared.cores.Core.{Core}
use Rattle.core_lang.specs.Cores.{input_count, IsCore, RanksRise}
use Rattle.core_lang.specs.Equations.{Table, IsSolution}

-- a core in order has a full solution, which is the same on every number of lines
abbrev pub HasSolution : Type 0
HasSolution = (core : Core) → RanksRise core.eqs → (line : ℕ → List Cell) → ∥ ((T : Table) × ((n : ℕ) → IsSolution core n line T)) ∥₁

-- and no other
abbrev pub OnlySolution : Type 0
OnlySolution = (core : Core) → IsCore core.eqs core.inputs core.outputs → RanksRise core.eqs → (line : ℕ → List Cell) (n : ℕ) (T U : Table)
    → IsSolution core n line T → IsSolution core n line U → (v i : ℕ) → v < input_count core.inputs + length core.eqs → i < n → T v i ≡ U v i

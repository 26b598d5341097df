-- A core in order has a full solution: its rows, run instant by instant.
use Rattle.std.specs.Prelude.{◌≡◌, ℕ, ◌<◌, List}
use Rattle.std.proofs.Common.{arith}
use Rattle.line_io.specs.declared.form.Cell.{Cell}
use Rattle.core_lang.specs.declared.cores.Core.{Core}
use Rattle.core_lang.specs.Cores.{input_count, IsCore, RanksRise}
use Rattle.core_lang.specs.Equations.{Table, cell, IsSolution}
use Rattle.core_lang.proofs.Instants.{rows}
use Rattle.core_lang.proofs.Solved.{rows_given, rows_hold}
use Rattle.core_lang.specs.Orders.{input_vars}
use Rattle.core_lang.proofs.Ordering.{has_range, all_by, ordered}

pub solution : (core : Core) → IsCore core.eqs core.inputs core.outputs → RanksRise core.eqs → (line : ℕ → List Cell) → (n : ℕ) → IsSolution core n line (rows core.inputs core.eqs line)
solution core agrees rising line n = record {
  is_given = λ v i below early. rows_given core.inputs core.eqs line (input_vars core.inputs) (ordered core agrees rising) v i (has_range 0 (input_count core.inputs) v (omega arith) (omega (arith, below)));
  is_cell = λ i early. all_by (λ e. T e.var i ≡ cell T e i) core.eqs (λ e is. rows_hold core.inputs core.eqs line (input_vars core.inputs) (ordered core agrees rising) e is i);
}
  where
    T : Table
    T = rows core.inputs core.eqs line

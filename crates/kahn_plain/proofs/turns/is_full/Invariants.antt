use Rattle.std.proofs.Common.{ℕ, ◌<◌}
use Rattle.kahn_exprs.specs.Standing.{table}
use Rattle.kahn_model.specs.Rows.{IsKnown}
use Rattle.kahn_plain.proofs.turns.is_full.Given as goal

abbrev pub invariant-loop-i : goal.invariant-loop-i
invariant-loop-i l = (j : ℕ) → j < l.i → IsKnown (table l.rows l.key j)

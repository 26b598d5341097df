use Rattle.std.proofs.Common.{◌≡◌}
use Rattle.std.specs.Prelude.{None}
use Rattle.kahn_model.specs.Table.{written_row}
use Rattle.kahn_plain.proofs.equations.unknown_row.Given as goal

abbrev pub invariant-loop-i : goal.invariant-loop-i
invariant-loop-i l = l.done ≡ written_row l._i 0 (λ i. None)

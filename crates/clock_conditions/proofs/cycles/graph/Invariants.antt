use Rattle.std.proofs.Common.{◌≡◌, ◌++◌, drop}
use Rattle.clock_conditions.specs.Bounds as spec
use Rattle.std.specs.Prelude.{length}
use Rattle.clock_conditions.proofs.cycles.graph.Given as goal

abbrev pub invariant-loop-i : goal.invariant-loop-i
invariant-loop-i l =
    (l.rows.0 ≡ length l.all) × (l.rows.1 ++ spec.rows l.all l.notes (drop l.i l.all) l.i ≡ spec.rows l.all l.notes l.all 0)

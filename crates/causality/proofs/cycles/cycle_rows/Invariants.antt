use Rattle.std.proofs.Common.{◌≡◌, ◌++◌, drop}
use Rattle.causality.specs.Cycles as spec
use Rattle.causality.proofs.cycles.cycle_rows.Given as goal

abbrev pub invariant-loop-x : goal.invariant-loop-x
invariant-loop-x l = l.rows ++ spec.rows_in l.nodes (drop l.x-index l.cycle) ≡ spec.rows_in l.nodes l.cycle

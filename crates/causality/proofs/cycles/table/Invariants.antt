use Rattle.std.proofs.Common.{◌≡◌, length, take}
use Rattle.causality.specs.Nodes.{counts, total}
use Rattle.causality.specs.Table as table_spec
use Rattle.causality.proofs.cycles.table.Given as goal

abbrev pub invariant-loop-row : goal.invariant-loop-row
invariant-loop-row l = record { all : length l.table.items ≡ total (counts l.d); so_far : table_spec.IsTable l.d (take l.row-index l.rows) l.table.items }

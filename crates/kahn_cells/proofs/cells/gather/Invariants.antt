use Rattle.std.proofs.Common.{◌≡◌, ◌++◌, drop, Some}
use Rattle.kahn_model.specs.Rows as rows
use Rattle.kahn_cells.proofs.cells.gather.Given as goal

abbrev pub invariant-loop-c : goal.invariant-loop-c
invariant-loop-c l = rows.know (rows.know_all (drop l.c-index l.cells)) (λ cs. Some (l.done ++ cs)) ≡ rows.know_all l.cells

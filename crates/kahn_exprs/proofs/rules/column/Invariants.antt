use Rattle.std.proofs.Common.{◌≡◌, take}
use Rattle.kahn_exprs.specs.Rules as own
use Rattle.kahn_exprs.proofs.rules.column.Given as goal

abbrev pub invariant-loop-cells : goal.invariant-loop-cells
invariant-loop-cells l = l.done ≡ own.column l.i (take l.cells-index l.all)

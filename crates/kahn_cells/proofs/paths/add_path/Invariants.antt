use Rattle.std.proofs.Common.{◌≡◌, ◌++◌, drop}
use Rattle.kahn_cells.proofs.paths.add_path.Given as goal

abbrev pub invariant-loop-a : goal.invariant-loop-a
invariant-loop-a l = l.done ++ drop l.a-index l.path ≡ l.initial.done ++ l.path

use Rattle.std.proofs.Common.{◌≡◌, map, take}
use Rattle.node_lines.specs.Arguments as spec
use Rattle.node_lines.proofs.rows.cells_at.Given as goal

abbrev pub invariant-loop-line : goal.invariant-loop-line
invariant-loop-line l = l.done ≡ map (spec.cell_in l.t l.on l.at) (take l.line-index l.lines)

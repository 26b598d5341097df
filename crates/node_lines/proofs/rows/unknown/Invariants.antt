use Rattle.std.proofs.Common.{◌≡◌, map, take}
use Rattle.node_lines.specs.Starts.{nowhere}
use Rattle.node_lines.proofs.rows.unknown.Given as goal

abbrev pub invariant-loop-line : goal.invariant-loop-line
invariant-loop-line l = l.done ≡ map nowhere (take l._line-index l.lines)

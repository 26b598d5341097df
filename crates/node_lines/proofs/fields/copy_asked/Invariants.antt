use Rattle.std.proofs.Common.{◌≡◌, take}
use Rattle.node_lines.proofs.fields.copy_asked.Given as goal

abbrev pub invariant-loop-at : goal.invariant-loop-at
invariant-loop-at l = l.done ≡ take l.at-index l.on

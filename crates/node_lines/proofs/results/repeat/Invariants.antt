use Rattle.std.proofs.Common.{◌≡◌, replicate}
use Rattle.node_lines.proofs.results.repeat.Given as goal

abbrev pub invariant-loop-made : goal.invariant-loop-made
invariant-loop-made g l = l.done ≡ replicate l._made l.item

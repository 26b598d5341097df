use Rattle.std.proofs.Common.{◌≡◌, replicate}
use Rattle.line_io.proofs.inputs.filled.Given as goal

abbrev pub invariant-loop-made : goal.invariant-loop-made
invariant-loop-made g l = l.items.items ≡ replicate l._made l.item

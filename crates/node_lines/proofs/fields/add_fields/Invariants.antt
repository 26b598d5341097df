use Rattle.std.proofs.Common.{◌≡◌, ◌++◌, drop, map}
use Rattle.node_lines.specs.Form as spec
use Rattle.node_lines.proofs.fields.add_fields.Given as goal

abbrev pub invariant-loop-shape : goal.invariant-loop-shape
invariant-loop-shape l = l.done ++ map (spec.field l.on l.signal) (drop l.shape-index l.shapes) ≡ l.initial.done ++ map (spec.field l.on l.signal) l.shapes

use Rattle.std.proofs.Common.{◌≡◌, ◌++◌, drop, map}
use Rattle.line_io.specs.declared.form.Cell.TheVariants.{Leaf as Given}
use Rattle.node_lines.specs.Results as spec
use Rattle.node_lines.proofs.results.+add.Given as goal

abbrev pub invariant-add_parts-loop-t : goal.invariant-add_parts-loop-t
invariant-add_parts-loop-t l = l.done ++ map Given (spec.part_leaves (map spec.value_leaves (drop l.t-index l.all)) l.rest) ≡ l.initial.done ++ map Given (spec.part_leaves (map spec.value_leaves l.all) l.ws)

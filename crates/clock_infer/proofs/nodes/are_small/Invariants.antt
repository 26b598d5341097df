use Rattle.std.proofs.Common.{◌≡◌, drop}
use Rattle.clock_infer.specs.Nodes as spec
use Rattle.clock_infer.proofs.nodes.are_small.Given as goal

abbrev pub invariant-loop-whole : goal.invariant-loop-whole
invariant-loop-whole l =
    spec.nodes_small l.by.list (drop l.whole-index l.wholes) ≡ spec.nodes_small l.by.list l.wholes

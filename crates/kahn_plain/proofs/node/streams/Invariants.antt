use Rattle.std.proofs.Common.{◌≡◌, map, take}
use Rattle.kahn_exprs.specs.declared.context.Argument.TheVariants.{Stream}
use Rattle.kahn_plain.proofs.node.streams.Given as goal

abbrev pub invariant-loop-cells : goal.invariant-loop-cells
invariant-loop-cells l = l.done ≡ map Stream (take l.cells-index l.args)

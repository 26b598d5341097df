use Rattle.std.proofs.Common.{take}
use Rattle.causality.specs.Table as table_spec
use Rattle.causality.proofs.cycles.items_of.Given as goal

abbrev pub invariant-loop-k : goal.invariant-loop-k
invariant-loop-k l = table_spec.AreOf l.d l.done (take l.k-index l.all)

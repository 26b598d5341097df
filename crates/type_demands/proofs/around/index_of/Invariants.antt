use Rattle.std.proofs.Common.{◌≡◌, drop}
use Rattle.type_rules.specs.Bodies as spec
use Rattle.type_demands.proofs.around.index_of.Given as goal

abbrev pub invariant-loop-k : goal.invariant-loop-k
invariant-loop-k l = spec.index_of l.x (drop l.k l.names) l.k ≡ spec.index_of l.x l.names 0

use Rattle.std.proofs.Common.{◌≡◌, drop, map}
use Rattle.init_rules.specs.Bits as bits
use Rattle.ls_places.specs.Clocks.{any}
use Rattle.ls_places.specs.Search.{nth}
use Rattle.init_check.proofs.graph.binds_zero.Given as goal

abbrev pub invariant-loop-k : goal.invariant-loop-k
invariant-loop-k l = any (map (λ k. bits.is_bound_by_zero (nth l.d.places.vars k) l.s) (drop l.k-index l.s.vars)) ≡ bits.binds_zero l.d l.s

use Rattle.std.proofs.Common.{◌≡◌, ◌++◌, drop}
use Rattle.init_rules.specs.Nodes as spec
use Rattle.init_rules.specs.Nodes.{counts}
use Rattle.place_tables.specs.Groups.{picked}
use Rattle.init_check.proofs.graph.add_sites.Given as goal

abbrev pub invariant-loop-k : goal.invariant-loop-k
invariant-loop-k l = l.out ++ spec.sites_row (counts l.d) (picked l.d.places.sites (drop l.k-index l.numbers)) ≡ l.initial.out ++ spec.sites_row (counts l.d) (picked l.d.places.sites l.numbers)

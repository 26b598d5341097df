use Rattle.std.proofs.Common.{◌≡◌, ◌++◌, drop, map}
use Rattle.init_check.specs.Rows as own
use Rattle.ls_places.specs.Patterns.{joined}
use Rattle.init_check.proofs.graph.add_site_zeros.Given as goal

abbrev pub invariant-loop-s : goal.invariant-loop-s
invariant-loop-s l = l.out ++ joined (map (own.site_zero_nodes l.d) (drop l.s-index l.d.places.sites)) ≡ l.initial.out ++ joined (map (own.site_zero_nodes l.d) l.d.places.sites)

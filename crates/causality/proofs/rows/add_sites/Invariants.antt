use Rattle.std.proofs.Common.{◌≡◌, ◌++◌, drop}
use Rattle.causality.specs.Rows as spec
use Rattle.place_tables.specs.Groups.{picked}
use Rattle.causality.proofs.rows.add_sites.Given as goal

abbrev pub invariant-loop-k : goal.invariant-loop-k
invariant-loop-k l = l.out ++ spec.sites_keys l.d (picked l.d.places.sites (drop l.k-index l.numbers)) ≡ l.initial.out ++ spec.sites_keys l.d (picked l.d.places.sites l.numbers)

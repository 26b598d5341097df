use Rattle.std.proofs.Common.{◌≡◌, ◌++◌, drop}
use Rattle.clock_pairs.specs.Scene as spec
use Rattle.clock_pairs.proofs.equations.add_sites.Given as goal

abbrev pub invariant-loop-site : goal.invariant-loop-site
invariant-loop-site g l =
    l.out ++ spec.sites_pairs g.C.CasePlaces.place l.scene (drop l.site-index l.all) ≡ l.initial.out ++ spec.sites_pairs g.C.CasePlaces.place l.scene l.all

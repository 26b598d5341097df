use Rattle.std.proofs.Common.{◌≡◌, drop, map}
use Rattle.clock_rules.specs.Terms as terms
use Rattle.clock_pairs.proofs.terms.+variables.Given as goal

abbrev pub invariant-greatest-loop-t : goal.invariant-greatest-loop-t
invariant-greatest-loop-t l =
    terms.greatest_from (map terms.variables (drop l.t-index l.all)) l.most ≡ terms.greatest_from (map terms.variables l.all) l.least

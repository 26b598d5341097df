use Rattle.std.proofs.Common.{◌≡◌, ◌++◌, drop, map}
use Rattle.clock_pairs.specs.Terms as spec
use Rattle.clock_rules.specs.Rules as rules
use Rattle.clock_rules.specs.Terms as terms
use Rattle.clock_pairs.proofs.terms.+instance.Given as goal

abbrev pub invariant-instances-loop-t : goal.invariant-instances-loop-t
invariant-instances-loop-t l =
    l.done ++ map (terms.instance (spec.name_at l.names) (rules.at l.by)) (drop l.t-index l.all) ≡ map (terms.instance (spec.name_at l.names) (rules.at l.by)) l.all

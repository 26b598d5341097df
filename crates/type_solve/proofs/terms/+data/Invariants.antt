use Rattle.std.proofs.Common.{◌≡◌, drop, map}
use Rattle.type_rules.specs.Schemes.{is_data, every}
use Rattle.type_solve.proofs.terms.+data.Given as goal

abbrev pub invariant-are_data_terms-loop-t : goal.invariant-are_data_terms-loop-t
invariant-are_data_terms-loop-t l = every (map is_data (drop l.t-index l.all)) ≡ every (map is_data l.all)

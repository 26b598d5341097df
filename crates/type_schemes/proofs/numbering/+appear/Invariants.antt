use Rattle.std.proofs.Common.{◌≡◌, drop, map}
use Rattle.std.specs.Prelude.{nat_eq}
use Rattle.indexmap.specs.IndexSet.{insert_all}
use Rattle.type_rules.specs.Schemes.{joined, vars}
use Rattle.type_schemes.proofs.numbering.+appear.Given as goal

abbrev pub invariant-appear_all-loop-t : goal.invariant-appear_all-loop-t
invariant-appear_all-loop-t l = insert_all nat_eq l.seen.keys (joined (map vars (drop l.t-index l.all))) ≡ insert_all nat_eq l.initial.seen.keys (joined (map vars l.all))

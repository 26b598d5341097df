use Rattle.std.proofs.Common.{◌≡◌, ◌++◌, ◌-◌}
use Rattle.std.specs.Prelude.{replicate}
use Rattle.ls_terms.specs.declared.types.TypeTerm.TheVariants as t
use Rattle.type_readings.proofs.operators.ints.Given as goal

abbrev pub invariant-loop-k : goal.invariant-loop-k
invariant-loop-k l = l.list ++ replicate (l.count - l.k) t.Int ≡ replicate l.count t.Int

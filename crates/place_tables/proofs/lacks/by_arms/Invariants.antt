use Rattle.std.proofs.Common.{◌≡◌, ◌++◌, ℕ, drop}
use Rattle.place_tables.specs.Groups as groups
use Rattle.place_tables.specs.Lacks as own
use Rattle.place_tables.proofs.lacks.by_arms.Given as goal

abbrev pub invariant-loop-k : goal.invariant-loop-k
invariant-loop-k l = (j : ℕ) → groups.group l.done j ++ own.inside l.sites l.m l.skip j (drop l.k-index l.numbers) ≡ own.inside l.sites l.m l.skip j l.numbers

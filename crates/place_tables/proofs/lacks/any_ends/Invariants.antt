use Rattle.std.proofs.Common.{◌≡◌, drop}
use Rattle.place_tables.specs.Lacks as own
use Rattle.place_tables.proofs.lacks.any_ends.Given as goal

abbrev pub invariant-loop-k : goal.invariant-loop-k
invariant-loop-k l = own.any_ends l.sites l.skip (drop l.k-index l.numbers) ≡ own.any_ends l.sites l.skip l.numbers

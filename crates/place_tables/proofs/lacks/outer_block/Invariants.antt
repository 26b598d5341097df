use Rattle.std.proofs.Common.{◌≡◌, drop}
use Rattle.place_tables.specs.Lacks as own
use Rattle.place_tables.proofs.lacks.outer_block.Given as goal

abbrev pub invariant-loop-k : goal.invariant-loop-k
invariant-loop-k l = own.first_block l.sites l.skip (drop l.k-index l.numbers) ≡ own.first_block l.sites l.skip l.numbers

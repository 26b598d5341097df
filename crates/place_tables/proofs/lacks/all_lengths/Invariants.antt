use Rattle.std.proofs.Common.{◌≡◌, ◌+◌, ◌*◌, ◌≤◌, drop}
use Rattle.place_tables.specs.Lacks as own
use Rattle.place_tables.proofs.lacks.all_lengths.Given as goal

abbrev pub invariant-loop-k : goal.invariant-loop-k
invariant-loop-k l = record { so_far : l.sum + own.all_lengths l.sites (drop l.k-index l.numbers) ≡ own.all_lengths l.sites l.numbers; few : l.sum ≤ l.k-index * 4294967295 }

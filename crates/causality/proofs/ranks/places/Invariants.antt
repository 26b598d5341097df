use Rattle.std.proofs.Common.{◌≡◌, ◌-◌, length}
use Rattle.causality.proofs.Tabled.{From}
use Rattle.causality.proofs.ranks.places.Given as goal

abbrev pub invariant-loop-k : goal.invariant-loop-k
invariant-loop-k l = record { all : length l.at.items ≡ l.many; so_far : From l.at.items l.order (length l.order - l.k) }

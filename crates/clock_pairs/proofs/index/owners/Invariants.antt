use Rattle.std.proofs.Common.{◌≡◌, ◌++◌, drop}
use Rattle.clock_pairs.specs.Entries as spec
use Rattle.clock_pairs.proofs.index.owners.Given as goal

abbrev pub invariant-loop-i : goal.invariant-loop-i
invariant-loop-i l =
    l.list.list ++ spec.owners (drop l.i l.all) l.i ≡ spec.owners l.all 0

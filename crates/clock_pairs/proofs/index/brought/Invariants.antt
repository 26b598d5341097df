use Rattle.std.proofs.Common.{◌≡◌, ◌+◌, ◌++◌, drop}
use Rattle.clock_pairs.specs.Entries as spec
use Rattle.clock_pairs.proofs.index.brought.Given as goal

abbrev pub invariant-loop-j : goal.invariant-loop-j
invariant-loop-j l =
    l.list.list ++ spec.brought (drop l.j l.all) (l.first + l.j) ≡ spec.brought l.all l.first

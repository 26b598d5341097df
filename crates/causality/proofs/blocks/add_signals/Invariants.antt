use Rattle.std.proofs.Common.{◌≡◌, ◌++◌, drop, map}
use Rattle.ls_places.specs.Patterns.{joined}
use Rattle.causality_rules.specs.Reads as reads
use Rattle.causality.proofs.blocks.add_signals.Given as goal

abbrev pub invariant-loop-x : goal.invariant-loop-x
invariant-loop-x l = l.out ++ joined (map (reads.signal_rows l.d l.place) (drop l.x-index l.all)) ≡ l.initial.out ++ joined (map (reads.signal_rows l.d l.place) l.all)

use Rattle.std.proofs.Common.{◌≡◌, ◌++◌, drop}
use Rattle.causality.specs.Walks as own
use Rattle.causality.proofs.reads.+clock.Given as goal

abbrev pub invariant-add_all_clocks-loop-ck : goal.invariant-add_all_clocks-loop-ck
invariant-add_all_clocks-loop-ck l = l.out ++ own.clocks_rows l.d (drop l.ck-index l.all) ≡ l.initial.out ++ own.clocks_rows l.d l.all

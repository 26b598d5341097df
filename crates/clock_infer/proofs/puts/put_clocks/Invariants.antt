use Rattle.std.proofs.Common.{◌≡◌, ◌++◌, drop, map}
use Rattle.ls_terms.specs.Clocks.{apply}
use Rattle.term_unify.specs.Terms.{first}
use Rattle.clock_infer.proofs.puts.put_clocks.Given as goal

abbrev pub invariant-loop-ck : goal.invariant-loop-ck
invariant-loop-ck l = l.done ++ map (apply (first l.by.list)) (drop l.ck-index l.clocks) ≡ map (apply (first l.by.list)) l.clocks

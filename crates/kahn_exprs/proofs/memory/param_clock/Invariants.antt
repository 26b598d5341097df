use Rattle.std.proofs.Common.{◌≡◌, drop}
use Rattle.ls_places.specs.Search as search
use Rattle.kahn_exprs.proofs.memory.param_clock.Given as goal

abbrev pub invariant-loop-p : goal.invariant-loop-p
invariant-loop-p l = search.param_clock l.x (drop l.p-index l.params) l.rest ≡ search.param_clock l.x l.params l.clocks

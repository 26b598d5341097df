use Rattle.std.proofs.Common.{◌≡◌, take}
use Rattle.ls_terms.proofs.clocks.+copy.Given as goal

abbrev pub invariant-copy_all-loop-t : goal.invariant-copy_all-loop-t
invariant-copy_all-loop-t l = l.done ≡ take l.t-index l.all

use Rattle.std.proofs.Common.{◌≡◌, take}
use Rattle.core_lang.proofs.copies.copy_clock.Given as goal

abbrev pub invariant-loop-var : goal.invariant-loop-var
invariant-loop-var l = l.done ≡ take l.var-index l.clock

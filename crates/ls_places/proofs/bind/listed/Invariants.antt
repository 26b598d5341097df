use Rattle.std.proofs.Common.{◌≡◌}
use Rattle.ls_places.proofs.bind.listed.Given as goal

abbrev pub invariant-loop-item : goal.invariant-loop-item
invariant-loop-item l = l.done ≡ l.yielded

use Rattle.std.proofs.Common.{◌≡◌, take}
use Rattle.place_tables.specs.Tables as own
use Rattle.place_tables.proofs.params.param_keys.Given as goal

abbrev pub invariant-loop-p : goal.invariant-loop-p
invariant-loop-p l = l.done ≡ own.param_keys (take l.p-index l.all)

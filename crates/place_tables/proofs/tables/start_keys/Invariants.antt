use Rattle.std.proofs.Common.{◌≡◌, take}
use Rattle.place_tables.specs.Tables as own
use Rattle.place_tables.proofs.tables.start_keys.Given as goal

abbrev pub invariant-loop-s : goal.invariant-loop-s
invariant-loop-s l = l.done ≡ own.start_keys (take l.s-index l.all)

use Rattle.std.proofs.Common.{◌≡◌, take}
use Rattle.place_tables.specs.Tables as own
use Rattle.place_tables.proofs.tables.site_keys.Given as goal

abbrev pub invariant-loop-s : goal.invariant-loop-s
invariant-loop-s l = l.done ≡ own.site_keys (take l.s-index l.all)

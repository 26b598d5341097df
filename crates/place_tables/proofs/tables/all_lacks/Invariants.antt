use Rattle.std.proofs.Common.{◌≡◌, ◌++◌, ◌-◌, length}
use Rattle.place_tables.specs.Tables as own
use Rattle.place_tables.proofs.tables.all_lacks.Given as goal

abbrev pub invariant-loop-x : goal.invariant-loop-x
invariant-loop-x l = l.done ++ own.lacks_from l.d l.sites (length l.d.places.vars - l.x) l.x ≡ own.all_lacks l.d l.sites

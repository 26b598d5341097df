use Rattle.std.proofs.Common.{◌≡◌, drop}
use Rattle.place_tables.specs.Groups.{picked}
use Rattle.ls_places.specs.Search.{start_of}
use Rattle.place_tables.proofs.tables.start_among.Given as goal

abbrev pub invariant-loop-k : goal.invariant-loop-k
invariant-loop-k l = start_of l.w (picked l.all (drop l.k-index l.numbers)) ≡ start_of l.w (picked l.all l.numbers)

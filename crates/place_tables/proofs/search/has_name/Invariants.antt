use Rattle.std.proofs.Common.{◌≡◌, drop}
use Rattle.ls_places.specs.Patterns.{has_name as is_among}
use Rattle.place_tables.proofs.search.has_name.Given as goal

abbrev pub invariant-loop-y : goal.invariant-loop-y
invariant-loop-y l = is_among l.x (drop l.y-index l.all) ≡ is_among l.x l.all

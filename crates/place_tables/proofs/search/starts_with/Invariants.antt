use Rattle.std.proofs.Common.{◌≡◌, drop}
use Rattle.ls_places.specs.Search as spec
use Rattle.place_tables.proofs.search.starts_with.Given as goal

abbrev pub invariant-loop-c : goal.invariant-loop-c
invariant-loop-c l = spec.starts_with l.rest (drop l.c-index l.q) ≡ spec.starts_with l.p l.q

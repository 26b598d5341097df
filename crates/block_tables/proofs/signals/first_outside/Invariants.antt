use Rattle.std.proofs.Common.{◌≡◌, drop}
use Rattle.ls_places.specs.Search as spec
use Rattle.block_tables.proofs.signals.first_outside.Given as goal

abbrev pub invariant-loop-x : goal.invariant-loop-x
invariant-loop-x l = spec.first_outside l.d l.m l.p (drop l.x-index l.all) ≡ spec.first_outside l.d l.m l.p l.all

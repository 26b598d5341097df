use Rattle.std.proofs.Common.{◌≡◌, drop}
use Rattle.ls_places.specs.Search as spec
use Rattle.block_tables.proofs.signals.in_modes.Given as goal

abbrev pub invariant-loop-a : goal.invariant-loop-a
invariant-loop-a l = spec.in_modes l.m (drop l.a-index l.p) ≡ spec.in_modes l.m l.p

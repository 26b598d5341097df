use Rattle.std.proofs.Common.{◌≡◌, ◌-◌}
use Rattle.ls_places.specs.Clocks as spec
use Rattle.block_tables.proofs.clocks.bare.Given as goal

abbrev pub invariant-loop-i : goal.invariant-loop-i
invariant-loop-i l = spec.bare (l.n - l._i) l.rest ≡ spec.bare l.n l.ck

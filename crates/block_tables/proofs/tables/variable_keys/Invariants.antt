use Rattle.std.proofs.Common.{◌≡◌, take}
use Rattle.block_tables.specs.Signals as own
use Rattle.block_tables.proofs.tables.variable_keys.Given as goal

abbrev pub invariant-loop-w : goal.invariant-loop-w
invariant-loop-w l = l.done ≡ own.variable_keys (take l.w-index l.all)

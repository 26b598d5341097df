use Rattle.std.proofs.Common.{◌≡◌, drop}
use Rattle.block_tables.specs.Signals as own
use Rattle.block_tables.proofs.signals.signal_among.Given as goal

abbrev pub invariant-loop-k : goal.invariant-loop-k
invariant-loop-k l = own.signal_among l.p l.all (drop l.k-index l.numbers) ≡ own.signal_among l.p l.all l.numbers

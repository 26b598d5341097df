use Rattle.std.proofs.Common.{◌≡◌, map, take}
use Rattle.ls_places.specs.Blocks as spec
use Rattle.ls_places.proofs.blocks.signals_of.Given as goal

abbrev pub invariant-loop-test : goal.invariant-loop-test
invariant-loop-test g l = l.done ≡ map spec.signal_of (take l.test-index l.all)

use Rattle.std.proofs.Common.{◌≡◌, drop}
use Rattle.clock_pairs.specs.Sight.{last_of}
use Rattle.std.specs.Prelude.{None}
use Rattle.clock_pairs.proofs.equations.innermost.Given as goal

abbrev pub invariant-loop-arm : goal.invariant-loop-arm
invariant-loop-arm l =
    last_of l.last (drop l.arm-index l.arms) ≡ last_of None l.arms

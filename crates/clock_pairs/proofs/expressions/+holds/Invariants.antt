use Rattle.std.proofs.Common.{◌≡◌, drop}
use Rattle.clock_pairs.specs.Walks as walks
use Rattle.clock_pairs.proofs.expressions.+holds.Given as goal

abbrev pub invariant-streams-loop-e : goal.invariant-streams-loop-e
invariant-streams-loop-e l =
    walks.streams (drop l.e-index l.all) ≡ walks.streams l.all

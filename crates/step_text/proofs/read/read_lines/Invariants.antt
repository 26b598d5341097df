use Rattle.std.proofs.Common.{length}
use Rattle.step_text.proofs.TextLemmas.{IsSoFar}
use Rattle.step_text.proofs.read.read_lines.Given as goal

abbrev pub invariant-loop-more : goal.invariant-loop-more
invariant-loop-more l = IsSoFar l.bytes l.reading l.rest l.lines

abbrev pub decreases-loop-more : goal.decreases-loop-more
decreases-loop-more l = length l.rest

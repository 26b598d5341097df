use Rattle.std.proofs.Common.{◌≡◌, ◌++◌, drop}
use Rattle.clock_rules.specs.Files as files
use Rattle.clock_infer.proofs.schemes.clock_marks.Given as goal

abbrev pub invariant-loop-k : goal.invariant-loop-k
invariant-loop-k l = l.done ++ files.clock_marks (drop l.k l.all) l.k ≡ files.clock_marks l.all 0

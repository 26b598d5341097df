use Rattle.std.proofs.Common.{◌≡◌, replicate}
use Rattle.step_code.specs.Marks.{no_mark}
use Rattle.step_code.proofs.marks.blank_marks.Given as goal

abbrev pub invariant-loop-slot : goal.invariant-loop-slot
invariant-loop-slot l = l.marks.items ≡ replicate l._slot-index no_mark

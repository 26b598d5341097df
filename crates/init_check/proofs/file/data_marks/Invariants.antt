use Rattle.std.proofs.Common.{◌≡◌, ◌++◌, drop}
use Rattle.init_rules.specs.Files as spec
use Rattle.init_check.proofs.file.data_marks.Given as goal

abbrev pub invariant-loop-i : goal.invariant-loop-i
invariant-loop-i l = l.done ++ spec.data_marks (drop l.i l.params) (drop l.i l.marks) ≡ spec.data_marks l.params l.marks

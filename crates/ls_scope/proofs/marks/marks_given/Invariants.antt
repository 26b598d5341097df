use Rattle.std.proofs.Common.{◌≡◌, ◌+◌, ◌++◌, ◌∷◌, [], map, drop, take, length}
use Rattle.scope_rules.specs.Faults as spec
use Rattle.ls_scope.specs.Marks as marks
use Rattle.std.specs.Prelude.{ℕ}
use Rattle.ls_scope.proofs.marks.marks_given.Given as goal

abbrev pub invariant-loop-asked : goal.invariant-loop-asked
invariant-loop-asked l = (i : ℕ) → spec.or_later (marks.told l.marks i) (spec.first_mark i (drop l.asked-index l.asks)) ≡ spec.first_mark i l.asks

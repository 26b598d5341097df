use Rattle.std.proofs.Common.{◌≡◌, ◌++◌, drop}
use Rattle.type_rules.specs.Definitions as definitions
use Rattle.type_demands.proofs.definition.name_marks.Given as goal

abbrev pub invariant-loop-at : goal.invariant-loop-at
invariant-loop-at l = l.list ++ definitions.name_marks (drop l.at l.params) (drop l.at l.marks) ≡ definitions.name_marks l.params l.marks

use Rattle.std.proofs.Common.{◌≡◌, ◌++◌, drop}
use Rattle.type_rules.specs.Definitions as definitions
use Rattle.type_demands.proofs.definition.add_marks.Given as goal

abbrev pub invariant-loop-name : goal.invariant-loop-name
invariant-loop-name l = l.list ++ definitions.same_marks l.mark (drop l.name-index l.names) ≡ l.initial.list ++ definitions.same_marks l.mark l.names

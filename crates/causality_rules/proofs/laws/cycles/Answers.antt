use Rattle.causality_rules.proofs.Cycles.{cycle_gives_items}
use Rattle.causality_rules.proofs.Files.{cyclic_excludes}
use Rattle.causality_rules.proofs.Nested.{definition_nests, definition_pairs}
use Rattle.causality_rules.proofs.laws.cycles.Goals as goal

pub returns-clause-items : goal.returns-clause-items
returns-clause-items c = λ d nested rows cycle. cycle_gives_items d nested rows cycle

pub returns-clause-excluded : goal.returns-clause-excluded
returns-clause-excluded c = λ d rows cycle is. cyclic_excludes d rows cycle is

pub returns-clause-nests : goal.returns-clause-nests
returns-clause-nests c = definition_nests

pub returns-clause-pairs : goal.returns-clause-pairs
returns-clause-pairs c = definition_pairs

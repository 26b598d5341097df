use Rattle.init_rules.proofs.Below.{definition_stands, graph_is_there}
use Rattle.init_rules.proofs.Signed
use Rattle.init_rules.proofs.laws.searches_decide.Goals as goal

pub returns-clause-decide : goal.returns-clause-decide
returns-clause-decide c = Signed.searches_decide

pub returns-clause-graph : goal.returns-clause-graph
returns-clause-graph c = graph_is_there

pub returns-clause-stands : goal.returns-clause-stands
returns-clause-stands c = definition_stands

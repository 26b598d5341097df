use Rattle.scope_rules.proofs.AsFound.{variables_alike, exprs_alike}
use Rattle.scope_rules.proofs.laws.bodies_are_seen_alike.Goals as goal

pub returns-clause-variables : goal.returns-clause-variables
returns-clause-variables g c first cases signal b = variables_alike g.row.N.Denot first cases signal b

pub returns-clause-expressions : goal.returns-clause-expressions
returns-clause-expressions g c first cases signal b = exprs_alike g.row.N.Denot first cases signal b

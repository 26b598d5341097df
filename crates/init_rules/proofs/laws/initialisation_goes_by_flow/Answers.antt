use Rattle.init_rules.proofs.Body.{initialised_by_flow, may_by_flow, own_by_flow, reaches_by_flow, several_by_flow}
use Rattle.init_rules.proofs.laws.initialisation_goes_by_flow.Goals as goal

pub returns-clause-initialised : goal.returns-clause-initialised
returns-clause-initialised c = initialised_by_flow

pub returns-clause-may : goal.returns-clause-may
returns-clause-may c = may_by_flow

pub returns-clause-own : goal.returns-clause-own
returns-clause-own c = own_by_flow

pub returns-clause-reaches : goal.returns-clause-reaches
returns-clause-reaches c = reaches_by_flow

pub returns-clause-several : goal.returns-clause-several
returns-clause-several c = several_by_flow

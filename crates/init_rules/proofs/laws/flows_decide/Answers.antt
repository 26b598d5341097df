use Rattle.init_rules.proofs.Decided.{initialised_is, may_is, own_is, reaches_is, several_parameters}
use Rattle.init_rules.proofs.laws.flows_decide.Goals as goal

pub returns-clause-initialised : goal.returns-clause-initialised
returns-clause-initialised c = initialised_is

pub returns-clause-may : goal.returns-clause-may
returns-clause-may c = may_is

pub returns-clause-own : goal.returns-clause-own
returns-clause-own c = own_is

pub returns-clause-reaches : goal.returns-clause-reaches
returns-clause-reaches c = reaches_is

pub returns-clause-several : goal.returns-clause-several
returns-clause-several c = several_parameters

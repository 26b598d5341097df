use Rattle.init_rules.proofs.Decided.{least_there, least_decides, least_result}
use Rattle.init_rules.proofs.laws.one_assignment_decides.Goals as goal

pub returns-clause-there : goal.returns-clause-there
returns-clause-there c = least_there

pub returns-clause-decides : goal.returns-clause-decides
returns-clause-decides c = least_decides

pub returns-clause-result : goal.returns-clause-result
returns-clause-result c = least_result

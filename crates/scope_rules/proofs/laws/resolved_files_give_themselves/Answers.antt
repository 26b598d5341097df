use Rattle.scope_rules.proofs.Again.{resolved_again, scope_again}
use Rattle.scope_rules.proofs.laws.resolved_files_give_themselves.Goals as goal

pub returns-clause-file : goal.returns-clause-file
returns-clause-file c env file = resolved_again env file

pub returns-clause-fault : goal.returns-clause-fault
returns-clause-fault c env file = scope_again env file

use Rattle.ls_front.proofs.Passing.{passed_on, failed_on}
use Rattle.ls_front.proofs.judgements.judge_file.Goals as goal

pub returns-in-Ok-clause-accepted : goal.returns-in-Ok-clause-accepted
returns-in-Ok-clause-accepted c = passed_on c.functions_come_from_scope.ensures.functions c.args.file.now c.in-Ok.resolved c.judge_names.result c.in-Ok.ensures.scoped c.in-Ok.ensures.binders c.judge_names.ensures.accepted

pub returns-in-Ok-clause-fault : goal.returns-in-Ok-clause-fault
returns-in-Ok-clause-fault c = failed_on c.functions_come_from_scope.ensures.functions c.args.file.now c.in-Ok.resolved c.judge_names.result c.in-Ok.ensures.scoped c.in-Ok.ensures.binders c.judge_names.ensures.fault

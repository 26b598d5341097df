use Rattle.std.proofs.Common.{sym}
use Rattle.type_infer.proofs.Tables.{spelling_absent, spelling_found}
use Rattle.type_infer.proofs.cases.number_of.Goals as goal

pub returns-in-None : goal.returns-in-None
returns-in-None c = sym (spelling_absent c.args.names.now c.args.text.now c.in-None.ensures.absent)

pub returns-in-Some : goal.returns-in-Some
returns-in-Some c = sym (spelling_found c.args.names.now c.args.text.now c.in-Some.name.0 c.len-count.ensures.distinct c.in-Some.ensures.found)

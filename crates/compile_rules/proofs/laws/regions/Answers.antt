use Rattle.compile_rules.proofs.Joining.{joined_joined}
use Rattle.compile_rules.proofs.Meaning.{instructions_do}
use Rattle.compile_rules.proofs.laws.regions.Goals as goal

pub returns-clause-joined : goal.returns-clause-joined
returns-clause-joined c = λ acts. joined_joined acts

pub returns-clause-same : goal.returns-clause-same
returns-clause-same c = instructions_do

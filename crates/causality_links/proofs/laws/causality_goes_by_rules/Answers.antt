use Rattle.causality_links.proofs.Causes.{causal_body}
use Rattle.causality_links.proofs.Files.{file_is_causal}
use Rattle.causality_links.proofs.laws.causality_goes_by_rules.Goals as goal

pub returns-clause-body : goal.returns-clause-body
returns-clause-body c = λ d shapes near scoped is. causal_body d shapes near scoped is.0 is.1

pub returns-clause-file : goal.returns-clause-file
returns-clause-file c = file_is_causal

use Rattle.causality_rules.proofs.Files.{not_both, ranked_is_causal}
use Rattle.causality_rules.proofs.laws.files.Goals as goal

pub returns-clause-causal : goal.returns-clause-causal
returns-clause-causal c = λ d list r. ranked_is_causal d list r

pub returns-clause-both : goal.returns-clause-both
returns-clause-both c = λ ds ls line found r u. not_both ds ls line found r u

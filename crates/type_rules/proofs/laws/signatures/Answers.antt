use Rattle.type_rules.proofs.Renaming.{same_numbered}
use Rattle.type_rules.proofs.laws.signatures.Goals as goal

pub returns : goal.returns
returns c = λ σ τ us e. same_numbered σ τ us e

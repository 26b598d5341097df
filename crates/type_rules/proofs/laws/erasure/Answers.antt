use Rattle.type_rules.proofs.Annotations.{erased_back, is_annotation}
use Rattle.type_rules.proofs.laws.erasure.Goals as goal

pub returns-clause-back : goal.returns-clause-back
returns-clause-back c = λ f d n. erased_back f d n

pub returns-clause-each : goal.returns-clause-each
returns-clause-each c = λ d names a e. is_annotation d names a e

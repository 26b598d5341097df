use Rattle.clock_rules.proofs.Inference as In
use Rattle.clock_rules.proofs.Principal as Pr
use Rattle.clock_rules.proofs.laws.inference.Goals as goal

pub returns-clause-obeys : goal.returns-clause-obeys
returns-clause-obeys c = λ sigs cases by w. (Pr.obeying_unifies sigs cases by w, Pr.unifying_obeys sigs cases by w)

pub returns-clause-principal : goal.returns-clause-principal
returns-clause-principal c = λ sigs cases params marks types tree σ m. In.principal sigs cases params marks types tree σ m.standing m.unifies m.general

pub returns-clause-none : goal.returns-clause-none
returns-clause-none c = λ sigs cases params marks types tree. In.none_obeys sigs cases params marks types tree

pub returns-clause-unmet : goal.returns-clause-unmet
returns-clause-unmet c = λ sigs cases params marks types tree σ m. In.none_meets sigs cases params marks types tree σ m.standing m.unifies m.general

use Rattle.std.proofs.Common.{sym, subst}
use Rattle.type_rules.proofs.Principal.{obeys_is}
use Rattle.type_rules.proofs.Solving.{solved_meet}
use Rattle.type_rules.proofs.laws.demands.Goals as goal

pub returns-clause-obeys : goal.returns-clause-obeys
returns-clause-obeys c = λ sigs case_type vs d f. (
  (λ o. subst (λ P. P) (obeys_is sigs case_type vs d f) o),
  (λ m. subst (λ P. P) (sym (obeys_is sigs case_type vs d f)) m),
)

pub returns-clause-unifier : goal.returns-clause-unifier
returns-clause-unifier c = λ ds s. solved_meet ds s

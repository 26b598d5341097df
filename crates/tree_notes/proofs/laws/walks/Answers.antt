use Rattle.std.specs.Prelude.{◌≡◌, true}
use Rattle.tree_notes.proofs.Applied as Ap
use Rattle.tree_notes.proofs.Made as Ma
use Rattle.tree_notes.proofs.Numbering as Nb
use Rattle.tree_notes.proofs.laws.walks.Goals as goal

pub returns-clause-put : goal.returns-clause-put
returns-clause-put g c = λ f d k i. Ap.definition_put _ _ _ (λ s n. f n) d i k

pub returns-clause-by_state : goal.returns-clause-by_state
returns-clause-by_state g c = λ f d k i. Ap.definition_put _ _ _ f d i k

pub returns-clause-back : goal.returns-clause-back
returns-clause-back g c = Nb.definition_good _ _ _ _

pub returns-clause-body_back : goal.returns-clause-body_back
returns-clause-body_back g c = Nb.body_good _ _ _ _

pub returns-clause-each : goal.returns-clause-each
returns-clause-each g c = λ step next holds h. Ma.made_body _ _ _ step next (λ m. holds m ≡ true) h

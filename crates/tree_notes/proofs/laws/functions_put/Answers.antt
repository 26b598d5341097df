use Rattle.tree_notes.proofs.Same as Sa
use Rattle.tree_notes.proofs.Twice as Tw
use Rattle.tree_notes.proofs.laws.functions_put.Goals as goal

pub returns-clause-twice : goal.returns-clause-twice
returns-clause-twice g c = Tw.body_twice _ _ _

pub returns-clause-same : goal.returns-clause-same
returns-clause-same g c = Sa.body_same _

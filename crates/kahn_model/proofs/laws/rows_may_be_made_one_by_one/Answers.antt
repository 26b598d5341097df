use Rattle.kahn_model.proofs.OneByOne.{settled_is, turned_below}
use Rattle.kahn_model.proofs.laws.rows_may_be_made_one_by_one.Goals as goal

pub returns-clause-below : goal.returns-clause-below
returns-clause-below c ks n turn_of mono T low k i h l = turned_below ks n turn_of mono T low k i h l

pub returns-clause-settled : goal.returns-clause-settled
returns-clause-settled c ks n turn_of mono T low none = settled_is ks n turn_of mono T low none

use Rattle.clock_premises.proofs.GivenBodies.{given_by_types}
use Rattle.clock_premises.proofs.laws.clock_positions_are_given.Goals as goal

pub returns : goal.returns
returns c = λ schemes sigs case_type vs at a cases notes body same is o. given_by_types schemes sigs case_type vs at a cases notes body same is o

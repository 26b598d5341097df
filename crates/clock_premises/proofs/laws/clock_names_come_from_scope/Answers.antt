use Rattle.clock_premises.proofs.Scope.{scoped}
use Rattle.clock_premises.proofs.laws.clock_names_come_from_scope.Goals as goal

pub returns : goal.returns
returns c = λ d schemes cases notes body sound heads many is given. scoped d schemes cases notes body is sound heads many given

use Rattle.causality_premises.proofs.Within.{scoped}
use Rattle.causality_premises.proofs.laws.reads_are_rows.Goals as goal

pub returns : goal.returns
returns c = λ d shapes r. scoped d shapes r

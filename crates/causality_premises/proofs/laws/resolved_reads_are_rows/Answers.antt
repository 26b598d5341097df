use Rattle.causality_premises.proofs.Scope.{reads_scoped}
use Rattle.causality_premises.proofs.laws.resolved_reads_are_rows.Goals as goal

pub returns : goal.returns
returns c = λ j cases ns body shapes is k. reads_scoped j cases ns body shapes is k

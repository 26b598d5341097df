use Rattle.causality_premises.proofs.Files.{files_read}
use Rattle.causality_premises.proofs.laws.files_read_rows.Goals as goal

pub returns : goal.returns
returns c = λ cases env file tree e k. files_read cases env file tree e k

use Rattle.clock_premises.proofs.Files.{files_scoped}
use Rattle.clock_premises.proofs.laws.files_are_scoped.Goals as goal

pub returns : goal.returns
returns c = λ case_type limit cases env file as' ss schemes tree sound same j e. files_scoped case_type limit cases env file as' ss schemes tree sound same j e

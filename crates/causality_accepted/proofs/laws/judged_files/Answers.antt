use Rattle.causality_accepted.proofs.Accepted.{judged_is_causal}
use Rattle.causality_accepted.proofs.laws.judged_files.Goals as goal

pub returns : goal.returns
returns c = λ case_type limit cases env file schemes tree ranks j r. judged_is_causal case_type limit cases env file schemes tree j ranks r

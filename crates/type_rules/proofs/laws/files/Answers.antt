use Rattle.type_rules.proofs.Steps.{judged_more}
use Rattle.type_rules.proofs.laws.files.Goals as goal

pub returns : goal.returns
returns c = λ case_type limit sigs ds as' ss d f j ty. judged_more case_type limit sigs ds as' ss d f j ty

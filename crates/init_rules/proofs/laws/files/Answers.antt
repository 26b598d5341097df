use Rattle.init_rules.proofs.Files.{judged_with_more, one_judgement, never_both}
use Rattle.init_rules.proofs.laws.files.Goals as goal

pub returns-clause-more : goal.returns-clause-more
returns-clause-more c = λ sigs ds ss d s j i g. judged_with_more sigs ds ss d s j i g

pub returns-clause-one : goal.returns-clause-one
returns-clause-one c = λ sigs ds ss ts j k. one_judgement sigs ds ss ts j k

pub returns-clause-both : goal.returns-clause-both
returns-clause-both c = λ sigs ds ss line j u. never_both sigs ds ss line j u

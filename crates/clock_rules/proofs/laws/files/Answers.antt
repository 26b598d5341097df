use Rattle.clock_rules.proofs.OneScheme as One
use Rattle.clock_rules.proofs.laws.files.Goals as goal

pub returns-clause-scheme : goal.returns-clause-scheme
returns-clause-scheme c = λ schemes cases params marks types tree. One.one_scheme schemes cases params marks types tree

pub returns-clause-judged : goal.returns-clause-judged
returns-clause-judged c = λ cases. One.not_both cases

pub returns-clause-line : goal.returns-clause-line
returns-clause-line c = λ cases. One.one_line cases

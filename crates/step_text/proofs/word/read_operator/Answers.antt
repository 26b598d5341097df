use Rattle.std.proofs.Common.{sym, subst}
use Rattle.std.specs.Str.{IsUtf8}
use Rattle.step_text.proofs.NumberLemmas.{symbol_utf8}
use Rattle.step_text.proofs.word.read_operator.Goals as goal

pub returns-in-Err-clause-back : goal.returns-in-Err-clause-back
returns-in-Err-clause-back c = λ op e. absurd (c.in-Err.ensures.cases.0 (subst IsUtf8 (sym e) (symbol_utf8 op)))

use Rattle.std.proofs.Common.{◌≡◌, ◌≢◌, rules}
use Rattle.ls_lexer.specs.declared.fault.LexFault.TheVariants.{NoMemory}
use Rattle.lsc_cli.specs.Start.{Lexed, NoTokens}
use Rattle.lsc_cli.proofs.JudgedLemmas.{comes-as, comes-refused}
use Rattle.lsc_cli.proofs.node.run_text.Goals as goal

pub returns-in-Ok-clause-judged : goal.returns-in-Ok-clause-judged
returns-in-Ok-clause-judged g c = λ about.
    comes-as _ _ _ _ _ _ _ _ (λ start is. Lexed c.in-Ok.tokens c.in-Ok.ensures.tokens is) (c.run_tokens.ensures.judged about)

pub returns-in-Err-clause-judged : goal.returns-in-Err-clause-judged
returns-in-Err-clause-judged g c = λ about.
    let some : c.in-Err.fault ≢ NoMemory = search rules in
    comes-as _ _ _ _ _ _ _ _ (λ start is. NoTokens c.in-Err.fault (c.in-Err.ensures.fault some) is)
    (comes-refused _ _ _ _ _ _ _ c.refuse_tokens.ensures.outcome)

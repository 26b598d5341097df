use Rattle.std.proofs.Common.{◌≡◌, ◌≢◌, refl, rules}
use Rattle.step_text.specs.declared.fault.CodeFault.TheVariants.{NoMemory}
use Rattle.step_text.specs.Text.{IsRefusedText}
use Rattle.lsc_cli.specs.Start.{NoCode, Reads}
use Rattle.lsc_cli.proofs.JudgedLemmas.{comes-as, comes-refused, refused-text}
use Rattle.lsc_cli.proofs.exec.exec_text.Goals as goal

pub returns-in-Ok-clause-judged : goal.returns-in-Ok-clause-judged
returns-in-Ok-clause-judged g c = λ about. (_, Reads c.in-Ok.code c.in-Ok.ensures.accepted refl, c.run_code.ensures.runs about)

pub returns-in-Err-clause-judged : goal.returns-in-Err-clause-judged
returns-in-Err-clause-judged g c = λ about.
    let some : c.in-Err.fault ≢ NoMemory = search rules in
    comes-as _ _ _ _ _ _ _ _ (λ start is. NoCode c.in-Err.fault (refused-text c.args.text.now c.in-Err.fault some c.in-Err.ensures.refused) is)
    (comes-refused _ _ _ _ _ _ _ c.refuse_code.ensures.outcome)

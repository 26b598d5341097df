use Rattle.std.proofs.Common.{◌∙◌, arith, ap}
use Rattle.std.specs.Result.{result_ok}
use Rattle.std.proofs.lemmas.Fmt.{parse-decimal}
use Rattle.ls_value.proofs.Numbers.{number_utf8}
use Rattle.step_text.proofs.word.nearest_number.Goals as goal

pub returns-in-Ok : goal.returns-in-Ok
returns-in-Ok c = λ n h e. c.ok.ensures.value ∙ ap result_ok (parse-decimal 32 n c.in-Ok.text.now c.parse.result h (omega arith) (c.in-Ok.ensures.cases.0 ∙ e) c.parse.ensures.value.0)

pub returns-in-Err : goal.returns-in-Err
returns-in-Err c = λ n h e. absurd (c.in-Err.ensures.cases.0 (number_utf8 n c.args.word.now h e))

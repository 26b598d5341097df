use Rattle.std.proofs.Common.{rules, ◌≡◌, ◌≤◌, length, ap, Err}
use Rattle.std.specs.Option.{IfSome}
use Rattle.command_words.specs.Asked.{task_of}
use Rattle.lsc_cli.specs.Call.{Judges}
use Rattle.lsc_cli.specs.Words.{most_of}
use Rattle.lsc_cli.proofs.JudgedLemmas.{comes-too_long, comes-within}
use Rattle.lsc_cli.proofs.call.load.Goals as goal

pub returns-in-Err-TooLong-clause-judged : goal.returns-in-Err-TooLong-clause-judged
returns-in-Err-TooLong-clause-judged g c = λ about.
    comes-too_long (Judges (task_of c.args.task.now)) (most_of (task_of c.args.task.now)) (g.T.Texts.told c.args.texts.now c.args.file.now) _ _ _
    (c.in-Err-TooLong.ensures.too_long (ap Err c.in-Err-TooLong.field-0-is))

pub returns-in-Ok-clause-judged : goal.returns-in-Ok-clause-judged
returns-in-Ok-clause-judged g c = λ about.
    let is : IfSome (g.T.Texts.told c.args.texts.now c.args.file.now) (λ bytes. c.as_slice.result.now ≡ bytes) = search rules in
    let short : length c.as_slice.result.now ≤ 1048576 = search rules in
    comes-within (Judges (task_of c.args.task.now)) (most_of (task_of c.args.task.now)) _ c.as_slice.result.now _ _ _ _ _ is short (c.carry_out.ensures.judged about)

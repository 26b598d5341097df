use Rattle.std.proofs.Common.{refl, sym, subst}
use Rattle.command_words.specs.Asked.{task_of}
use Rattle.command_words.specs.declared.forms.Task.{Task}
use Rattle.lsc_cli.specs.Call.{ComesFrom, Judges}
use Rattle.lsc_cli.specs.Start.{Ends}
use Rattle.lsc_cli.specs.Words.{most_of}
use Rattle.lsc_cli.proofs.JudgedLemmas.{inner_alone}
use Rattle.lsc_cli.proofs.call.carry_out.Goals as goal

pub returns-in-Run-clause-judged : goal.returns-in-Run-clause-judged
returns-in-Run-clause-judged g c = λ about.
    subst (λ (t : Task). ComesFrom (Judges (task_of t) c.args.text.now) (most_of (task_of t)) (g.S.Source.left c.args.input.now) (g.S.Source.left c.run_text.new.input) c.run_text.result
    (g.K.Sink.written c.args.out.now) (g.K.Sink.written c.run_text.new.out)) (sym c.in-Run.is) (c.run_text.ensures.judged about)

pub returns-in-Exec-clause-judged : goal.returns-in-Exec-clause-judged
returns-in-Exec-clause-judged g c = λ about.
    subst (λ (t : Task). ComesFrom (Judges (task_of t) c.args.text.now) (most_of (task_of t)) (g.S.Source.left c.args.input.now) (g.S.Source.left c.exec_text.new.input) c.exec_text.result
    (g.K.Sink.written c.args.out.now) (g.K.Sink.written c.exec_text.new.out)) (sym c.in-Exec.is) (c.exec_text.ensures.judged about)

pub returns-in-Check-clause-judged : goal.returns-in-Check-clause-judged
returns-in-Check-clause-judged g c = λ about.
    let j = c.check_text.ensures.judged about in
    subst (λ (t : Task). ComesFrom (Judges (task_of t) c.args.text.now) (most_of (task_of t)) (g.S.Source.left c.args.input.now) (g.S.Source.left c.args.input.now) c.check_text.result
    (g.K.Sink.written c.args.out.now) (g.K.Sink.written c.check_text.new.out)) (sym c.in-Check.is) (Ends j.0, (j.0, j.1, refl), j.2)

pub returns-in-Check-clause-inner : goal.returns-in-Check-clause-inner
returns-in-Check-clause-inner g c = inner_alone _ _ c.check_text.result _ _ _ refl c.check_text.ensures.status c.check_text.ensures.write_fault c.check_text.ensures.untouched

use Rattle.std.proofs.Common.{◌≡◌, ◌≢◌, refl, rules}
use Rattle.ls_front.specs.declared.fault.FrontFault.TheVariants.{NoMemory}
use Rattle.lsc_cli.specs.Check.{Passed, Refused, front_text, check_lines}
use Rattle.lsc_cli.specs.Outcome.{done, refusal}
use Rattle.lsc_cli.proofs.SignatureLines.{refused_status, refused_memory}
use Rattle.lsc_cli.proofs.check.check_text.Goals as goal

pub returns-in-Ok-clause-judged : goal.returns-in-Ok-clause-judged
returns-in-Ok-clause-judged g c = λ about.
    (done (check_lines c.in-Ok.checked), Passed c.in-Ok.checked c.in-Ok.ensures.accepted refl, c.write_checked.ensures.outcome)

pub returns-in-Err : goal.returns-in-Err
returns-in-Err g c =
    let some : c.in-Err.fault ≢ NoMemory = search rules in
    record {
      judged = λ about. (refusal (front_text c.in-Err.fault), Refused c.in-Err.fault some c.in-Err.ensures.fault refl, c.refuse_file.ensures.outcome);
      status = refused_status c.refuse_file.result c.refuse_file.ensures.status;
      write_fault = c.refuse_file.ensures.write_fault;
      untouched = λ e. absurd (refused_memory c.refuse_file.result c.refuse_file.ensures.status e);
    }

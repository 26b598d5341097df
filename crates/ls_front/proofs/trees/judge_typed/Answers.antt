use Rattle.accepted_rules.specs.Accepted.{AreClocks}
use Rattle.ls_front.specs.Front.{ClocksAccepted, InitAccepted, signatures_of_file}
use Rattle.ls_front.proofs.Passing.{ok_to}
use Rattle.ls_front.proofs.trees.judge_typed.Goals as goal

pub returns-in-Ok-clause-accepted : goal.returns-in-Ok-clause-accepted
returns-in-Ok-clause-accepted c =
    let clocks : AreClocks c.args.typed.now c.in-Ok.ann = record { same = c.in-Ok.ensures.same; names = c.in-Ok.ensures.names; judged = c.in-Ok.ensures.principal } in
    ok_to (InitAccepted (signatures_of_file c.args.typed.now) c.in-Ok.ann) (ClocksAccepted c.args.typed.now (signatures_of_file c.args.typed.now)) c.judge_clocked.result
    (λ r k. (c.in-Ok.ann, clocks, k)) c.judge_clocked.ensures.accepted

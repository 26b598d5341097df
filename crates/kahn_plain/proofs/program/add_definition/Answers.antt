use Rattle.kahn_plain.proofs.Defined.{one_pushed}
use Rattle.kahn_plain.proofs.program.add_definition.Goals as goal

pub returns-in_ok-definition-in-Let-clause-numbered : goal.returns-in_ok-definition-in-Let-clause-numbered
returns-in_ok-definition-in-Let-clause-numbered c =
    one_pushed c.push.result c.args.done.now c.push.new.self c.in_ok-definition-in-Let.field-0 c.requires c.in_ok-definition-in-Let.ensures.numbered c.push.ensures.ok

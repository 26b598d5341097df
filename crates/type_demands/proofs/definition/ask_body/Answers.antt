use Rattle.type_demands.proofs.Blocks.{body_told}
use Rattle.type_demands.proofs.definition.ask_body.Goals as goal

pub returns : goal.returns
returns g c =
    body_told g.C.CaseTypes.case_type c.args.given.now c.args.first c.args.body.now c.args.out c.ask_expr.new.out c.as_slice.result.now c.at_top.result c.ask_equations.new.asking c.as_slice.ensures.value c.at_top.ensures c.in_ok-ask_expr.ensures
    c.in_ok-ask_equations.ensures

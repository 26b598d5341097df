use Rattle.std.proofs.Common.{sym, ◌∙◌}
use Rattle.type_demands.proofs.Names.{plain_parts}
use Rattle.type_readings.proofs.Turns.{then_more}
use Rattle.type_rules.specs.Bodies as bodies
use Rattle.type_demands.proofs.bodies.ask_plain.Goals as goal

pub returns : goal.returns
returns g c =
    then_more c.ask_expr.result c.args.out.now c.ask_parts.new.out c.ask_expr.new.out _ _ _ c.in_ok-ask_parts.ensures c.ask_expr.ensures
    (plain_parts g.C.CaseTypes.case_type c.args.given.now (bodies.shape_of c.args.pat.now) c.args.e.now c.args.w.now (sym c.answers_signal.ensures ∙ c.if-answers_signal.false))

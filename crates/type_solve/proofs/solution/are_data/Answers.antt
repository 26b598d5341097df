use Rattle.std.proofs.Common.{◌∙◌, ap, sym}
use Rattle.term_unify.specs.Terms.{first}
use Rattle.type_rules.specs.Schemes.{is_data}
use Rattle.type_solve.proofs.Data.{not_data, at_listed}
use Rattle.type_solve.proofs.solution.are_data.Goals as goal

pub returns-then-not-is_data_term : goal.returns-then-not-is_data_term
returns-then-not-is_data_term c =
    sym (not_data c.args.own (first c.args.by.now.list) c.loop-x.x c.loop-x-test.true
    (ap is_data (at_listed (first c.args.by.now.list) c.loop-x.x c.in-Some.value.now (sym c.in-Some.ensures)) ∙ sym c.is_data_term.ensures ∙ c.if-not-is_data_term.true))

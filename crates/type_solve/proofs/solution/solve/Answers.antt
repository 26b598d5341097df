use Rattle.std.proofs.Common.{◌∙◌, ap, sym, Err}
use Rattle.type_rules.specs.Demands.{widths, pairs_from}
use Rattle.type_solve.proofs.Unifiers.{solved_by, other_by, none_by}
use Rattle.type_solve.proofs.solution.solve.Goals as goal

pub returns-then-are_data-clause-solved : goal.returns-then-are_data-clause-solved
returns-then-are_data-clause-solved c =
    solved_by c.args.demands.now c.args.limit c.in_ok-own.own c.in_ok-pairs.pairs.list c.in-Ok.by.list (c.in_ok-own.ensures ∙ ap widths c.as_slice.ensures.value)
    (c.in_ok-pairs.ensures ∙ ap (pairs_from c.in_ok-own.own 0) c.as_slice-2.ensures.value) c.in-Ok.ensures.unifier c.in-Ok.ensures.general c.in-Ok.ensures.small (sym c.are_data.ensures ∙ c.if-are_data.true)

pub returns-in-Ok-clause-unsolved : goal.returns-in-Ok-clause-unsolved
returns-in-Ok-clause-unsolved c e =
    other_by c.args.demands.now c.args.limit c.in_ok-own.own c.in_ok-pairs.pairs.list c.in-Ok.by.list (c.in_ok-own.ensures ∙ ap widths c.as_slice.ensures.value)
    (c.in_ok-pairs.ensures ∙ ap (pairs_from c.in_ok-own.own 0) c.as_slice-2.ensures.value) c.in-Ok.ensures.unifier c.in-Ok.ensures.general (sym c.are_data.ensures ∙ c.if-are_data.false)

pub returns-in-Err-Clash-clause-unsolved : goal.returns-in-Err-Clash-clause-unsolved
returns-in-Err-Clash-clause-unsolved c e =
    none_by c.args.demands.now c.args.limit c.in_ok-own.own c.in_ok-pairs.pairs.list (c.in_ok-own.ensures ∙ ap widths c.as_slice.ensures.value)
    (c.in_ok-pairs.ensures ∙ ap (pairs_from c.in_ok-own.own 0) c.as_slice-2.ensures.value) (c.in-Err-Clash.ensures.clash (ap Err c.in-Err-Clash.field-0-is))

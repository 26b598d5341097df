use Rattle.std.specs.Prelude.{◌-◌}
use Rattle.std.proofs.Common.{rules, of_calls}
use Rattle.ls_places.specs.Definitions.{case_place}
use Rattle.kahn_exprs.specs.Context.{around_of}
use Rattle.kahn_plain.proofs.CallDepth.{none_means, same_means, some_means}
use Rattle.kahn_plain.proofs.Standing.{ok_same}
use Rattle.kahn_plain.proofs.depths.+fn-meaning-below+meaning.Goals as goal

pub returns-in-None : goal.returns-in-None
returns-in-None t c =
    ok_same c.unknown_row-in-None.result _ _ (none_means (case_place c.args.file.now) c.args.defs.now c.args.lines c.args.depth c.args.k (around_of c.args.context)
    c.if-depth-eq0.false c.in-None.ensures) c.unknown_row-in-None.ensures

pub result_row-requires-clause-can : goal.result_row-requires-clause-can
result_row-requires-clause-can t c = λ b e f g h.
    (search (rules, of_calls), λ k x r p. ok_same r _ _ (same_means c.args.file.now b.file.now c.args.defs.now b.defs.now c.args.lines b.lines (c.args.depth - 1) b.depth k (around_of x) e f g h) p.1)

pub returns : goal.returns
returns t c =
    ok_same c.result_row.result _ _ (some_means (case_place c.args.file.now) c.args.defs.now c.args.lines c.args.depth c.args.k (around_of c.args.context) c.in-Some.def.now
    c.if-depth-eq0.false c.in-Some.ensures) c.result_row.ensures

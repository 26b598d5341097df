use Rattle.std.proofs.Common.{◌∙◌, sym}
use Rattle.ls_scope.proofs.TwiceLaws.{covered_first}
use Rattle.ls_scope.proofs.arms.covers.Goals as goal

pub returns-in_ok-set-in-Some : goal.returns-in_ok-set-in-Some
returns-in_ok-set-in-Some c =
    c.covers_type.ensures ∙ covered_first c.args.known.now c.args.cases.now c.in-Some.first.now c.in_ok-set-in-Some.set (sym c.in-Some.ensures.value) c.in_ok-set-in-Some.ensures

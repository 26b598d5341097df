use Rattle.ls_scope.proofs.Outcomes.{outcome_is}
use Rattle.ls_scope.proofs.definition.outcome.Goals as goal

pub returns : goal.returns
returns g c =
    outcome_is c.args.it.now c.requires.shows c.args.marks.now c.requires.marks _ _ _ _ _ _
    c.in_ok-list.ensures c.in_ok-copy.ensures c.in_ok-answers.ensures c.as_slice.ensures.value c.in_ok-uses_of.ensures c.in_ok-body.ensures.made

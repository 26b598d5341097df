use Rattle.std.proofs.Common.{◌∙◌, sym}
use Rattle.clock_conditions.proofs.Meeting.{local_back, met, signature_back}
use Rattle.clock_conditions.proofs.Testing.{both_ways, if_true}
use Rattle.clock_conditions.proofs.conditions.meets.Goals as goal

pub returns-then-not-branch-clause-unmet : goal.returns-then-not-branch-clause-unmet
returns-then-not-branch-clause-unmet c = λ f h. both_ways c.in_ok-local_meets.field-0 (c.in_ok-local_meets.ensures ∙ local_back c.args.b.now h) c.if-not-branch.true

pub returns-then-not-branch-2-clause-unmet : goal.returns-then-not-branch-2-clause-unmet
returns-then-not-branch-2-clause-unmet c = λ f h. both_ways c.in_ok-signature_meets.field-0 (c.in_ok-signature_meets.ensures ∙ signature_back c.args.b.now h) c.if-not-branch-2.true

pub returns-clause-met : goal.returns-clause-met
returns-clause-met c =
    if_true c.is_acyclic.result
    (met c.args.b.now c.requires.vars c.requires.blocks (sym c.in_ok-local_meets.ensures ∙ c.if-not-branch.false)
    (sym c.in_ok-signature_meets.ensures ∙ c.if-not-branch-2.false))
    c.is_acyclic.ensures.ranked

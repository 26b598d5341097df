use Rattle.std.specs.Prelude.{IfOk}
use Rattle.std.proofs.Common.{◌≡◌, ◌∙◌, ◌<◌, ap, subst}
use Rattle.place_tables.specs.Lacks as own
use Rattle.place_tables.proofs.Inside.{found_lacking, lacks_in, lacks_not, lacks_out, next_lacks}
use Rattle.place_tables.proofs.lacks.+lacks.Goals as goal

pub any_arm_lacks-returns-then-branch : goal.any_arm_lacks-returns-then-branch
any_arm_lacks-returns-then-branch t c =
    found_lacking c.args.d.now c.args.depth c.args.m c.args.skip c.args.numbers.now c.group.result.now _ c.loop-j.j _ _
    (subst (λ z. c.loop-j.j < z) c.count_arms-count.ensures.value c.loop-j-test.true) c.in_ok-lacks_within.ensures c.if-branch.true
    (c.group.ensures.value ∙ c.in_ok-groups.ensures c.loop-j.j ∙ ap (λ z. own.inside z c.args.m c.args.skip c.loop-j.j c.args.numbers.now) c.as_slice-sites.ensures.value)
    c.loop-j.invariant

pub any_arm_lacks-loop-j-preserved : goal.any_arm_lacks-loop-j-preserved
any_arm_lacks-loop-j-preserved t c =
    next_lacks c.args.d.now c.args.depth c.args.m c.args.skip c.args.numbers.now c.group.result.now _ c.loop-j.j _ _
    (subst (λ z. c.loop-j.j < z) c.count_arms-count.ensures.value c.loop-j-test.true) c.in_ok-lacks_within.ensures c.if-branch.false
    (c.group.ensures.value ∙ c.in_ok-groups.ensures c.loop-j.j ∙ ap (λ z. own.inside z c.args.m c.args.skip c.loop-j.j c.args.numbers.now) c.as_slice-sites.ensures.value)
    c.loop-j.invariant

pub lacks_within-returns-then-any_ends : goal.lacks_within-returns-then-any_ends
lacks_within-returns-then-any_ends t c =
    lacks_not c.args.d.now c.args.depth c.args.skip c.args.numbers.now _ c.if-depth-eq0.false
    (c.any_ends.ensures ∙ ap (λ z. own.any_ends z c.args.skip c.args.numbers.now) c.as_slice-sites.ensures.value) c.if-any_ends.true

pub lacks_within-returns-in-None : goal.lacks_within-returns-in-None
lacks_within-returns-in-None t c =
    lacks_out c.args.d.now c.args.depth c.args.skip c.args.numbers.now _ _ c.if-depth-eq0.false
    (c.any_ends.ensures ∙ ap (λ z. own.any_ends z c.args.skip c.args.numbers.now) c.as_slice-sites.ensures.value) c.if-any_ends.false
    (c.outer_block.ensures ∙ ap (λ z. own.first_block z c.args.skip c.args.numbers.now) c.as_slice-sites.ensures.value) c.in-None.is

pub lacks_within-returns-in-Some : goal.lacks_within-returns-in-Some
lacks_within-returns-in-Some t c =
    subst (λ z. IfOk c.any_arm_lacks.result (λ r. r ≡ z))
    (lacks_in c.args.d.now c.args.depth c.in-Some.m c.args.skip c.args.numbers.now _ _ c.if-depth-eq0.false
    (c.any_ends.ensures ∙ ap (λ z. own.any_ends z c.args.skip c.args.numbers.now) c.as_slice-sites.ensures.value) c.if-any_ends.false
    (c.outer_block.ensures ∙ ap (λ z. own.first_block z c.args.skip c.args.numbers.now) c.as_slice-sites.ensures.value) c.in-Some.is) c.any_arm_lacks.ensures

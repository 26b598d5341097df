use Rattle.std.proofs.Common.{◌≡◌, sym, ◌∙◌, ◌+◌, take, drop}
use Rattle.std.proofs.lemmas.List.{take-append-drop, take_more}
use Rattle.scope_rules.specs.Faults.{same_case}
use Rattle.ls_scope.proofs.TwiceLaws.{none_more, two_here, has_more}
use Rattle.ls_scope.proofs.arms.repeated_case.Goals as goal

pub returns-then-contains : goal.returns-then-contains
returns-then-contains c =
    two_here same_case c.args.cases.now (take c.loop-case.case-index c.args.cases.now) (take (c.loop-case.case-index + 1) c.args.cases.now) (drop (c.loop-case.case-index + 1) c.args.cases.now)
    _ (take_more c.args.cases.now c.loop-case.case-index _ c.loop-case-test.true) (take-append-drop (c.loop-case.case-index + 1) c.args.cases.now)
    (sym (c.loop-case.invariant.1 _) ∙ sym c.contains.ensures ∙ c.if-contains.true)

pub loop-case-preserved : goal.loop-case-preserved
loop-case-preserved c = (
  none_more same_case (take c.loop-case.case-index c.args.cases.now) (take (c.loop-case.case-index + 1) c.args.cases.now) _ (take_more c.args.cases.now c.loop-case.case-index _ c.loop-case-test.true)
      c.loop-case.invariant.0 (sym (c.loop-case.invariant.1 _) ∙ sym c.contains.ensures ∙ c.if-contains.false),
  has_more (take c.loop-case.case-index c.args.cases.now) (take (c.loop-case.case-index + 1) c.args.cases.now) _ c.loop-case.seen c.add.new.set (take_more c.args.cases.now c.loop-case.case-index _ c.loop-case-test.true)
      c.loop-case.invariant.1 c.in_ok-add.ensures,
)

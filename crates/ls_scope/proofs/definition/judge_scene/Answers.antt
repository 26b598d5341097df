use Rattle.std.specs.Prelude.{refl}
use Rattle.std.proofs.Common.{sym, ◌∙◌}
use Rattle.ls_scope.specs.Judgement.{judged_of}
use Rattle.ls_scope.proofs.Scenes.{twice_is, open_is, timed_is, is_twice, is_unbound, is_open, is_mixed, is_timed}
use Rattle.ls_scope.proofs.definition.judge_scene.Goals as goal

pub returns-then-twice-clause-fault : goal.returns-then-twice-clause-fault
returns-then-twice-clause-fault g c = (is_twice (judged_of c.args.it.now.judged.now) (sym (twice_is c.args.it.now c.requires) ∙ sym c.in_ok-twice.ensures ∙ c.if-twice.true), refl)

pub returns-then-unbound-clause-fault : goal.returns-then-unbound-clause-fault
returns-then-unbound-clause-fault g c = (is_unbound (judged_of c.args.it.now.judged.now) (sym (twice_is c.args.it.now c.requires) ∙ sym c.in_ok-twice.ensures ∙ c.if-twice.false) (sym c.in_ok-unbound.ensures ∙ c.if-unbound.true), refl)

pub returns-then-uncovered-clause-fault : goal.returns-then-uncovered-clause-fault
returns-then-uncovered-clause-fault g c = (is_open (judged_of c.args.it.now.judged.now) (sym (twice_is c.args.it.now c.requires) ∙ sym c.in_ok-twice.ensures ∙ c.if-twice.false) (sym c.in_ok-unbound.ensures ∙ c.if-unbound.false) (sym (open_is c.args.it.now c.requires) ∙ sym c.in_ok-uncovered.ensures ∙ c.if-uncovered.true), refl)

pub returns-then-mixed-clause-fault : goal.returns-then-mixed-clause-fault
returns-then-mixed-clause-fault g c = (
  is_mixed (judged_of c.args.it.now.judged.now)
      (sym (twice_is c.args.it.now c.requires) ∙ sym c.in_ok-twice.ensures ∙ c.if-twice.false) (sym c.in_ok-unbound.ensures ∙ c.if-unbound.false) (sym (open_is c.args.it.now c.requires) ∙ sym c.in_ok-uncovered.ensures ∙ c.if-uncovered.false) (sym c.in_ok-mixed.ensures ∙ c.if-mixed.true),
  refl,
)

pub returns-then-timed-clause-fault : goal.returns-then-timed-clause-fault
returns-then-timed-clause-fault g c = (
  is_timed (judged_of c.args.it.now.judged.now)
      (sym (twice_is c.args.it.now c.requires) ∙ sym c.in_ok-twice.ensures ∙ c.if-twice.false) (sym c.in_ok-unbound.ensures ∙ c.if-unbound.false) (sym (open_is c.args.it.now c.requires) ∙ sym c.in_ok-uncovered.ensures ∙ c.if-uncovered.false) (sym c.in_ok-mixed.ensures ∙ c.if-mixed.false)
      _ (sym (timed_is c.args.it.now c.requires) ∙ sym c.in_ok-timed.ensures ∙ c.if-timed.true),
  refl,
)

pub returns-clause-scoped : goal.returns-clause-scoped
returns-clause-scoped g c = is_timed (judged_of c.args.it.now.judged.now)
    (sym (twice_is c.args.it.now c.requires) ∙ sym c.in_ok-twice.ensures ∙ c.if-twice.false) (sym c.in_ok-unbound.ensures ∙ c.if-unbound.false) (sym (open_is c.args.it.now c.requires) ∙ sym c.in_ok-uncovered.ensures ∙ c.if-uncovered.false) (sym c.in_ok-mixed.ensures ∙ c.if-mixed.false)
    _ (sym (timed_is c.args.it.now c.requires) ∙ sym c.in_ok-timed.ensures ∙ c.if-timed.false)

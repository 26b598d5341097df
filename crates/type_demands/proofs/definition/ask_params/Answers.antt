use Rattle.std.proofs.Common.{◌++◌, ap, sym, ◌∙◌, inl, inr}
use Rattle.type_demands.proofs.Blocks.{ok_to}
use Rattle.type_demands.proofs.Names.{params_over}
use Rattle.type_demands.proofs.definition.ask_params.Goals as goal
use Rattle.type_demands.proofs.definition.ask_params.Goals.{then-marks-params-via-then-marks-params, then-marks-params-via-else-marks-params+then-notes-params}

pub returns-then-marks-params : goal.returns-then-marks-params
returns-then-marks-params g c =
    elim c.then-marks-params.branch [
      | then-marks-params-via-then-marks-params w ↦
          ok_to c.never-then-marks-params.result c.never-then-marks-params.new.out _ _ c.never-then-marks-params.ensures
          (ap (λ z. c.loop-at.out ++ z)
          (sym (params_over g.C.CaseTypes.case_type c.args.given.now c.args.params.now c.args.marks.now c.args.notes.now c.loop-at.at c.loop-at.k c.loop-at-test.false c.loop-at.auto.at-end (inl w.if-marks-params.true))) ∙ c.loop-at.invariant)
      | then-marks-params-via-else-marks-params+then-notes-params w ↦
          ok_to c.never-then-marks-params.result c.never-then-marks-params.new.out _ _ c.never-then-marks-params.ensures
          (ap (λ z. c.loop-at.out ++ z)
          (sym (params_over g.C.CaseTypes.case_type c.args.given.now c.args.params.now c.args.marks.now c.args.notes.now c.loop-at.at c.loop-at.k c.loop-at-test.false c.loop-at.auto.at-end (inr w.if-notes-params.true))) ∙ c.loop-at.invariant)
    ]

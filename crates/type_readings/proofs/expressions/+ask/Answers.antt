use Rattle.std.proofs.Common.{◌++◌, ◌∷◌, [], ap, sym, ◌∙◌}
use Rattle.std.specs.Option.{option_copied}
use Rattle.type_readings.proofs.Loops.{given_turn, restarts_told}
use Rattle.type_readings.proofs.Told.{op_whole, op_lacks, tuple_told, pre_told, fby_told, init_told, when_told, merge_told, whole_told, rest_told, application_told}
use Rattle.type_readings.proofs.Turns.{then_more, both_parts, none_told, looked_up}
use Rattle.type_readings.specs.Readings as spec
use Rattle.type_rules.specs.declared.demand.Demand.TheVariants.{Fits}
use Rattle.type_rules.specs.Numbers.{place_of}
use Rattle.type_readings.proofs.expressions.+ask.Goals as goal

pub ask_form-returns-in_ok-ask_streams-in-Op : goal.ask_form-returns-in_ok-ask_streams-in-Op
ask_form-returns-in_ok-ask_streams-in-Op g t c =
    both_parts c.args.out.now c.fits_operator.new.out c.ask_streams.new.out _ _ c.in_ok-agree-in-Op.ensures.out c.in_ok-ask_streams-in-Op.ensures
    ∙ ap (λ z. c.args.out.now ++ z)
    (sym (op_whole g.C.CaseTypes.case_type c.args.given.now c.args.form.now c.in-Op.op c.in-Op.args c.as_slice.result.now c.as_slice-then-agree.result.now c.args.note.now c.args.stand c.in-Op.is c.as_slice.ensures.value
    c.as_slice-then-agree.ensures.value (sym c.in_ok-agree-in-Op.ensures.agree ∙ c.if-agree.true)))

pub ask_form-returns-else-agree : goal.ask_form-returns-else-agree
ask_form-returns-else-agree g t c =
    c.in_ok-agree-in-Op.ensures.out
    ∙ ap (λ z. c.args.out.now ++ z)
    (sym (op_lacks g.C.CaseTypes.case_type c.args.given.now c.args.form.now c.in-Op.op c.in-Op.args c.as_slice.result.now c.args.note.now c.args.stand c.in-Op.is c.as_slice.ensures.value
    (sym c.in_ok-agree-in-Op.ensures.agree ∙ c.if-agree.false)))

pub ask_form-returns-in_ok-fits_tuple-in-Tuple : goal.ask_form-returns-in_ok-fits_tuple-in-Tuple
ask_form-returns-in_ok-fits_tuple-in-Tuple g t c =
    then_more c.ask_streams-in-Tuple.result c.args.out.now c.fits_tuple.new.out c.ask_streams-in-Tuple.new.out _ _ _ c.in_ok-fits_tuple-in-Tuple.ensures c.ask_streams-in-Tuple.ensures
    (tuple_told g.C.CaseTypes.case_type c.args.given.now c.args.form.now c.in-Tuple.parts c.as_slice-in-Tuple.result.now c.args.note.now c.args.stand c.in-Tuple.is c.as_slice-in-Tuple.ensures.value)

pub ask_form-returns-in_ok-fits_two-in-Pre : goal.ask_form-returns-in_ok-fits_two-in-Pre
ask_form-returns-in_ok-fits_two-in-Pre g t c =
    then_more c.ask_expr.result c.args.out.now c.fits_two.new.out c.ask_expr.new.out _ _ _
    (c.in_ok-fits_two-in-Pre.ensures ∙ (λ i. c.args.out.now ++ Fits ((place_of c.args.note.now, c.any.ensures i) ∷ (place_of c.in-Pre.e.note, c.any-in-Pre.ensures i) ∷ []) ∷ [])) c.ask_expr.ensures
    (pre_told g.C.CaseTypes.case_type c.args.given.now c.args.form.now c.in-Pre.e c.args.note.now c.args.stand c.in-Pre.is)

pub ask_form-returns-in_ok-ask_expr-in-Fby : goal.ask_form-returns-in_ok-ask_expr-in-Fby
ask_form-returns-in_ok-ask_expr-in-Fby g t c =
    then_more c.ask_expr-in-Fby-2.result c.args.out.now c.ask_expr-in-Fby.new.out c.ask_expr-in-Fby-2.new.out _ _ _
    (both_parts c.args.out.now c.fits_three.new.out c.ask_expr-in-Fby.new.out _ _
    (c.in_ok-fits_three-in-Fby.ensures
    ∙ (λ i. c.args.out.now ++ Fits ((place_of c.args.note.now, c.any-in-Fby.ensures i) ∷ (place_of c.in-Fby.a.note, c.any-in-Fby-2.ensures i) ∷ (place_of c.in-Fby.b.note, c.any-in-Fby-3.ensures i) ∷ []) ∷ []))
    c.in_ok-ask_expr-in-Fby.ensures)
    c.ask_expr-in-Fby-2.ensures (fby_told g.C.CaseTypes.case_type c.args.given.now c.args.form.now c.in-Fby.a c.in-Fby.b c.args.note.now c.args.stand c.in-Fby.is)

pub ask_form-returns-in_ok-ask_expr-in-Init : goal.ask_form-returns-in_ok-ask_expr-in-Init
ask_form-returns-in_ok-ask_expr-in-Init g t c =
    then_more c.ask_expr-in-Init-2.result c.args.out.now c.ask_expr-in-Init.new.out c.ask_expr-in-Init-2.new.out _ _ _
    (both_parts c.args.out.now c.fits_three-in-Init.new.out c.ask_expr-in-Init.new.out _ _
    (c.in_ok-fits_three-in-Init.ensures
    ∙ (λ i. c.args.out.now ++ Fits ((place_of c.args.note.now, c.any-in-Init.ensures i) ∷ (place_of c.in-Init.a.note, c.any-in-Init-2.ensures i) ∷ (place_of c.in-Init.b.note, c.any-in-Init-3.ensures i) ∷ []) ∷ []))
    c.in_ok-ask_expr-in-Init.ensures)
    c.ask_expr-in-Init-2.ensures (init_told g.C.CaseTypes.case_type c.args.given.now c.args.form.now c.in-Init.a c.in-Init.b c.args.note.now c.args.stand c.in-Init.is)

pub ask_form-returns-in_ok-fits_sampled-in-When : goal.ask_form-returns-in_ok-fits_sampled-in-When
ask_form-returns-in_ok-fits_sampled-in-When g t c =
    then_more c.ask_expr-in-When.result c.args.out.now c.fits_sampled.new.out c.ask_expr-in-When.new.out _ _ _ c.in_ok-fits_sampled-in-When.ensures c.ask_expr-in-When.ensures
    (when_told g.C.CaseTypes.case_type c.args.given.now c.args.form.now c.in-When.e c.in-When.field-1 c.in-When.case c.args.note.now c.args.stand c.place-name.result c.case_type.result c.in-When.is c.place-name.ensures c.case_type.ensures)

pub ask_form-returns-in_ok-fits_merge-in-Merge : goal.ask_form-returns-in_ok-fits_merge-in-Merge
ask_form-returns-in_ok-fits_merge-in-Merge g t c =
    then_more c.ask_branches.result c.args.out.now c.fits_merge.new.out c.ask_branches.new.out _ _ _ c.in_ok-fits_merge-in-Merge.ensures c.ask_branches.ensures
    (merge_told g.C.CaseTypes.case_type c.args.given.now c.args.form.now c.in-Merge.field-0 c.in-Merge.all c.as_slice-in-Merge.result.now c.as_slice-in-Merge-2.result.now c.args.note.now c.args.stand c.place-name.result c.in-Merge.is
    c.as_slice-in-Merge.ensures.value c.as_slice-in-Merge-2.ensures.value c.place-name.ensures)

pub ask_form-returns-in_ok-close_call-in-Def : goal.ask_form-returns-in_ok-close_call-in-Def
ask_form-returns-in_ok-close_call-in-Def g t c =
    both_parts c.args.out.now c.ask_opened.new.out c.close_call.new.out _ _ c.in_ok-kind-in-Def.ensures.out
    (both_parts c.ask_opened.new.out c.ask_restarts.new.out c.close_call.new.out _ _ c.in_ok-ask_restarts-in-Def.ensures c.in_ok-close_call-in-Def.ensures)
    ∙ ap (λ z. c.args.out.now ++ z)
    (sym (whole_told g.C.CaseTypes.case_type c.args.given.now c.args.form.now c.in-Call.run' c.in-Call.head c.in-Call.args c.as_slice-args.result.now c.in-Call.every c.args.note.now c.args.stand c.in-Def.k (option_copied c.get-sig.result)
    c.is_none-alone.result c.in-Call.is c.in-Def.is c.as_slice-args.ensures.value (looked_up c.get-sig.result c.args.given.now.sigs.now c.in-Def.k c.get-sig.ensures.lookup.3 c.get-sig.ensures.lookup.1) (none_told c.in-Call.every c.is_none-alone.result c.is_none-alone.ensures)
    (ap spec.is_whole_call (sym c.in_ok-kind-in-Def.ensures.kind) ∙ sym c.is_whole.ensures ∙ c.if-is_whole.true)))

pub ask_form-returns-else-is_whole : goal.ask_form-returns-else-is_whole
ask_form-returns-else-is_whole g t c =
    c.in_ok-kind-in-Def.ensures.out
    ∙ ap (λ z. c.args.out.now ++ z)
    (sym (rest_told g.C.CaseTypes.case_type c.args.given.now c.args.form.now c.in-Call.run' c.in-Call.head c.in-Call.args c.as_slice-args.result.now c.in-Call.every c.args.note.now c.args.stand c.in-Def.k (option_copied c.get-sig.result)
    c.is_none-alone.result c.in-Call.is c.in-Def.is c.as_slice-args.ensures.value (looked_up c.get-sig.result c.args.given.now.sigs.now c.in-Def.k c.get-sig.ensures.lookup.3 c.get-sig.ensures.lookup.1) (none_told c.in-Call.every c.is_none-alone.result c.is_none-alone.ensures)
    (ap spec.is_whole_call (sym c.in_ok-kind-in-Def.ensures.kind) ∙ sym c.is_whole.ensures ∙ c.if-is_whole.false)))

pub ask_form-returns-in_ok-ask_restarts-in-Param : goal.ask_form-returns-in_ok-ask_restarts-in-Param
ask_form-returns-in_ok-ask_restarts-in-Param g t c =
    both_parts c.args.out.now c.ask_applying.new.out c.ask_restarts-then-there.new.out _ _ c.in_ok-there-in-Param.ensures.out c.in_ok-ask_restarts-in-Param.ensures
    ∙ ap (λ z. c.args.out.now ++ z)
    (sym (application_told g.C.CaseTypes.case_type c.args.given.now c.args.form.now c.in-Call.run' c.in-Call.head c.in-Call.args c.as_slice-args-in-Param.result.now c.in-Call.every c.args.note.now c.args.stand c.in-Param.field-0
    c.place-name.result c.in-Call.is c.in-Param.is c.as_slice-args-in-Param.ensures.value c.place-name.ensures (sym c.in_ok-there-in-Param.ensures.there ∙ c.if-there.true)))

pub ask_given-loop-at-preserved : goal.ask_given-loop-at-preserved
ask_given-loop-at-preserved g t c =
    given_turn g.C.CaseTypes.case_type c.args.given.now c.args.marks.now c.args.all.now c.loop-at.at c.index-all-at.result c.stand_at-stand.result c.loop-at.out c.ask_expr.new.out _ c.loop-at-test.true (sym c.index-all-at.is)
    c.stand_at-stand.ensures c.in_ok-ask_expr.ensures c.loop-at.invariant

pub ask_restarts-returns-in_ok-fits_one-in-Some : goal.ask_restarts-returns-in_ok-fits_one-in-Some
ask_restarts-returns-in_ok-fits_one-in-Some g t c =
    then_more c.ask_expr.result c.args.out.now c.fits_one.new.out c.ask_expr.new.out _ _ _ c.in_ok-fits_one-in-Some.ensures c.ask_expr.ensures (restarts_told g.C.CaseTypes.case_type c.args.given.now c.args.every.now c.in-Some.e c.in-Some.is)

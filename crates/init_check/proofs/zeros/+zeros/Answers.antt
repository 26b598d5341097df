use Rattle.std.specs.Prelude.{OnOk}
use Rattle.std.proofs.Common.{◌≡◌, ◌++◌, ◌∙◌, ap, subst}
use Rattle.init_check.specs.Walks as own
use Rattle.init_check.proofs.Forms as forms
use Rattle.init_check.proofs.zeros.+zeros.Goals as goal

pub add_form-returns-in-Op : goal.add_form-returns-in-Op
add_form-returns-in-Op t c =
    subst (λ z. OnOk c.add_all_zeros.result (c.add_all_zeros.new.out ≡ c.args.out.now ++ z))
    (forms.op_zeros c.args.d.now c.args.sigs.now c.args.place.now c.args.note.now c.args.form.now c.in-Op.field-0 c.in-Op.args c.as_slice.result.now c.in-Op.is c.as_slice.ensures.value)
    c.add_all_zeros.ensures

pub add_form-returns-in-Tuple : goal.add_form-returns-in-Tuple
add_form-returns-in-Tuple t c =
    subst (λ z. OnOk c.add_all_zeros-in-Tuple.result (c.add_all_zeros-in-Tuple.new.out ≡ c.args.out.now ++ z))
    (forms.tuple_zeros c.args.d.now c.args.sigs.now c.args.place.now c.args.note.now c.args.form.now c.in-Tuple.all c.as_slice-in-Tuple.result.now c.in-Tuple.is c.as_slice-in-Tuple.ensures.value)
    c.add_all_zeros-in-Tuple.ensures

pub add_form-returns-in_ok-add_sources-in-Pre : goal.add_form-returns-in_ok-add_sources-in-Pre
add_form-returns-in_ok-add_sources-in-Pre t c =
    subst (λ z. OnOk c.add_zeros.result (c.add_zeros.new.out ≡ z))
    (ap (λ z. z ++ own.zeros c.args.d.now c.args.sigs.now c.args.place.now c.in-Pre.e) c.in_ok-add_sources-in-Pre.ensures ∙ forms.pre_zeros c.args.d.now c.args.sigs.now c.args.place.now c.args.note.now c.args.form.now c.args.out.now c.in-Pre.e c.in-Pre.is)
    c.add_zeros.ensures

pub add_form-returns-in_ok-add_zeros-in-Fby : goal.add_form-returns-in_ok-add_zeros-in-Fby
add_form-returns-in_ok-add_zeros-in-Fby t c =
    subst (λ z. OnOk c.add_zeros-in-Fby-2.result (c.add_zeros-in-Fby-2.new.out ≡ z))
    (ap (λ z. z ++ own.zeros c.args.d.now c.args.sigs.now c.args.place.now c.in-Fby.b) (c.in_ok-add_zeros-in-Fby.ensures ∙ ap (λ z. z ++ own.zeros c.args.d.now c.args.sigs.now c.args.place.now c.in-Fby.a) c.in_ok-add_sources-in-Fby.ensures)
    ∙ forms.fby_zeros c.args.d.now c.args.sigs.now c.args.place.now c.args.note.now c.args.form.now c.args.out.now c.in-Fby.a c.in-Fby.b c.in-Fby.is)
    c.add_zeros-in-Fby-2.ensures

pub add_form-returns-in_ok-add_zeros-in-Init : goal.add_form-returns-in_ok-add_zeros-in-Init
add_form-returns-in_ok-add_zeros-in-Init t c =
    subst (λ z. OnOk c.add_zeros-in-Init-2.result (c.add_zeros-in-Init-2.new.out ≡ z))
    (ap (λ z. z ++ own.zeros c.args.d.now c.args.sigs.now c.args.place.now c.in-Init.b) c.in_ok-add_zeros-in-Init.ensures ∙ forms.init_zeros c.args.d.now c.args.sigs.now c.args.place.now c.args.note.now c.args.form.now c.args.out.now c.in-Init.a c.in-Init.b c.in-Init.is)
    c.add_zeros-in-Init-2.ensures

pub add_form-returns-in_ok-add_name-in-When : goal.add_form-returns-in_ok-add_name-in-When
add_form-returns-in_ok-add_name-in-When t c =
    subst (λ z. OnOk c.add_zeros-in-When.result (c.add_zeros-in-When.new.out ≡ z))
    (ap (λ z. z ++ own.zeros c.args.d.now c.args.sigs.now c.args.place.now c.in-When.e) c.in_ok-add_name-in-When.ensures ∙ forms.when_zeros c.args.d.now c.args.sigs.now c.args.place.now c.args.note.now c.args.form.now c.args.out.now c.in-When.e c.in-When.x c.in-When.field-2 c.in-When.is)
    c.add_zeros-in-When.ensures

pub add_form-returns-in_ok-add_choice_sources-in-Merge : goal.add_form-returns-in_ok-add_choice_sources-in-Merge
add_form-returns-in_ok-add_choice_sources-in-Merge t c =
    subst (λ z. OnOk c.add_choice_zeros.result (c.add_choice_zeros.new.out ≡ z))
    (ap (λ z. z ++ own.choice_zeros c.args.d.now c.args.sigs.now c.args.place.now c.as_slice-in-Merge-2.result.now)
    (c.in_ok-add_choice_sources-in-Merge.ensures ∙ ap (λ z. z ++ own.choice_sources c.args.d.now c.args.sigs.now c.args.place.now c.as_slice-in-Merge.result.now) c.in_ok-add_name-in-Merge.ensures)
    ∙ forms.merge_zeros c.args.d.now c.args.sigs.now c.args.place.now c.args.note.now c.args.form.now c.args.out.now c.in-Merge.x c.in-Merge.choices c.as_slice-in-Merge.result.now c.as_slice-in-Merge-2.result.now c.in-Merge.is c.as_slice-in-Merge.ensures.value c.as_slice-in-Merge-2.ensures.value)
    c.add_choice_zeros.ensures

pub add_form-returns-in-None : goal.add_form-returns-in-None
add_form-returns-in-None t c =
    c.in_ok-add_all_zeros-in-Call.ensures ∙ ap (λ z. z ++ own.all_zeros c.args.d.now c.args.sigs.now c.args.place.now c.as_slice-in-Call-2.result.now) c.in_ok-add_call_asked-in-Call.ensures
    ∙ forms.call_none c.args.d.now c.args.sigs.now c.args.place.now c.args.note.now c.args.form.now c.args.out.now _ _ _ _ _ _ c.in-Call.is c.in-None.is c.as_slice-in-Call.ensures.value c.as_slice-in-Call-2.ensures.value

pub add_form-returns-in_ok-add_sources-in-Some : goal.add_form-returns-in_ok-add_sources-in-Some
add_form-returns-in_ok-add_sources-in-Some t c =
    subst (λ z. OnOk c.add_call_sources.result (c.add_call_sources.new.out ≡ z))
    (ap (λ z. z ++ own.call_sources c.args.d.now c.args.sigs.now c.args.place.now c.in-Call.run' c.args.note.now c.as_slice-in-Some.result.now)
    (c.in_ok-add_sources-in-Some.ensures ∙ ap (λ z. z ++ own.sources c.args.d.now c.args.sigs.now c.args.place.now c.in-Some.e)
    (c.in_ok-add_zeros-in-Some.ensures ∙ ap (λ z. z ++ own.zeros c.args.d.now c.args.sigs.now c.args.place.now c.in-Some.e)
    (c.in_ok-add_all_zeros-in-Call.ensures ∙ ap (λ z. z ++ own.all_zeros c.args.d.now c.args.sigs.now c.args.place.now c.as_slice-in-Call-2.result.now) c.in_ok-add_call_asked-in-Call.ensures)))
    ∙ forms.call_some c.args.d.now c.args.sigs.now c.args.place.now c.args.note.now c.args.form.now c.args.out.now _ _ _ _ _ c.as_slice-in-Some.result.now _ c.in-Some.e c.in-Call.is c.in-Some.is c.as_slice-in-Call.ensures.value c.as_slice-in-Call-2.ensures.value c.as_slice-in-Some.ensures.value)
    c.add_call_sources.ensures

use Rattle.std.specs.Prelude.{OnOk}
use Rattle.std.proofs.Common.{◌≡◌, ◌++◌, ◌∙◌, ap, subst, sym}
use Rattle.init_check.specs.Walks as own
use Rattle.init_check.proofs.Calls as calls
use Rattle.init_check.proofs.Forms as forms
use Rattle.init_check.proofs.sources.+sources.Goals as goal

pub add_call_sources-returns-in-Def : goal.add_call_sources-returns-in-Def
add_call_sources-returns-in-Def t c =
    subst (λ z. OnOk c.add_defined.result (c.add_defined.new.out ≡ c.args.out.now ++ z))
    (ap (λ z. own.defined_sources c.args.d.now c.args.sigs.now c.args.place.now z c.args.args.now) c.nth.ensures
    ∙ calls.def_sources c.args.d.now c.args.sigs.now c.args.place.now c.args.run c.args.note.now c.args.args.now c.in-Def.k (sym c.is_function.ensures ∙ c.if-is_function.false) c.in-Def.is)
    c.add_defined.ensures

pub add_call_sources-returns-in-Var : goal.add_call_sources-returns-in-Var
add_call_sources-returns-in-Var t c =
    subst (λ z. OnOk c.add_applied.result (c.add_applied.new.out ≡ c.args.out.now ++ z))
    (calls.var_sources c.args.d.now c.args.sigs.now c.args.place.now c.args.run c.args.note.now c.args.args.now c.in-Var.field-0 (sym c.is_function.ensures ∙ c.if-is_function.false) c.in-Var.is)
    c.add_applied.ensures

pub add_call_sources-returns-in-Param : goal.add_call_sources-returns-in-Param
add_call_sources-returns-in-Param t c =
    subst (λ z. OnOk c.add_applied-in-Param.result (c.add_applied-in-Param.new.out ≡ c.args.out.now ++ z))
    (calls.param_sources c.args.d.now c.args.sigs.now c.args.place.now c.args.run c.args.note.now c.args.args.now c.in-Param.field-0 (sym c.is_function.ensures ∙ c.if-is_function.false) c.in-Param.is)
    c.add_applied-in-Param.ensures

pub add_call_sources-returns-in-Nothing : goal.add_call_sources-returns-in-Nothing
add_call_sources-returns-in-Nothing t c =
    subst (λ z. OnOk c.add_applied-in-Nothing.result (c.add_applied-in-Nothing.new.out ≡ c.args.out.now ++ z))
    (calls.nothing_sources c.args.d.now c.args.sigs.now c.args.place.now c.args.run c.args.note.now c.args.args.now (sym c.is_function.ensures ∙ c.if-is_function.false) c.in-Nothing.is)
    c.add_applied-in-Nothing.ensures

pub add_call_sources-returns-in-Case : goal.add_call_sources-returns-in-Case
add_call_sources-returns-in-Case t c =
    subst (λ z. OnOk c.add_applied-in-Case.result (c.add_applied-in-Case.new.out ≡ c.args.out.now ++ z))
    (calls.case_sources c.args.d.now c.args.sigs.now c.args.place.now c.args.run c.args.note.now c.args.args.now c.in-Case.field-0 c.in-Case.field-1 (sym c.is_function.ensures ∙ c.if-is_function.false) c.in-Case.is)
    c.add_applied-in-Case.ensures

pub add_form-returns-in-Op : goal.add_form-returns-in-Op
add_form-returns-in-Op t c =
    subst (λ z. OnOk c.add_all_sources.result (c.add_all_sources.new.out ≡ c.args.out.now ++ z))
    (forms.op_sources c.args.d.now c.args.sigs.now c.args.place.now c.args.note.now c.args.form.now c.in-Op.field-0 c.in-Op.args c.as_slice.result.now c.in-Op.is c.as_slice.ensures.value)
    c.add_all_sources.ensures

pub add_form-returns-in-Tuple : goal.add_form-returns-in-Tuple
add_form-returns-in-Tuple t c =
    subst (λ z. OnOk c.add_all_sources-in-Tuple.result (c.add_all_sources-in-Tuple.new.out ≡ c.args.out.now ++ z))
    (forms.tuple_sources c.args.d.now c.args.sigs.now c.args.place.now c.args.note.now c.args.form.now c.in-Tuple.all c.as_slice-in-Tuple.result.now c.in-Tuple.is c.as_slice-in-Tuple.ensures.value)
    c.add_all_sources-in-Tuple.ensures

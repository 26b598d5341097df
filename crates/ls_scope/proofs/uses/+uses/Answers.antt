use Rattle.std.specs.Prelude.{OnOk}
use Rattle.std.proofs.Common.{◌≡◌, subst}
use Rattle.ls_scope.proofs.UseLaws.{merge_made, call_made}
use Rattle.ls_scope.proofs.uses.+uses.Goals as goal

pub add_form-returns-in_ok-add_name-in-Merge : goal.add_form-returns-in_ok-add_name-in-Merge
add_form-returns-in_ok-add_name-in-Merge g t c =
    subst (λ z. OnOk c.add_branches.result (c.add_branches.new.done ≡ z))
    (merge_made (g.W.Binders.bound c.args.what.now) (g.W.Binders.cases c.args.what.now) c.args.form.now c.in-Merge.x c.in-Merge.branches c.as_slice-in-Merge.result.now c.args.done.now c.add_name-in-Merge.new.done
    c.in-Merge.is c.as_slice-in-Merge.ensures.value c.in_ok-add_name-in-Merge.ensures) c.add_branches.ensures

pub add_form-returns-in_ok-add_all-in-Call : goal.add_form-returns-in_ok-add_all-in-Call
add_form-returns-in_ok-add_all-in-Call g t c =
    subst (λ z. OnOk c.add_every.result (c.add_every.new.done ≡ z))
    (call_made (g.W.Binders.bound c.args.what.now) (g.W.Binders.cases c.args.what.now) c.args.form.now _ c.in-Call.head c.in-Call.args c.as_slice-in-Call.result.now c.in-Call.every c.args.done.now c.add_name-in-Call.new.done
    c.add_all-in-Call.new.done c.in-Call.is c.as_slice-in-Call.ensures.value c.in_ok-add_name-in-Call.ensures c.in_ok-add_all-in-Call.ensures) c.add_every.ensures

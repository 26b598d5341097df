use Rattle.std.proofs.Common.{◌≡◌, ◌+◌, ◌++◌, ◌∷◌, drop, arith, append_assoc, ◌∙◌, sym, subst, OnOk}
use Rattle.std.proofs.lemmas.Grind.{common_steps}
use Rattle.ls_ast.specs.declared.tree.Mark.TheVariants as mark
use Rattle.scope_rules.specs.declared.claims.Stand.TheVariants.{At as at}
use Rattle.scope_rules.specs.Claims.{claim_of, merge_claims, branch_claims, cases_in, form_claims, told_head}
use Rattle.ls_scope.proofs.ClaimLaws.{form_merge, call_made}
use Rattle.ls_scope.proofs.claims.+claims.Goals as goal

pub add_at_marks-loop-i-preserved : goal.add_at_marks-loop-i-preserved
add_at_marks-loop-i-preserved g t c =
    let e : drop c.loop-i.i c.args.args.now ≡ c.index-args-i.result ∷ drop (c.loop-i.i + 1) c.args.args.now = grind (arith, common_steps) in
    let h = rw e at c.loop-i.invariant in
    rw (c.in_ok-add_claims.ensures, c.stand_for-s.ensures, append_assoc) h

pub add_form-returns-in-Merge : goal.add_form-returns-in-Merge
add_form-returns-in-Merge g t c =
    let defs = g.W.Binders.defs c.args.what.now in
    let bound = g.W.Binders.bound c.args.what.now in
    let same = (λ i. merge_claims (claim_of bound c.in-Merge.x.0 (at mark.Clock)) (cases_in (c.as_slice-in-Merge.ensures.value i)) (branch_claims defs bound (c.as_slice-in-Merge.ensures.value i)) c.args.s)
    ∙ sym (form_merge defs bound c.in-Merge.x c.in-Merge.branches c.args.s) ∙ (λ i. form_claims defs bound (sym c.in-Merge.is i) c.args.s) in
    subst (λ z. OnOk c.add_merge.result (c.add_merge.new.done ≡ c.args.done.now ++ z)) same c.add_merge.ensures

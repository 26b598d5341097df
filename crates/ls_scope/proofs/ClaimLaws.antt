-- The claims of a `merge` and of a call.
use Rattle.std.specs.Prelude.{◌≡◌, ℕ, Bool, List, [], ◌∷◌, ◌++◌, map, Option, Some, None, option_map, is_some}
use Rattle.std.proofs.Common.{refl, ap, sym, ◌∙◌}
use Rattle.ls_base.specs.declared.Name.{Name}
use Rattle.ls_ast.specs.declared.tree.Case.{Case}
use Rattle.ls_ast.specs.declared.tree.Mark.{Mark}
use Rattle.ls_ast.specs.declared.tree.Expr.{Expr}
use Rattle.ls_ast.specs.declared.tree.Form.{fold-roll-Form}
use Rattle.ls_ast.specs.declared.tree.Form.TheOpen.{Form-F}
use Rattle.ls_ast.specs.declared.tree.Form.TheVariants.{Merge, rolls-Merge, Call, rolls-Call}
use Rattle.ls_sig.specs.declared.binder.Binder.{Binder}
use Rattle.ls_ast.specs.declared.tree.Mark.TheVariants as mark
use Rattle.scope_rules.specs.declared.claims.Stand.{Stand}
use Rattle.scope_rules.specs.declared.claims.Stand.TheVariants.{Applied as applied}
use Rattle.scope_rules.specs.declared.claims.Stand.TheVariants.{At as at}
use Rattle.scope_rules.specs.Claims.{Head, head_by, Claims, claim_of, applied_by, cases_of, cases_in, branch_claims, merge_claims, call_claims, if_any, form_step, expr_step, form_claims, claims}
use Rattle.scope_rules.specs.declared.claims.Earlier.{Earlier}
use Rattle.scope_rules.specs.declared.claims.Claim.{Claim}

cases_same : {N : Type 0} (defs : List Earlier) (bound : ℕ → Binder) (bs : List (Case × Expr N)) → cases_of (branch_claims defs bound bs) ≡ cases_in bs
cases_same defs bound [] = refl
cases_same defs bound (b ∷ bs) = ap (λ r. b.0 ∷ r) (cases_same defs bound bs)

pub form_merge : {N : Type 0} (defs : List Earlier) (bound : ℕ → Binder) (x : Name) (bs : List (Case × Expr N)) (s : Stand)
    → form_claims defs bound (Merge x bs) s ≡ merge_claims (claim_of bound x.0 (at mark.Clock)) (cases_in bs) (branch_claims defs bound bs) s
form_merge {N} defs bound x bs s =
    (λ i. form_claims defs bound (sym (rolls-Merge x bs) i) s)
    ∙ (λ i. fold-roll-Form N Claims Claims (form_step defs bound) (expr_step defs bound) (Form-F.Merge x bs) i s)
    ∙ ap (λ cs. merge_claims (claim_of bound x.0 (at mark.Clock)) cs (branch_claims defs bound bs) s) (cases_same defs bound bs)

pub form_call : {N : Type 0} (defs : List Earlier) (bound : ℕ → Binder) (run : Bool) (x : Name) (args : List (Expr N)) (every : Option (Expr N)) (s : Stand)
    → form_claims defs bound (Call run x args every) s
    ≡ claim_of bound x.0 (applied (applied_by run)) ∷ call_claims (head_by defs (bound x.0)) run (is_some every) (map (claims defs bound) args) s ++ if_any (option_map (claims defs bound) every)
form_call {N} defs bound run x args None s =
    (λ i. form_claims defs bound (sym (rolls-Call run x args None) i) s)
    ∙ (λ i. fold-roll-Form N Claims Claims (form_step defs bound) (expr_step defs bound) (Form-F.Call run x args None) i s)
form_call {N} defs bound run x args (Some e) s =
    (λ i. form_claims defs bound (sym (rolls-Call run x args (Some e)) i) s)
    ∙ (λ i. fold-roll-Form N Claims Claims (form_step defs bound) (expr_step defs bound) (Form-F.Call run x args (Some e)) i s)

assoc : {A : Type 0} (a b c : List A) → (a ++ b) ++ c ≡ a ++ (b ++ c)
assoc [] b c = refl
assoc (x ∷ a) b c = ap (λ r. x ∷ r) (assoc a b c)

-- a call's claims, as they are added
pub call_made : {N : Type 0} (defs : List Earlier) (bound : ℕ → Binder) (run : Bool) (x : Name) (args given : List (Expr N)) (every : Option (Expr N)) (s : Stand)
    (old one two : List Claim) (h : Head) (restarts : Bool) (m : Mark)
    → one ≡ old ++ claim_of bound x.0 (applied m) ∷ [] → m ≡ applied_by run → two ≡ one ++ call_claims h run restarts (map (claims defs bound) given) s
    → h ≡ head_by defs (bound x.0) → restarts ≡ is_some every → given ≡ args
    → two ++ if_any (option_map (claims defs bound) every) ≡ old ++ form_claims defs bound (Call run x args every) s
call_made defs bound run x args given every s old one two h restarts m is-one is-m is-two is-h is-r is-args =
    let more = if_any (option_map (claims defs bound) every) in
    ap (λ z. z ++ more) (is-two ∙ (λ i. is-one i ++ call_claims (is-h i) run (is-r i) (map (claims defs bound) (is-args i)) s))
    ∙ (λ i. ((old ++ claim_of bound x.0 (applied (is-m i)) ∷ []) ++ call_claims (head_by defs (bound x.0)) run (is_some every) (map (claims defs bound) args) s) ++ more)
    ∙ assoc (old ++ claim_of bound x.0 (applied (applied_by run)) ∷ []) (call_claims (head_by defs (bound x.0)) run (is_some every) (map (claims defs bound) args) s) more
    ∙ assoc old (claim_of bound x.0 (applied (applied_by run)) ∷ []) (call_claims (head_by defs (bound x.0)) run (is_some every) (map (claims defs bound) args) s ++ more)
    ∙ ap (λ z. old ++ z) (sym (form_call defs bound run x args every s))

-- The notes of a `merge` and of a call, as they are added.
use Rattle.std.specs.Prelude.{◌≡◌, ℕ, Bool, List, [], ◌∷◌, ◌++◌, map, Option, Some, None, option_map}
use Rattle.std.proofs.Common.{refl, ap, sym, ◌∙◌}
use Rattle.ls_base.specs.declared.Name.{Name}
use Rattle.ls_ast.specs.declared.tree.Case.{Case}
use Rattle.ls_ast.specs.declared.tree.Expr.{Expr}
use Rattle.ls_ast.specs.declared.tree.Form.{Form, fold-roll-Form}
use Rattle.ls_ast.specs.declared.tree.Form.TheOpen.{Form-F}
use Rattle.ls_ast.specs.declared.tree.Form.TheVariants.{Merge, rolls-Merge, Call, rolls-Call}
use Rattle.ls_sig.specs.declared.binder.Binder.{Binder}
use Rattle.ls_sig.specs.declared.binder.Use.{Use}
use Rattle.scope_rules.specs.Claims.{uses, uses_in, use_of, joined_uses, option_uses, form_uses, expr_uses}
use Rattle.ls_scope.specs.Uses.{uses_of_branches}

assoc : {A : Type 0} (a b c : List A) → (a ++ b) ++ c ≡ a ++ (b ++ c)
assoc [] b c = refl
assoc (x ∷ a) b c = ap (λ r. x ∷ r) (assoc a b c)

module _ {N : Type 0} (bound cases : ℕ → Binder) where
  form_merge : (x : Name) (bs : List (Case × Expr N)) → uses_in bound cases (Merge x bs) ≡ use_of (bound x.0) ∷ uses_of_branches bound cases bs
  form_merge x bs = (λ i. uses_in bound cases (sym (rolls-Merge x bs) i)) ∙ fold-roll-Form N (List Use) (List Use) (form_uses bound cases) (expr_uses bound cases) (Form-F.Merge x bs)

  form_call : (run : Bool) (x : Name) (args : List (Expr N)) (every : Option (Expr N))
      → uses_in bound cases (Call run x args every) ≡ use_of (bound x.0) ∷ joined_uses (map (uses bound cases) args) ++ option_uses (option_map (uses bound cases) every)
  form_call run x args None = (λ i. uses_in bound cases (sym (rolls-Call run x args None) i)) ∙ fold-roll-Form N (List Use) (List Use) (form_uses bound cases) (expr_uses bound cases) (Form-F.Call run x args None)
  form_call run x args (Some e) = (λ i. uses_in bound cases (sym (rolls-Call run x args (Some e)) i)) ∙ fold-roll-Form N (List Use) (List Use) (form_uses bound cases) (expr_uses bound cases) (Form-F.Call run x args (Some e))

  pub merge_made : (form : Form N) (x : Name) (bs slice : List (Case × Expr N)) (old one : List Use)
      → form ≡ Merge x bs → slice ≡ bs → one ≡ old ++ use_of (bound x.0) ∷ [] → one ++ uses_of_branches bound cases slice ≡ old ++ uses_in bound cases form
  merge_made form x bs slice old one is same put =
      (λ i. put i ++ uses_of_branches bound cases (same i))
      ∙ assoc old (use_of (bound x.0) ∷ []) (uses_of_branches bound cases bs)
      ∙ ap (λ z. old ++ z) (sym (ap (uses_in bound cases) is ∙ form_merge x bs))

  pub call_made : (form : Form N) (run : Bool) (x : Name) (args slice : List (Expr N)) (every : Option (Expr N)) (old one two : List Use)
      → form ≡ Call run x args every → slice ≡ args → one ≡ old ++ use_of (bound x.0) ∷ [] → two ≡ one ++ joined_uses (map (uses bound cases) slice)
      → two ++ option_uses (option_map (uses bound cases) every) ≡ old ++ uses_in bound cases form
  call_made form run x args slice every old one two is same put more =
      let last : List Use = option_uses (option_map (uses bound cases) every) in
      let all : List Use = joined_uses (map (uses bound cases) args) in
      ap (λ z. z ++ last) (more ∙ (λ i. put i ++ joined_uses (map (uses bound cases) (same i))))
      ∙ assoc (old ++ use_of (bound x.0) ∷ []) all last
      ∙ assoc old (use_of (bound x.0) ∷ []) (all ++ last)
      ∙ ap (λ z. old ++ z) (sym (ap (uses_in bound cases) is ∙ form_call run x args every))

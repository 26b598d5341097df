-- Two folds over one expression are related where their steps keep the relation.
use Rattle.std.specs.Prelude.{◌≡◌, refl, List, [], ◌∷◌, map, Some, None}
use Rattle.std.proofs.Common.{ap, sym, ◌∙◌, subst}
use Rattle.ls_ast.specs.declared.tree.Case.{Case}
use Rattle.ls_ast.specs.declared.tree.Expr.{Expr, Expr-F, fold-Expr, fold-roll-Expr, ind-Expr, roll-Expr}
use Rattle.ls_ast.specs.declared.tree.Form.{Form, fold-Form, fold-roll-Form, map-Form, roll-Form}
use Rattle.ls_ast.specs.declared.tree.Form.TheOpen.{Form-F}
use Rattle.tree_notes.proofs.Refold.{twice}

module _ {N A A' B B' : Type 0} (s : Form-F N A A' → A) (s' : Expr-F N A A' → A') (t : Form-F N B B' → B) (t' : Expr-F N B B' → B')
    (R : A → B → Type 0) (R' : A' → B' → Type 0) where
  abbrev pub Two : Type 0
  Two = (a : A) × (b : B) × R a b

  abbrev pub Two' : Type 0
  Two' = (a : A') × (b : B') × R' a b

  abbrev pub lefts : Form-F N Two Two' → Form-F N A A'
  lefts = map-Form N Two Two' A A' (λ p. p.0) (λ p. p.0)

  abbrev pub rights : Form-F N Two Two' → Form-F N B B'
  rights = map-Form N Two Two' B B' (λ p. p.1) (λ p. p.1)

  module _ (step : (y : Form-F N Two Two') → R (s (lefts y)) (t (rights y)))
      (step' : (n : N) (p : Two) → R' (s' (record { note = n; form = p.0 })) (t' (record { note = n; form = p.1 }))) where
    abbrev P : Form N → Type 0
    P x = R (fold-Form N A A' s s' x) (fold-Form N B B' t t' x)

    abbrev P' : Expr N → Type 0
    P' e = R' (fold-Expr N A A' s s' e) (fold-Expr N B B' t t' e)

    abbrev With : Type 0
    With = (x : Form N) × P x

    abbrev With' : Type 0
    With' = (e : Expr N) × P' e

    abbrev two : With → Two
    two p = (fold-Form N A A' s s' p.0, fold-Form N B B' t t' p.0, p.1)

    abbrev two' : With' → Two'
    two' p = (fold-Expr N A A' s s' p.0, fold-Expr N B B' t t' p.0, p.1)

    abbrev tops : Form-F N With With' → Form-F N (Form N) (Expr N)
    tops = map-Form N With With' (Form N) (Expr N) (λ p. p.0) (λ p. p.0)

    left_is : (y : Form-F N With With') → fold-Form N A A' s s' (roll-Form N (tops y)) ≡ s (lefts (map-Form N With With' Two Two' two two' y))
    left_is y = fold-roll-Form N A A' s s' (tops y)
        ∙ ap s (twice N With With' (Form N) (Expr N) A A' (λ p. p.0) (λ p. p.0) (fold-Form N A A' s s') (fold-Expr N A A' s s') y
        ∙ sym (twice N With With' Two Two' A A' two two' (λ p. p.0) (λ p. p.0) y))

    right_is : (y : Form-F N With With') → fold-Form N B B' t t' (roll-Form N (tops y)) ≡ t (rights (map-Form N With With' Two Two' two two' y))
    right_is y = fold-roll-Form N B B' t t' (tops y)
        ∙ ap t (twice N With With' (Form N) (Expr N) B B' (λ p. p.0) (λ p. p.0) (fold-Form N B B' t t') (fold-Expr N B B' t t') y
        ∙ sym (twice N With With' Two Two' B B' two two' (λ p. p.1) (λ p. p.1) y))

    at_form : (y : Form-F N With With') → P (roll-Form N (tops y))
    at_form y = subst (λ a. R a (fold-Form N B B' t t' (roll-Form N (tops y)))) (sym (left_is y))
        (subst (λ b. R (s (lefts (map-Form N With With' Two Two' two two' y))) b) (sym (right_is y)) (step (map-Form N With With' Two Two' two two' y)))

    at_expr : (n : N) (p : With) → P' (roll-Expr N (record { note = n; form = p.0 }))
    at_expr n p = subst (λ a. R' a (fold-Expr N B B' t t' (roll-Expr N (record { note = n; form = p.0 })))) (sym (fold-roll-Expr N A A' s s' (record { note = n; form = p.0 })))
        (subst (λ b. R' (s' (record { note = n; form = fold-Form N A A' s s' p.0 })) b) (sym (fold-roll-Expr N B B' t t' (record { note = n; form = p.0 }))) (step' n (two p)))

    pub related : (e : Expr N) → P' e
    related = ind-Expr N P P'
        (λ x y from. subst (λ z. P (roll-Form N z)) from (at_form y))
        (λ x y from. subst (λ z. P' (roll-Expr N z)) from (at_expr y.note y.form))

-- Trees with other notes, and two folds over one tree.
use Rattle.std.specs.Prelude.{◌≡◌, refl, List, [], ◌∷◌, map, Some, None}
use Rattle.std.proofs.Common.{ap, sym, ◌∙◌, subst}
use Rattle.ls_ast.specs.declared.tree.Case.{Case}
use Rattle.ls_ast.specs.declared.tree.Expr.{Expr, Expr-F, fold-Expr, fold-roll-Expr, ind-Expr, roll-Expr}
use Rattle.ls_ast.specs.declared.tree.Form.{Form, fold-Form, fold-roll-Form, map-Form, roll-Form}
use Rattle.ls_ast.specs.declared.tree.Form.TheOpen.{Form-F}
use Rattle.tree_notes.specs.Noted as T
use Rattle.tree_notes.specs.Noted.{retag}

abbrev pub in_choices : {X Y : Type 0} → (X → Y) → List (Case × X) → List (Case × Y)
in_choices {X} {Y} f = map {A = Case × X} {B = Case × Y} (λ c. (c.0, f c.1))

pub twice_list : {X Y Z : Type 0} (f : X → Y) (g : Y → Z) (xs : List X) → map g (map f xs) ≡ map (λ x. g (f x)) xs
twice_list f g [] = refl
twice_list f g (x ∷ xs) = ap (λ zs. g (f x) ∷ zs) (twice_list f g xs)

pub twice_choices : {X Y Z : Type 0} (f : X → Y) (g : Y → Z) (xs : List (Case × X)) → in_choices g (in_choices f xs) ≡ in_choices (λ x. g (f x)) xs
twice_choices f g [] = refl
twice_choices f g (x ∷ xs) = ap (λ zs. (x.0, g (f x.1)) ∷ zs) (twice_choices f g xs)

module _ (N X X' Y Y' Z Z' : Type 0) (f : X → Y) (f' : X' → Y') (g : Y → Z) (g' : Y' → Z') where
  pub twice : (x : Form-F N X X') → map-Form N Y Y' Z Z' g g' (map-Form N X X' Y Y' f f' x) ≡ map-Form N X X' Z Z' (λ x. g (f x)) (λ x. g' (f' x)) x
  twice (Form-F.Op op args) = ap (Form-F.Op op) (twice_list f' g' args)
  twice (Form-F.Tuple args) = ap Form-F.Tuple (twice_list f' g' args)
  twice (Form-F.Merge name choices) = ap (Form-F.Merge name) (twice_choices f' g' choices)
  twice (Form-F.Call run head args None) = ap (λ z. Form-F.Call run head z None) (twice_list f' g' args)
  twice (Form-F.Call run head args (Some e)) = ap (λ z. Form-F.Call run head z (Some (g' (f' e)))) (twice_list f' g' args)
  twice _ = refl

module _ {N M : Type 0} (g : N → M) where
  abbrev pub form_noted : Form-F N (Form M) (Expr M) → Form M
  form_noted = T.form_notes N M g

  abbrev pub expr_noted : Expr-F N (Form M) (Expr M) → Expr M
  expr_noted = T.expr_notes N M g

  -- the same expression with other notes
  abbrev pub noted : Expr N → Expr M
  noted = T.in_expr N M g

  abbrev pub noted_form : Form N → Form M
  noted_form = T.in_form N M g

-- ---- two folds, over a tree with other notes and over the tree itself, are related where their steps are

module _ {N M A A' B B' : Type 0} (g : N → M) (s : Form-F M A A' → A) (s' : Expr-F M A A' → A') (t : Form-F N B B' → B) (t' : Expr-F N B B' → B')
    (R : A → B → Type 0) (R' : A' → B' → Type 0) where
  abbrev pub Two : Type 0
  Two = (a : A) × (b : B) × R a b

  abbrev pub Two' : Type 0
  Two' = (a : A') × (b : B') × R' a b

  abbrev pub lefts : Form-F N Two Two' → Form-F M A A'
  lefts y = retag (map-Form N Two Two' A A' (λ p. p.0) (λ p. p.0) y)

  abbrev pub rights : Form-F N Two Two' → Form-F N B B'
  rights = map-Form N Two Two' B B' (λ p. p.1) (λ p. p.1)

  module _ (step : (y : Form-F N Two Two') → R (s (lefts y)) (t (rights y)))
      (step' : (n : N) (p : Two) → R' (s' (record { note = g n; form = p.0 })) (t' (record { note = n; form = p.1 }))) where
    abbrev low : Form N → A
    low x = fold-Form M A A' s s' (noted_form g x)

    abbrev low' : Expr N → A'
    low' e = fold-Expr M A A' s s' (noted g e)

    abbrev P : Form N → Type 0
    P x = R (low x) (fold-Form N B B' t t' x)

    abbrev P' : Expr N → Type 0
    P' e = R' (low' e) (fold-Expr N B B' t t' e)

    abbrev With : Type 0
    With = (x : Form N) × P x

    abbrev With' : Type 0
    With' = (e : Expr N) × P' e

    abbrev two : With → Two
    two p = (low p.0, fold-Form N B B' t t' p.0, p.1)

    abbrev two' : With' → Two'
    two' p = (low' p.0, fold-Expr N B B' t t' p.0, p.1)

    abbrev tops : Form-F N With With' → Form-F N (Form N) (Expr N)
    tops = map-Form N With With' (Form N) (Expr N) (λ p. p.0) (λ p. p.0)

    -- a layer is mapped before or after its notes are other ones
    moved : (x : Form-F N (Form N) (Expr N))
        → map-Form M (Form M) (Expr M) A A' (fold-Form M A A' s s') (fold-Expr M A A' s s') (retag (map-Form N (Form N) (Expr N) (Form M) (Expr M) (noted_form g) (noted g) x))
        ≡ retag (map-Form N (Form N) (Expr N) A A' low low' x)
    moved (Form-F.Op op args) = ap (Form-F.Op op) (twice_list (noted g) (fold-Expr M A A' s s') args)
    moved (Form-F.Tuple args) = ap Form-F.Tuple (twice_list (noted g) (fold-Expr M A A' s s') args)
    moved (Form-F.Merge name choices) = ap (Form-F.Merge name) (twice_choices (noted g) (fold-Expr M A A' s s') choices)
    moved (Form-F.Call run head args None) = ap (λ z. Form-F.Call run head z None) (twice_list (noted g) (fold-Expr M A A' s s') args)
    moved (Form-F.Call run head args (Some e)) = ap (λ z. Form-F.Call run head z (Some (low' e))) (twice_list (noted g) (fold-Expr M A A' s s') args)
    moved _ = refl

    low_roll : (x : Form-F N (Form N) (Expr N)) → low (roll-Form N x) ≡ s (retag (map-Form N (Form N) (Expr N) A A' low low' x))
    low_roll x = ap (fold-Form M A A' s s') (fold-roll-Form N (Form M) (Expr M) (form_noted g) (expr_noted g) x)
        ∙ fold-roll-Form M A A' s s' (retag (map-Form N (Form N) (Expr N) (Form M) (Expr M) (noted_form g) (noted g) x))
        ∙ ap s (moved x)

    left_is : (y : Form-F N With With') → low (roll-Form N (tops y)) ≡ s (lefts (map-Form N With With' Two Two' two two' y))
    left_is y = low_roll (tops y)
        ∙ ap (λ z. s (retag z)) (twice N With With' (Form N) (Expr N) A A' (λ p. p.0) (λ p. p.0) low low' y
        ∙ sym (twice N With With' Two Two' A A' two two' (λ p. p.0) (λ p. p.0) y))

    right_is : (y : Form-F N With With') → fold-Form N B B' t t' (roll-Form N (tops y)) ≡ t (rights (map-Form N With With' Two Two' two two' y))
    right_is y = fold-roll-Form N B B' t t' (tops y)
        ∙ ap t (twice N With With' (Form N) (Expr N) B B' (λ p. p.0) (λ p. p.0) (fold-Form N B B' t t') (fold-Expr N B B' t t') y
        ∙ sym (twice N With With' Two Two' B B' two two' (λ p. p.1) (λ p. p.1) y))

    at_form : (y : Form-F N With With') → P (roll-Form N (tops y))
    at_form y = subst (λ a. R a (fold-Form N B B' t t' (roll-Form N (tops y)))) (sym (left_is y))
        (subst (λ b. R (s (lefts (map-Form N With With' Two Two' two two' y))) b) (sym (right_is y)) (step (map-Form N With With' Two Two' two two' y)))

    low'_roll : (n : N) (x : Form N) → low' (roll-Expr N (record { note = n; form = x })) ≡ s' (record { note = g n; form = low x })
    low'_roll n x = ap (fold-Expr M A A' s s') (fold-roll-Expr N (Form M) (Expr M) (form_noted g) (expr_noted g) (record { note = n; form = x }))
        ∙ fold-roll-Expr M A A' s s' (record { note = g n; form = noted_form g x })

    at_expr : (n : N) (p : With) → P' (roll-Expr N (record { note = n; form = p.0 }))
    at_expr n p = subst (λ a. R' a (fold-Expr N B B' t t' (roll-Expr N (record { note = n; form = p.0 })))) (sym (low'_roll n p.0))
        (subst (λ b. R' (s' (record { note = g n; form = low p.0 })) b) (sym (fold-roll-Expr N B B' t t' (record { note = n; form = p.0 }))) (step' n (two p)))

    pub related : (e : Expr N) → P' e
    related = ind-Expr N P P'
        (λ x y from. subst (λ z. P (roll-Form N z)) from (at_form y))
        (λ x y from. subst (λ z. P' (roll-Expr N z)) from (at_expr y.note y.form))

-- A function over expressions is the fold where it commutes with one layer: so two definitions over expressions are compared layer by layer.
use Rattle.std.specs.Prelude.{◌≡◌, List, [], ◌∷◌, map, Some, None, refl}
use Rattle.std.proofs.Common.{ap, ap₂, sym, ◌∙◌, subst}
use Rattle.ls_ast.specs.declared.tree.Case.{Case}
use Rattle.ls_ast.specs.declared.tree.Expr.{Expr, Expr-F, fold-Expr, ind-Expr, fold-roll-Expr, map-Expr, roll-Expr}
use Rattle.ls_ast.specs.declared.tree.Form.{Form, roll-Form, fold-Form, fold-roll-Form, map-Form}
use Rattle.ls_ast.specs.declared.tree.Form.TheOpen.{Form-F}

-- a part, with a proof that two functions agree there
abbrev pub Same : {X A : Type 0} → (X → A) → (X → A) → Type 0
Same {X} f g = (x : X) × (f x ≡ g x)

abbrev pub in_choices : {X Y : Type 0} → (X → Y) → List (Case × X) → List (Case × Y)
in_choices {X} {Y} f = map {A = Case × X} {B = Case × Y} (λ c. (c.0, f c.1))

pub same_list : {X A : Type 0} (f g : X → A) (ys : List (Same f g)) → map f (map (λ y. y.0) ys) ≡ map g (map (λ y. y.0) ys)
same_list f g [] = refl
same_list f g (y ∷ ys) = ap₂ (λ a bs. a ∷ bs) y.1 (same_list f g ys)

pub same_choices : {X A : Type 0} (f g : X → A) (ys : List (Case × Same f g)) → in_choices f (in_choices (λ (y : Same f g). y.0) ys) ≡ in_choices g (in_choices (λ (y : Same f g). y.0) ys)
same_choices f g [] = refl
same_choices {A = A} f g (y ∷ ys) = ap₂ (λ (a : Case × A) bs. a ∷ bs) (λ i. (y.0, y.1.1 i)) (same_choices f g ys)

module _ (N X X' A A' : Type 0) (f g : X → A) (f' g' : X' → A') where
  pub same_form : (y : Form-F N (Same f g) (Same f' g')) → map-Form N X X' A A' f f' (map-Form N (Same f g) (Same f' g') X X' (λ y. y.0) (λ y. y.0) y) ≡ map-Form N X X' A A' g g' (map-Form N (Same f g) (Same f' g') X X' (λ y. y.0) (λ y. y.0) y)
  same_form (Form-F.Op op args) = ap (Form-F.Op op) (same_list f' g' args)
  same_form (Form-F.Tuple args) = ap Form-F.Tuple (same_list f' g' args)
  same_form (Form-F.Pre e) = ap Form-F.Pre e.1
  same_form (Form-F.Fby a b) = ap₂ Form-F.Fby a.1 b.1
  same_form (Form-F.Init a b) = ap₂ Form-F.Init a.1 b.1
  same_form (Form-F.When e name case) = ap (λ z. Form-F.When z name case) e.1
  same_form (Form-F.Merge name choices) = ap (Form-F.Merge name) (same_choices f' g' choices)
  same_form (Form-F.Call run head args None) = ap (λ z. Form-F.Call run head z None) (same_list f' g' args)
  same_form (Form-F.Call run head args (Some e)) = ap₂ (λ z w. Form-F.Call run head z (Some w)) (same_list f' g' args) e.1
  same_form _ = refl

module _ {N : Type 0} (A A' : Type 0) (step : Form-F N A A' → A) (step' : Expr-F N A A' → A') (h : Form N → A) (h' : Expr N → A')
    (is : (x : Form-F N (Form N) (Expr N)) → h (roll-Form N x) ≡ step (map-Form N (Form N) (Expr N) A A' h h' x))
    (is' : (x : Expr-F N (Form N) (Expr N)) → h' (roll-Expr N x) ≡ step' (map-Expr N (Form N) (Expr N) A A' h h' x)) where
  abbrev Agrees : Form N → Type 0
  Agrees x = h x ≡ fold-Form N A A' step step' x

  abbrev Agrees' : Expr N → Type 0
  Agrees' x = h' x ≡ fold-Expr N A A' step step' x

  pub unique : (e : Expr N) → Agrees' e
  unique = ind-Expr N Agrees Agrees'
      (λ x y from. subst (λ z. Agrees (roll-Form N z)) from
      (is _ ∙ ap step (same_form N (Form N) (Expr N) A A' h (fold-Form N A A' step step') h' (fold-Expr N A A' step step') y) ∙ sym (fold-roll-Form N A A' step step' _)))
      (λ x y from. subst (λ z. Agrees' (roll-Expr N z)) from
      (is' _ ∙ (λ i. step' (record { note = y.note; form = y.form.1 i })) ∙ sym (fold-roll-Expr N A A' step step' _)))

pub twice_list : {X Y Z : Type 0} (f : X → Y) (g : Y → Z) (xs : List X) → map g (map f xs) ≡ map (λ x. g (f x)) xs
twice_list f g [] = refl
twice_list f g (x ∷ xs) = ap (λ zs. g (f x) ∷ zs) (twice_list f g xs)

pub twice_choices : {X Y Z : Type 0} (f : X → Y) (g : Y → Z) (xs : List (Case × X)) → in_choices g (in_choices f xs) ≡ in_choices (λ x. g (f x)) xs
twice_choices f g [] = refl
twice_choices f g (x ∷ xs) = ap (λ zs. (x.0, g (f x.1)) ∷ zs) (twice_choices f g xs)

-- The layers of an expression with other notes are its layers with the other notes.
use Rattle.std.specs.Prelude.{◌≡◌, ◌&&◌, ◌||◌, Bool, true, List, [], ◌∷◌, ◌++◌, map, Option, Some, None, option_map, if◌then◌else◌, refl}
use Rattle.std.proofs.Common.{ap, ap₂, sym, ◌∙◌, subst}
use Rattle.std.proofs.lemmas.List.{map-append}
use Rattle.ls_ast.specs.declared.tree.Case.{Case}
use Rattle.ls_ast.specs.declared.tree.Expr.{Expr, fold-roll-Expr, fold_out-Expr, ind-Expr, roll-Expr}
use Rattle.ls_ast.specs.declared.tree.Form.{Form, fold-Form, fold-roll-Form, map-Form, roll-Form}
use Rattle.ls_ast.specs.declared.tree.Form.TheOpen.{Form-F}
use Rattle.clock_rules.specs.Layers.{Inside, Laid, remap, map_choices, note_of, laid_layers, streams, gives, form_layers, expr_layers, laid, layers}
use Rattle.ls_places.specs.Clocks.{choice_parts, option_part, form_parts}
use Rattle.clock_rules.specs.Instances.{map_layer, map_form}
use Rattle.tree_notes.specs.Noted.{retag, form_notes, expr_notes, in_form, in_expr}
use Rattle.clock_rules.proofs.Fusion.{remap_twice}

module _ (N M : Type 0) (f : N → M) (fN : N → Bool) (fM : M → Bool) (agree : (n : N) → fM (f n) ≡ fN n) where
  abbrev LN : Type 0
  LN = Laid N fN

  abbrev LM : Type 0
  LM = Laid M fM

  abbrev IN : Type 0
  IN = Inside N fN

  abbrev IM : Type 0
  IM = Inside M fM

  abbrev to_laid : LN → LM
  to_laid l = record { note = f l.note; all = map (map_layer f) l.all; holds = l.holds }

  abbrev to_inside : IN → IM
  to_inside i = record { form = map_form f i.form; all = map (map_layer f) i.all; given = i.given }

  -- ---- one layer

  choices_parts : (all : List (Case × LN)) → choice_parts (map_choices to_laid all) ≡ map to_laid (choice_parts all)
  choices_parts [] = refl
  choices_parts (c ∷ all) = ap (λ z. to_laid c.1 ∷ z) (choices_parts all)

  option_parts : (o : Option LN) → option_part (option_map to_laid o) ≡ map to_laid (option_part o)
  option_parts None = refl
  option_parts (Some x) = refl

  parts_in : (x : Form-F N IN LN) → form_parts (remap to_laid {N = N} {M = M} {A = IN} {B = IM} x) ≡ map to_laid (form_parts x)
  parts_in (Form-F.Leaf l) = refl
  parts_in (Form-F.Case x) = refl
  parts_in (Form-F.Var x) = refl
  parts_in (Form-F.Last x) = refl
  parts_in (Form-F.Asked x) = refl
  parts_in (Form-F.Op o args) = refl
  parts_in (Form-F.Tuple all) = refl
  parts_in (Form-F.Pre e) = refl
  parts_in (Form-F.Fby x y) = refl
  parts_in (Form-F.Init x y) = refl
  parts_in (Form-F.When e x k) = refl
  parts_in (Form-F.Merge x all) = choices_parts all
  parts_in (Form-F.Call run x args every) = ap (λ z. map to_laid args ++ z) (option_parts every) ∙ sym (map-append to_laid args (option_part every))

  all_in : (ls : List LN) → laid_layers M fM (map to_laid ls) ≡ map (map_layer f) (laid_layers N fN ls)
  all_in [] = refl
  all_in (l ∷ ls) = ap (λ z. map (map_layer f) l.all ++ z) (all_in ls) ∙ sym (map-append (map_layer f) l.all (laid_layers N fN ls))

  streams_in : (ls : List LN) → streams M fM (map to_laid ls) ≡ streams N fN ls
  streams_in [] = refl
  streams_in (l ∷ ls) = ap₂ (λ x y. (if x then l.holds else true) || y) (agree l.note) (streams_in ls)

  gives_in : (x : Form-F N IN LN) → gives M fM (remap to_laid {N = N} {M = M} {A = IN} {B = IM} x) ≡ gives N fN x
  gives_in (Form-F.Call run x args every) = streams_in args
  gives_in (Form-F.Leaf l) = refl
  gives_in (Form-F.Case x) = refl
  gives_in (Form-F.Var x) = refl
  gives_in (Form-F.Last x) = refl
  gives_in (Form-F.Asked x) = refl
  gives_in (Form-F.Op o args) = refl
  gives_in (Form-F.Tuple all) = refl
  gives_in (Form-F.Pre e) = refl
  gives_in (Form-F.Fby x y) = refl
  gives_in (Form-F.Init x y) = refl
  gives_in (Form-F.When e x k) = refl
  gives_in (Form-F.Merge x all) = refl

  form_in : (x : Form-F N IN LN) → form_layers M fM (remap to_laid x) ≡ to_inside (form_layers N fN x)
  form_in x = λ i. record {
    form = (remap_twice N M M IN IM (Unit {0}) to_laid (note_of M fM) (λ l. f l.note) (λ l. refl) x
        ∙ sym (remap_twice N N M IN (Unit {0}) (Unit {0}) (note_of N fN) f (λ l. f l.note) (λ l. refl) x)) i;
    all = (ap (laid_layers M fM) (parts_in x) ∙ all_in (form_parts x)) i;
    given = gives_in x i;
  }

  expr_in : (n : N) (x : IN) → expr_layers M fM (record { note = f n; form = to_inside x }) ≡ to_laid (expr_layers N fN (record { note = n; form = x }))
  expr_in n x = λ i. record {
    note = f n;
    all = record { note = f n; form = map_form f x.form; holds = agree n i && x.given } ∷ map (map_layer f) x.all;
    holds = agree n i && x.given;
  }

  -- ---- all layers

  abbrev inside_N : Form N → IN
  inside_N = fold-Form N IN LN (form_layers N fN) (expr_layers N fN)

  abbrev inside_M : Form M → IM
  inside_M = fold-Form M IM LM (form_layers M fM) (expr_layers M fM)

  abbrev FormIs : Form N → Type 0
  FormIs x = inside_M (in_form N M f x) ≡ to_inside (inside_N x)

  abbrev ExprIs : Expr N → Type 0
  ExprIs e = laid M fM (in_expr N M f e) ≡ to_laid (laid N fN e)

  abbrev WithForm : Type 0
  WithForm = (x : Form N) × FormIs x

  abbrev WithExpr : Type 0
  WithExpr = (e : Expr N) × ExprIs e

  list_in : (ps : List WithExpr) → map (laid M fM) (map (in_expr N M f) (map (λ p. p.0) ps)) ≡ map to_laid (map (laid N fN) (map (λ p. p.0) ps))
  list_in [] = refl
  list_in (p ∷ ps) = ap₂ (λ x xs. x ∷ xs) p.1 (list_in ps)

  abbrev in_pairs : {X Y : Type 0} → (X → Y) → List (Case × X) → List (Case × Y)
  in_pairs {X} {Y} g = map {A = Case × X} {B = Case × Y} (λ c. (c.0, g c.1))

  pairs_in : (ps : List (Case × WithExpr)) → in_pairs (laid M fM) (in_pairs (in_expr N M f) (in_pairs (λ (p : WithExpr). p.0) ps)) ≡ map_choices to_laid (in_pairs (laid N fN) (in_pairs (λ (p : WithExpr). p.0) ps))
  pairs_in [] = refl
  pairs_in (p ∷ ps) = ap₂ (λ (x : LM) xs. (p.0, x) ∷ xs) p.1.1 (pairs_in ps)

  abbrev bottom : Form-F N WithForm WithExpr → Form-F N (Form N) (Expr N)
  bottom y = map-Form N WithForm WithExpr (Form N) (Expr N) (λ p. p.0) (λ p. p.0) y

  collapse : (y : Form-F N WithForm WithExpr)
      → map-Form M (Form M) (Expr M) IM LM inside_M (laid M fM) (retag (map-Form N (Form N) (Expr N) (Form M) (Expr M) (in_form N M f) (in_expr N M f) (bottom y)))
      ≡ remap to_laid (map-Form N (Form N) (Expr N) IN LN inside_N (laid N fN) (bottom y))
  collapse (Form-F.Leaf l) = refl
  collapse (Form-F.Case x) = refl
  collapse (Form-F.Var x) = refl
  collapse (Form-F.Last x) = refl
  collapse (Form-F.Asked x) = refl
  collapse (Form-F.Op o ps) = ap (Form-F.Op o) (list_in ps)
  collapse (Form-F.Tuple ps) = ap Form-F.Tuple (list_in ps)
  collapse (Form-F.Pre p) = ap Form-F.Pre p.1
  collapse (Form-F.Fby p q) = ap₂ Form-F.Fby p.1 q.1
  collapse (Form-F.Init p q) = ap₂ Form-F.Init p.1 q.1
  collapse (Form-F.When p x k) = ap (λ z. Form-F.When z x k) p.1
  collapse (Form-F.Merge x ps) = ap (Form-F.Merge x) (pairs_in ps)
  collapse (Form-F.Call run x ps None) = ap (λ z. Form-F.Call run x z None) (list_in ps)
  collapse (Form-F.Call run x ps (Some p)) = ap₂ (λ z w. Form-F.Call run x z (Some w)) (list_in ps) p.1

  form_layer : (y : Form-F N WithForm WithExpr) → FormIs (roll-Form N (bottom y))
  form_layer y =
      ap inside_M (fold-roll-Form N (Form M) (Expr M) (form_notes N M f) (expr_notes N M f) (bottom y))
      ∙ fold-roll-Form M IM LM (form_layers M fM) (expr_layers M fM) (retag (map-Form N (Form N) (Expr N) (Form M) (Expr M) (in_form N M f) (in_expr N M f) (bottom y)))
      ∙ ap (form_layers M fM) (collapse y)
      ∙ form_in (map-Form N (Form N) (Expr N) IN LN inside_N (laid N fN) (bottom y))
      ∙ ap to_inside (sym (fold-roll-Form N IN LN (form_layers N fN) (expr_layers N fN) (bottom y)))

  expr_layer : (n : N) (p : WithForm) → ExprIs (roll-Expr N (record { note = n; form = p.0 }))
  expr_layer n p =
      ap (laid M fM) (fold-roll-Expr N (Form M) (Expr M) (form_notes N M f) (expr_notes N M f) (record { note = n; form = p.0 }))
      ∙ fold-roll-Expr M IM LM (form_layers M fM) (expr_layers M fM) (record { note = f n; form = in_form N M f p.0 })
      ∙ (λ i. expr_layers M fM (record { note = f n; form = p.1 i }))
      ∙ expr_in n (inside_N p.0)
      ∙ ap to_laid (sym (fold-roll-Expr N IN LN (form_layers N fN) (expr_layers N fN) (record { note = n; form = p.0 })))

  pub laid_in : (e : Expr N) → laid M fM (in_expr N M f e) ≡ to_laid (laid N fN e)
  laid_in = ind-Expr N FormIs ExprIs
      (λ x y from. subst (λ z. FormIs (roll-Form N z)) from (form_layer y))
      (λ x y from. subst (λ z. ExprIs (roll-Expr N z)) from (expr_layer y.note y.form))

  pub layers_in : (e : Expr N) → layers M fM (in_expr N M f e) ≡ map (map_layer f) (layers N fN e)
  layers_in e = ap (λ (l : LM). l.all) (laid_in e)

  pub note_in : (e : Expr N) → (in_expr N M f e).note ≡ f e.note
  note_in e = ap (λ (z : Expr M). z.note) (fold_out-Expr N (Form M) (Expr M) (form_notes N M f) (expr_notes N M f) e)

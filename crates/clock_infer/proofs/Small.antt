-- The sizes in an expression are those of its layers.
use Rattle.std.specs.Prelude.{◌≡◌, refl, ◌&&◌, Bool, true, false, List, [], ◌∷◌, ℕ, ◌+◌, ◌<◌, length, map, IfOk}
use Rattle.std.proofs.Common.{ap, sym, ◌∙◌, drop, get_or, Result, Ok, Err}
use Rattle.ls_ast.specs.declared.tree.Expr.{Expr}
use Rattle.ls_ast.specs.declared.tree.Form.{Form}
use Rattle.ls_terms.specs.declared.clocks.ClockTerm.{ClockTerm}
use Rattle.ls_sig.specs.declared.binder.Note.{Note}
use Rattle.ls_base.proofs.Built.{rest}
use Rattle.ls_places.specs.Places.{Place}
use Rattle.ls_places.specs.declared.places.Whole.{Whole}
use Rattle.clock_rules.specs.Facts.{nodes_of, placed}
use Rattle.clock_rules.specs.Layers.{Layer, laid, laid_layers, layers}
use Rattle.clock_conditions.specs.Every.{every}
use Rattle.clock_conditions.proofs.Testing.{every_more}
use Rattle.clock_pairs.specs.Scene.{function}
use Rattle.clock_pairs.proofs.Layered.{layers_are}
use Rattle.clock_infer.specs.Nodes as spec

module _ (by : List (ℕ × ClockTerm)) where
  abbrev small : Layer Note → Bool
  small = spec.layer_small by

  parts_small : (es : List (Expr Note)) → every small (laid_layers Note function (map (laid Note function) es)) ≡ spec.all_small by es
  parts_small [] = refl
  parts_small (e ∷ es) = every_more small (layers Note function e) (laid_layers Note function (map (laid Note function) es)) ∙ ap (λ z. spec.smalls by e && z) (parts_small es)

  -- an expression, and then its parts
  pub told : (e : Expr Note) → spec.smalls by e ≡ (spec.is_small by e.note.ck && spec.all_small by (spec.parts e.form))
  told e = ap (every small) (layers_are e) ∙ ap (λ z. spec.is_small by e.note.ck && z) (parts_small (spec.parts e.form))

  placed_small : (p : Place) (ls : List (Layer Note)) → every (spec.node_small by) (placed Note p ls) ≡ every small ls
  placed_small p [] = refl
  placed_small p (l ∷ ls) = ap (λ z. small l && z) (placed_small p ls)

  -- one whole expression
  pub whole_small : (x : Whole Note) (all : List (Whole Note)) → spec.nodes_small by (x ∷ all) ≡ (spec.smalls by x.expr && spec.nodes_small by all)
  whole_small x all = every_more (spec.node_small by) (placed Note x.place (layers Note function x.expr)) (nodes_of Note function all) ∙ ap (λ z. z && spec.nodes_small by all) (placed_small x.place (layers Note function x.expr))

  pub two_told : (a c : Expr Note) → spec.all_small by (a ∷ c ∷ []) ≡ spec.two_small by a c
  two_told a c = ap (λ z. spec.smalls by a && z) (and_true (spec.smalls by c))
    where
      and_true : (b : Bool) → (b && true) ≡ b
      and_true true = refl
      and_true false = refl

  -- what is answered of an expression
  pub expr_told : {X : Type 0} (r : Result Bool X) (e : Expr Note) (f : Form Note) (b : Bool) → b ≡ spec.is_small by e.note.ck → b ≡ true → f ≡ e.form
      → IfOk r (λ z. z ≡ spec.all_small by (spec.parts f)) → IfOk r (λ z. z ≡ spec.smalls by e)
  expr_told (Ok z) e f b is full same h = h ∙ ap (λ g. spec.all_small by (spec.parts g)) same ∙ sym (told e ∙ ap (λ c. c && spec.all_small by (spec.parts e.form)) (sym is ∙ full))
  expr_told (Err x) e f b is full same h = tt

  -- one more whole expression
  pub small_turn : (all : List (Whole Note)) (i : ℕ) (x : Whole Note) (whole b : Bool) → i < length all → get_or all i x ≡ x → b ≡ spec.smalls by x.expr → b ≡ true
      → spec.nodes_small by (drop i all) ≡ whole → spec.nodes_small by (drop (i + 1) all) ≡ whole
  small_turn all i x whole b below same is full before =
      sym (ap (spec.nodes_small by) (rest all i x below same) ∙ whole_small x (drop (i + 1) all) ∙ ap (λ c. c && spec.nodes_small by (drop (i + 1) all)) (sym is ∙ full)) ∙ before

  pub small_stop : (all : List (Whole Note)) (i : ℕ) (x : Whole Note) (whole b : Bool) → i < length all → get_or all i x ≡ x → b ≡ spec.smalls by x.expr → b ≡ false
      → spec.nodes_small by (drop i all) ≡ whole → false ≡ whole
  small_stop all i x whole b below same is stops before =
      sym (ap (spec.nodes_small by) (rest all i x below same) ∙ whole_small x (drop (i + 1) all) ∙ ap (λ c. c && spec.nodes_small by (drop (i + 1) all)) (sym is ∙ stops)) ∙ before

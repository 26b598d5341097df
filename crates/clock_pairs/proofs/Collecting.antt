-- The walk collects the pairs of all expressions.
use Rattle.std.specs.Prelude.{◌≡◌, refl, ℕ, ◌+◌, ◌<◌, Bool, List, [], ◌∷◌, ◌++◌, length, map, Option, OnOk}
use Rattle.std.proofs.Common.{ap, sym, ◌∙◌, drop, get_or, Result, Ok, Err}
use Rattle.ls_base.proofs.Built.{rest}
use Rattle.ls_base.specs.declared.Name.{Name}
use Rattle.ls_ast.specs.declared.tree.Expr.{Expr}
use Rattle.ls_ast.specs.declared.tree.Form.{Form}
use Rattle.ls_ast.specs.declared.tree.Form.TheVariants.{Call, outs-Call}
use Rattle.ls_places.specs.Clocks.{form_parts}
use Rattle.ls_sig.specs.declared.binder.Note.{Note}
use Rattle.ls_places.specs.Places.{Place}
use Rattle.ls_places.specs.declared.places.Whole.{Whole}
use Rattle.clock_rules.specs.Constraints.{Node, nodes_pairs}
use Rattle.clock_rules.specs.Facts.{placed}
use Rattle.clock_rules.specs.Fresh.{given_vars}
use Rattle.clock_rules.specs.Layers.{Layer, laid, laid_layers}
use Rattle.clock_rules.specs.Rules as R
use Rattle.clock_pairs.specs.Scene.{cases, clocks, facts, function}
use Rattle.clock_pairs.specs.Walks as spec
use Rattle.clock_pairs.specs.Walks.{node, nodes, parts}
use Rattle.clock_pairs.specs.declared.expressions.Collected.{Collected}
use Rattle.clock_pairs.specs.declared.scene.Scene.{Scene}
use Rattle.clock_pairs.proofs.Layered.{layers_are}
use Rattle.clock_pairs.proofs.Pairing.{grouped}

pub placed_more : (p : Place) (xs ys : List (Layer Note)) → placed Note p (xs ++ ys) ≡ placed Note p xs ++ placed Note p ys
placed_more p [] ys = refl
placed_more p (x ∷ xs) ys = ap (λ z. (x, p) ∷ z) (placed_more p xs ys)

module _ {C : Type 0} (place : C → ℕ → Option ℕ) (s : Scene C) where
  abbrev collected : List Node → Collected → Collected
  collected = spec.collected place s

  abbrev walked : Place → List (Expr Note) → Collected → Collected
  walked = spec.walked place s

  abbrev took : Node → Collected → Collected
  took = spec.took place s

  pub collected_more : (ns ms : List Node) (c : Collected) → collected (ns ++ ms) c ≡ collected ms (collected ns c)
  collected_more [] ms c = refl
  collected_more (n ∷ ns) ms c = collected_more ns ms (took n c)

  walked_are : (p : Place) (es : List (Expr Note)) (c : Collected) → walked p es c ≡ collected (placed Note p (laid_layers Note function (map (laid Note function) es))) c
  walked_are p [] c = refl
  walked_are p (e ∷ es) c =
      walked_are p es (collected (nodes e p) c)
      ∙ sym (ap (λ z. collected z c) (placed_more p (laid Note function e).all (laid_layers Note function (map (laid Note function) es)))
      ∙ collected_more (nodes e p) (placed Note p (laid_layers Note function (map (laid Note function) es))) c)

  -- an expression, and then its parts
  pub told : (e : Expr Note) (p : Place) (c : Collected) → collected (nodes e p) c ≡ walked p (parts e.form) (took (node e p) c)
  told e p c = ap (λ z. collected (placed Note p z) c) (layers_are e) ∙ sym (walked_are p (parts e.form) (took (node e p) c))

  pub walked_more : (p : Place) (es fs : List (Expr Note)) (c : Collected) → walked p (es ++ fs) c ≡ walked p fs (walked p es c)
  walked_more p [] fs c = refl
  walked_more p (e ∷ es) fs c = walked_more p es fs (collected (nodes e p) c)

  -- what is collected are the pairs of the rules
  pub pairs_are : (ns : List Node) (c : Collected)
      → (collected ns c).list ≡ c.list ++ nodes_pairs s.schemes.now (cases place s) (facts place s) (clocks place s) (given_vars s.schemes.now ns c.next).0 ns
  pairs_are [] c = sym (no_more c.list)
    where
      no_more : (xs : List R.Pair) → xs ++ [] ≡ xs
      no_more [] = refl
      no_more (x ∷ xs) = ap (λ z. x ∷ z) (no_more xs)
  pairs_are (n ∷ ns) c =
      pairs_are ns (took n c)
      ∙ grouped c.list (R.node_pairs s.schemes.now (cases place s) (facts place s) (clocks place s) (spec.new_vars place s n c.next).0 n)
      (nodes_pairs s.schemes.now (cases place s) (facts place s) (clocks place s) (given_vars s.schemes.now ns (spec.new_vars place s n c.next).1).0 ns)

  -- one more whole expression
  pub whole_turn : (all : List (Whole Note)) (k : ℕ) (x : Whole Note) (c c' whole : Collected) → k < length all → get_or all k x ≡ x → c' ≡ collected (nodes x.expr x.place) c
      → collected (spec.all_nodes (drop k all)) c ≡ whole → collected (spec.all_nodes (drop (k + 1) all)) c' ≡ whole
  whole_turn all k x c c' whole below is now before =
      ap (collected (spec.all_nodes (drop (k + 1) all))) now
      ∙ sym (collected_more (nodes x.expr x.place) (spec.all_nodes (drop (k + 1) all)) c)
      ∙ sym (ap (λ l. collected (spec.all_nodes l) c) (rest all k x below is))
      ∙ before

  -- the parts of a call
  pub call_told : (f : Form Note) (run : Bool) (x : Name) (args slice : List (Expr Note)) (every : Option (Expr Note)) (p : Place) (c c' : Collected) → f ≡ Call run x args every → slice ≡ args → c' ≡ walked p slice c
      → walked p (spec.maybe every) c' ≡ walked p (parts f) c
  call_told f run x args slice every p c c' is same now =
      ap (walked p (spec.maybe every)) (now ∙ ap (λ l. walked p l c) same)
      ∙ sym (walked_more p args (spec.maybe every) c)
      ∙ sym (ap (λ z. walked p (parts z) c) is ∙ ap (λ z. walked p (form_parts z) c) (outs-Call run x args every))

-- the same in other words
pub ok_to : {X E : Type 0} (r : Result X E) (new x y : Collected) → OnOk r (new ≡ x) → x ≡ y → OnOk r (new ≡ y)
ok_to (Ok z) new x y a e = a ∙ e
ok_to (Err z) new x y a e = tt

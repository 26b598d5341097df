-- The facts of a definition with other notes are its facts with the other notes.
use Rattle.std.specs.Prelude.{◌≡◌, ℕ, Bool, List, [], ◌∷◌, ◌++◌, map, length, Option, Some, option_map, refl}
use Rattle.std.proofs.Common.{ap, ap₂, sym, ◌∙◌}
use Rattle.std.proofs.lemmas.List.{map-append}
use Rattle.ls_ast.specs.declared.tree.BodyOf.{BodyOf}
use Rattle.ls_ast.specs.declared.tree.Expr.{Expr}
use Rattle.ls_ast.specs.declared.tree.Mark.{Mark}
use Rattle.ls_ast.specs.declared.tree.Pat.{Pat}
use Rattle.ls_places.specs.Places
use Rattle.ls_places.specs.Places.{Place}
use Rattle.ls_places.specs.declared.places.Whole.{Whole}
use Rattle.clock_rules.specs.Layers.{Layer, layers}
use Rattle.clock_rules.specs.Facts.{whole_notes, placed, nodes_of, facts_at, facts}
use Rattle.clock_rules.specs.Instances.{map_layer, map_node, map_facts}
use Rattle.tree_notes.specs.Noted as T
use Rattle.clock_rules.proofs.Natural.{layers_in, note_in}
use Rattle.clock_rules.proofs.Finding.{to_expr, to_whole, to_found, find_in}

module _ (N M : Type 0) (f : N → M) (fN : N → Bool) (fM : M → Bool) (agree : (n : N) → fM (f n) ≡ fN n) where
  note_is : (e : Expr N) → (to_expr N M f e).note ≡ f e.note
  note_is = note_in N M f fN fM agree

  placed_in : (p : Place) (ls : List (Layer N)) → placed M p (map (map_layer f) ls) ≡ map (map_node f) (placed N p ls)
  placed_in p [] = refl
  placed_in p (l ∷ ls) = ap (λ z. (map_layer f l, p) ∷ z) (placed_in p ls)

  nodes_in : (all : List (Whole N)) → nodes_of M fM (map (to_whole N M f) all) ≡ map (map_node f) (nodes_of N fN all)
  nodes_in [] = refl
  nodes_in (x ∷ all) =
      ap₂ (λ y z. y ++ z) (ap (placed M x.place) (layers_in N M f fN fM agree x.expr) ∙ placed_in x.place (layers N fN x.expr)) (nodes_in all)
      ∙ sym (map-append (map_node f) (placed N x.place (layers N fN x.expr)) (nodes_of N fN all))

  wholes_in : (all : List (Whole N)) → whole_notes M (map (to_whole N M f) all) ≡ map f (whole_notes N all)
  wholes_in [] = refl
  wholes_in (x ∷ all) = ap₂ (λ y z. y ∷ z) (note_is x.expr) (wholes_in all)

  at_in : (params : List Pat) (marks : List Mark) (notes : List N) (result : N) (p : Places.Found N)
      → facts_at M fM params marks (map f notes) (f result) (to_found N M f p) ≡ map_facts f (facts_at N fN params marks notes result p)
  at_in params marks notes result p = λ i. record {
    params = params;
    marks = marks;
    notes = map f notes;
    result = f result;
    nodes = nodes_in p.exprs i;
    wholes = wholes_in p.exprs i;
    vars = p.vars;
    sites = p.sites;
    starts = p.starts;
    names = p.names;
  }

  module _ (cases : ℕ → Option ℕ) (sN : N → Bool) (sM : M → Bool) (signal : (n : N) → sM (f n) ≡ sN n) where
    pub facts_in : (params : List Pat) (marks : List Mark) (notes : List N) (b : BodyOf N)
        → facts M fM cases sM params marks (map f notes) (T.in_body N M f b) ≡ map_facts f (facts N fN cases sN params marks notes b)
    facts_in params marks notes b =
        ap₂ (facts_at M fM params marks (map f notes)) (note_is b.result)
        (find_in N M f (length params) cases (λ e. sN e.note) (λ e. sM e.note) (λ e. ap sM (note_is e) ∙ signal e.note) b)
        ∙ at_in params marks notes b.result.note (Places.find N (length params) cases (λ e. sN e.note) b)

-- The clock of a block that something noted is sampled on occurs inside the home of each of its variables.
use Rattle.std.specs.Prelude.{◌≡◌, refl, ℕ, Bool, true, false, List, [], ◌∷◌, map, Option, Some, None, option_map, unwrap_or, if◌then◌else◌}
use Rattle.std.proofs.Common.{ap, ap₂, sym, ◌∙◌, subst, inl, inr}
use Rattle.ls_ast.specs.declared.tree.BodyOf.{BodyOf}
use Rattle.ls_ast.specs.declared.tree.Mark.{Mark}
use Rattle.ls_ast.specs.declared.tree.Pat.{Pat}
use Rattle.ls_terms.specs.declared.clocks.ClockTerm.{ClockTerm}
use Rattle.ls_terms.specs.Clocks.{apply}
use Rattle.ls_sig.specs.Notes.{is_signal}
use Rattle.ls_sig.specs.declared.binder.Note.{Note}
use Rattle.ls_sig.specs.declared.binder.TypeNote.{TypeNote}
use Rattle.ls_places.specs.Clocks.{clocks_in, mentions}
use Rattle.ls_places.specs.Places.{InnerArm, Place}
use Rattle.ls_places.specs.Search.{nth}
use Rattle.ls_places.specs.declared.places.Whole.{Whole}
use Rattle.digraph.specs.Graph.{In}
use Rattle.tree_notes.specs.Each.{Each}
use Rattle.clock_rules.specs.declared.scheme.ClockScheme.{ClockScheme}
use Rattle.clock_rules.specs.Facts.{Facts, nodes_of, placed}
use Rattle.clock_rules.specs.Fresh.{facts_of}
use Rattle.clock_rules.specs.Instances.{in_note, map_node}
use Rattle.clock_rules.specs.Judged.{IsPrincipal, IsInstance}
use Rattle.clock_rules.specs.Layers.{Layer, layers}
use Rattle.clock_rules.specs.Rules.{Clocks, at}
use Rattle.clock_rules.specs.Terms.{is_function, pointwise}
use Rattle.clock_rules.proofs.FactsNatural.{facts_in}
use Rattle.clock_rules.proofs.Sides.{all_left, all_right}
use Rattle.clock_rules.proofs.Substitution.{apply_pointwise}
use Rattle.clock_laws.specs.WellFormed.{samplings}
use Rattle.causality_accepted.proofs.Occurs as Oc
use Rattle.causality_accepted.proofs.Renamed as Re
use Rattle.causality_accepted.proofs.Parts as Pa
use Rattle.causality_accepted.proofs.Moved as M
use Rattle.causality_accepted.proofs.Moved.{NodeUsed, in_each, nth_map}

-- what holds of all nodes holds of the layers of each whole expression, at its place

module _ (function : Note → Bool) where
  placed_layers : (P : Layer Note × Place → Type 0) (p : Place) (ls : List (Layer Note)) → Each P (placed Note p ls) → Each (λ l. P (l, p)) ls
  placed_layers P p [] h = tt
  placed_layers P p (l ∷ ls) h = (h.0, placed_layers P p ls h.1)

  pub whole_layers : (P : Layer Note × Place → Type 0) (xs : List (Whole Note)) (x : Whole Note) → In x xs → Each P (nodes_of Note function xs) → Each (λ l. P (l, x.place)) (layers Note function x.expr)
  whole_layers P [] x i h = absurd (Oc.none_in i)
  whole_layers P (y ∷ xs) x i h = elim (Oc.in_cons x y xs i) [
    | inl e ↦ subst (λ (z : Whole Note). Each (λ l. P (l, z.place)) (layers Note function z.expr)) e
        (placed_layers P y.place (layers Note function y.expr) (all_left P (placed Note y.place (layers Note function y.expr)) (nodes_of Note function xs) h))
    | inr j ↦ whole_layers P xs x j (all_right P (placed Note y.place (layers Note function y.expr)) (nodes_of Note function xs) h)
  ]

abbrev or_item : {A : Type 0} → A → List A → A
or_item z [] = z
or_item z (x ∷ xs) = x

abbrev rest : {A : Type 0} → List A → List A
rest [] = []
rest (x ∷ xs) = xs

left_as_is : {A : Type 0} (f : A → A) (xs : List A) → map f xs ≡ xs → Each (λ x. f x ≡ x) xs
left_as_is f [] e = tt
left_as_is f (x ∷ xs) e = (ap (or_item x) e, left_as_is f xs (ap rest e))

module _ (schemes : List ClockScheme) (cases : ℕ → Option ℕ) (params : List Pat) (marks : List Mark) (types : List TypeNote) (tree : BodyOf TypeNote) (notes : List Note) (body : BodyOf Note)
    (p : IsPrincipal schemes cases params marks types tree notes body) where
  abbrev D : Facts Note
  D = facts_of schemes cases params marks notes body

  abbrev function : Note → Bool
  function n = is_function n.ty

  abbrev E : List (Whole Note)
  E = M.E schemes cases params marks notes body

  abbrev cs : Clocks
  cs = p.clocks

  module _ (C : Clocks) (made : IsInstance schemes cases params marks notes body cs notes body C) where
    abbrev f : Note → Note
    f = in_note made.by

    nodes_alike : map (map_node f) D.nodes ≡ D.nodes
    nodes_alike = ap (λ (z : Facts Note). z.nodes)
        (sym (facts_in Note Note f function function (λ n. refl) cases (λ n. is_signal n.ty) (λ n. is_signal n.ty) (λ n. refl) params marks notes body)
        ∙ ap₂ (facts_of schemes cases params marks) made.of_notes made.of_body)

    -- a noted clock stays
    noted_stays : (x : Whole Note) (t : ClockTerm) → In x E → In t (clocks_in x.expr) → apply made.by t ≡ t
    noted_stays x t i j =
        let P : ClockTerm → Type 0 = λ t. apply made.by t ≡ t in
        let nodes : Each (λ (n : Layer Note × Place). P n.0.note.ck) D.nodes = M.each_zip (λ (n : Layer Note × Place). map_node f n ≡ n) (λ n. map_node f n ≡ n) (λ (n : Layer Note × Place). P n.0.note.ck)
        (λ n e h. ap (λ (z : Layer Note × Place). z.0.note.ck) e) D.nodes (left_as_is (map_node f) D.nodes nodes_alike) (left_as_is (map_node f) D.nodes nodes_alike) in
        in_each P (clocks_in x.expr) t (Pa.clocks_all function P x.expr (whole_layers function (λ (n : Layer Note × Place). P n.0.note.ck) E x i nodes)) j

    at_applied : (ts : List ClockTerm) (k : ℕ) → at (map (apply made.by) ts) k ≡ apply made.by (at ts k)
    at_applied ts k = ap (λ o. unwrap_or o pointwise) (nth_map (apply made.by) ts k) ∙ by_case (nth ts k)
      where
        by_case : (o : Option ClockTerm) → unwrap_or (option_map (apply made.by) o) pointwise ≡ apply made.by (unwrap_or o pointwise)
        by_case None = sym (apply_pointwise made.by)
        by_case (Some t) = refl

    -- so does the clock of a block that it is sampled on
    block_stays : (x : Whole Note) (t : ClockTerm) (j m : ℕ) → In x E → In t (clocks_in x.expr) → In (at cs.blocks j, m) (samplings t) → at cs.blocks j ≡ at C.blocks j
    block_stays x t j m i k s =
        sym (in_each (λ (z : ClockTerm × ℕ). apply made.by z.0 ≡ z.0) (samplings t) (at cs.blocks j, m) (Re.fixed_below made.by t (noted_stays x t i k)) s)
        ∙ sym (at_applied cs.blocks j) ∙ ap (λ (z : Clocks). at z.blocks j) made.of_clocks

  pub home_block : Each (NodeUsed schemes (M.V schemes cases params marks notes body)) D.nodes → (w : ℕ) → Each (λ (n : Note). mentions w n.ck ≡ false) notes
      → (x : Whole Note) (t : ClockTerm) (j m : ℕ) → In x E → In t (clocks_in x.expr) → In (at cs.blocks j, m) (samplings t)
      → M.deep_at schemes cases params marks notes body w (M.place_at schemes cases params marks notes body j) (at cs.blocks j) ≡ true
  home_block used w free x t j m i k s = by_case (deep_at l b) refl
    where
      l : List InnerArm
      l = M.place_at schemes cases params marks notes body j

      b : ClockTerm
      b = at cs.blocks j

      deep_at : List InnerArm → ClockTerm → Bool
      deep_at = M.deep_at schemes cases params marks notes body w

      C : Clocks
      C = M.C schemes cases params marks notes body w used cs p.obeys free

      same : b ≡ M.put schemes cases params marks notes body w l b
      same = block_stays C (p.general notes body C p.annotates (M.obeys schemes cases params marks notes body w used cs p.obeys free)) x t j m i k s
          ∙ M.block_at schemes cases params marks notes body w used cs p.obeys free j

      by_case : (c : Bool) → deep_at l b ≡ c → c ≡ true
      by_case true e = refl
      by_case false e =
          let gone : b ≡ Re.renamed w b = same ∙ ap (λ c. if c then b else Re.renamed w b) e in
          let not_here : mentions w b ≡ false = ap (mentions w) gone ∙ Re.renamed_gone w b in
          sym e ∙ ap (Oc.deep (M.home schemes cases params marks notes body w)) (Oc.occurs_not w b l not_here)

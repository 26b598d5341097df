-- A definition obeys the rules exactly where an annotation with the clocks that its calls take obeys them as a whole.
use Rattle.std.specs.Prelude.{ℕ, List, [], ◌∷◌}
use Rattle.ls_terms.specs.declared.clocks.ClockTerm.{ClockTerm}
use Rattle.ls_sig.specs.declared.binder.Note.{Note}
use Rattle.clock_rules.specs.declared.scheme.ClockScheme.{ClockScheme}
use Rattle.std.specs.Prelude.{Option}
use Rattle.tree_notes.specs.Each.{Each}
use Rattle.clock_rules.specs.Facts.{Facts}
use Rattle.clock_rules.specs.Rules as R
use Rattle.clock_rules.specs.Rules.{Clocks, IsEqual, AreEqual}
use Rattle.clock_rules.specs.Constraints.{Node, Annotation, nodes_pairs, NodesFit, AnnotationObeys}
use Rattle.clock_rules.proofs.Sides.{all_left, all_right, all_both}

module _ (sigs : List ClockScheme) (cases : ℕ → Option ℕ) (d : Facts Note) (cs : Clocks) where
  abbrev NodeObeys : Node → Type 0
  NodeObeys = R.NodeObeys sigs cases d cs

  abbrev given : (ns : List Node) → Each NodeObeys ns → List (List ClockTerm)
  given [] h = []
  given (n ∷ ns) h = h.0.by ∷ given ns h.1

  given_fit : (ns : List Node) (h : Each NodeObeys ns) → NodesFit sigs cases (given ns h) ns
  given_fit [] h = tt
  given_fit (n ∷ ns) h = (record { clock = h.0.clock; many = h.0.many; clocks = h.0.clocks }, given_fit ns h.1)

  given_equal : (ns : List Node) (h : Each NodeObeys ns) → AreEqual (nodes_pairs sigs cases d cs (given ns h) ns)
  given_equal [] h = tt
  given_equal (n ∷ ns) h = all_both IsEqual (R.node_pairs sigs cases d cs h.0.by n) (nodes_pairs sigs cases d cs (given ns h.1) ns) h.0.equal (given_equal ns h.1)

  nodes_obey : (gs : List (List ClockTerm)) (ns : List Node) → NodesFit sigs cases gs ns → AreEqual (nodes_pairs sigs cases d cs gs ns) → Each NodeObeys ns
  nodes_obey [] [] f h = tt
  nodes_obey [] (n ∷ ns) f h = absurd f
  nodes_obey (g ∷ gs) [] f h = tt
  nodes_obey (g ∷ gs) (n ∷ ns) f h = (
    record {
      clock = f.0.clock;
      by = g;
      many = f.0.many;
      clocks = f.0.clocks;
      equal = all_left IsEqual (R.node_pairs sigs cases d cs g n) (nodes_pairs sigs cases d cs gs ns) h;
    },
    nodes_obey gs ns f.1 (all_right IsEqual (R.node_pairs sigs cases d cs g n) (nodes_pairs sigs cases d cs gs ns) h),
  )

  abbrev whole : List (List ClockTerm) → Annotation
  whole gs = record { facts = d; clocks = cs; given = gs }

  pub to_whole : R.Obeys sigs cases d cs → (gs : List (List ClockTerm)) × AnnotationObeys sigs cases (whole gs)
  to_whole h = (
    given d.nodes h.nodes,
    record {
      fits = given_fit d.nodes h.nodes;
      equal = all_both IsEqual (nodes_pairs sigs cases d cs (given d.nodes h.nodes) d.nodes) (R.equation_pairs sigs cases d cs) (given_equal d.nodes h.nodes) h.equal;
      conditions = h.conditions;
    },
  )

  pub from_whole : (gs : List (List ClockTerm)) → AnnotationObeys sigs cases (whole gs) → R.Obeys sigs cases d cs
  from_whole gs h = record {
    nodes = nodes_obey gs d.nodes h.fits (all_left IsEqual (nodes_pairs sigs cases d cs gs d.nodes) (R.equation_pairs sigs cases d cs) h.equal);
    equal = all_right IsEqual (nodes_pairs sigs cases d cs gs d.nodes) (R.equation_pairs sigs cases d cs) h.equal;
    conditions = h.conditions;
  }

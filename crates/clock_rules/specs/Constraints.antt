-- The rules of a definition as one list of pairs of clocks, over an annotation with all that the rules need.
use Rattle.std.specs.Prelude.{◌≡◌, ℕ, true, List, [], ◌∷◌, ◌++◌, map, length, Option, Some}
use Rattle.ls_terms.specs.declared.clocks.ClockTerm.{ClockTerm}
use Rattle.ls_terms.specs.Clocks.{apply, stands}
use Rattle.ls_places.specs.Places.{Place}
use Rattle.ls_sig.specs.declared.binder.Note.{Note}
use Rattle.ls_places.specs.declared.places.Variable.{Variable}
use Rattle.clock_rules.specs.declared.scheme.ClockScheme.{ClockScheme}
use Rattle.ls_places.specs.declared.places.Named.{Named}
use Rattle.clock_rules.specs.Terms.{IsClock, IsClockOf, fits}
use Rattle.tree_notes.specs.Each.{Each}
use Rattle.clock_rules.specs.Layers.{Layer}
use Rattle.clock_rules.specs.Facts.{Facts}
use Rattle.clock_rules.specs.Instances.{Subst, in_facts, in_clocks}
use Rattle.clock_rules.specs.Rules as R
use Rattle.ls_places.specs.Search.{nth}
use Rattle.clock_rules.specs.Rules.{Pair, Clocks, AreEqual, count_at, at}

abbrev pub Node : Type 0
Node = Layer Note × Place

-- an annotation, the clocks of variables and blocks, and for each expression those for the variables of the signature that
-- it takes an instance of
pub record Annotation : Type 0 where
  pub facts : Facts Note
  pub clocks : Clocks
  pub given : List (List ClockTerm)

abbrev pub in_annotation : Subst → Annotation → Annotation
in_annotation by w = record { facts = in_facts by w.facts; clocks = in_clocks by w.clocks; given = map (map (apply by)) w.given }

-- a substitution makes both clocks of each pair equal
abbrev pub Unifies : Subst → List Pair → Type 0
Unifies by = Each (λ p. apply by p.0 ≡ apply by p.1)

-- what stands for a variable may stand there
abbrev pub Standing : Subst → Type 0
Standing by = (x : ℕ) (t : ClockTerm) → by x ≡ Some t → stands t ≡ true

-- what stands for a variable is a clock of a stream
abbrev pub Admissible : Subst → Type 0
Admissible by = (x : ℕ) (t : ClockTerm) → by x ≡ Some t → IsClock t

module _ (sigs : List ClockScheme) (cases : ℕ → Option ℕ) where
  abbrev pub nodes_pairs : Facts Note → Clocks → List (List ClockTerm) → List Node → List Pair
  nodes_pairs d cs [] [] = []
  nodes_pairs d cs [] (n ∷ ns) = []
  nodes_pairs d cs (g ∷ gs) [] = []
  nodes_pairs d cs (g ∷ gs) (n ∷ ns) = R.node_pairs sigs cases d cs g n ++ nodes_pairs d cs gs ns

  abbrev pub constraints : Annotation → List Pair
  constraints w = nodes_pairs w.facts w.clocks w.given w.facts.nodes ++ R.equation_pairs sigs cases w.facts w.clocks

  pub record NodeFits (g : List ClockTerm) (n : Node) : Type 0 where
    pub clock : IsClockOf n.0.note.ty n.0.note.ck
    pub many : length g ≡ count_at sigs n.0.note.bound
    pub clocks : Each IsClock g

  abbrev pub NodesFit : List (List ClockTerm) → List Node → Type 0
  NodesFit [] [] = Unit {0}
  NodesFit [] (n ∷ ns) = ⊥
  NodesFit (g ∷ gs) [] = ⊥
  NodesFit (g ∷ gs) (n ∷ ns) = NodeFits g n × NodesFit gs ns

  -- the whole annotation obeys the rules
  pub record AnnotationObeys (w : Annotation) : Type 0 where
    pub fits : NodesFit w.given w.facts.nodes
    pub equal : AreEqual (constraints w)
    pub conditions : R.Conditions sigs cases w.facts w.clocks

  -- ---- the forms of clocks, without names, sizes and equations

  pub record NodeFormed (g : List ClockTerm) (n : Node) : Type 0 where
    pub form : fits n.0.note.ty n.0.note.ck ≡ true
    pub many : length g ≡ count_at sigs n.0.note.bound
    pub stand : Each (λ t. stands t ≡ true) g

  abbrev pub NodesFormed : List (List ClockTerm) → List Node → Type 0
  NodesFormed [] [] = Unit {0}
  NodesFormed [] (n ∷ ns) = ⊥
  NodesFormed (g ∷ gs) [] = ⊥
  NodesFormed (g ∷ gs) (n ∷ ns) = NodeFormed g n × NodesFormed gs ns

  pub record Formed (w : Annotation) : Type 0 where
    pub nodes : NodesFormed w.given w.facts.nodes
    pub many_vars : length w.clocks.vars ≡ length w.facts.vars
    pub many_blocks : length w.clocks.blocks ≡ length w.facts.names
    pub vars : (x : ℕ) (v : Variable) → nth w.facts.vars x ≡ Some v → stands (at w.clocks.vars x) ≡ true
    pub blocks : (j : ℕ) (n : Named) → nth w.facts.names j ≡ Some n → stands (at w.clocks.blocks j) ≡ true
    pub params : Each (λ (n : Note). fits n.ty n.ck ≡ true) w.facts.notes

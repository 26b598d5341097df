-- The most general annotation: unify the constraints of a formed annotation whose clocks are variables. Every instance that
-- obeys the rules is an instance of the unified one, and this obeys them.
use Rattle.std.specs.Prelude.{◌≡◌, ℕ, ◌-◌, ◌<◌, true, List, [], ◌∷◌, ◌++◌, map, length, Option, Some, None, option_map, unwrap_or, if◌then◌else◌, nat_lt, refl}
use Rattle.std.proofs.Common.{ap, ap₂, sym, ◌∙◌, subst, arith}
use Rattle.std.proofs.lemmas.List.{map-append, length-map}
use Rattle.ls_terms.specs.declared.clocks.ClockTerm.{ClockTerm}
use Rattle.ls_terms.specs.declared.types.TypeTerm.{TypeTerm}
use Rattle.ls_terms.specs.Clocks.{apply, size, stands}
use Rattle.ls_places.specs.Places.{InnerArm}
use Rattle.ls_sig.specs.declared.binder.Note.{Note}
use Rattle.clock_rules.specs.declared.scheme.ClockScheme.{ClockScheme}
use Rattle.clock_rules.specs.Terms.{IsClock, IsClockOf, fits, limit, names_in}
use Rattle.tree_notes.specs.Each.{Each}
use Rattle.clock_rules.specs.Facts.{Facts}
use Rattle.clock_rules.specs.Rules as R
use Rattle.ls_places.specs.Search.{nth, starts_with}
use Rattle.clock_rules.specs.Rules.{Pair, Clocks, IsEqual, AreEqual, at, count_at}
use Rattle.clock_rules.specs.Instances.{Subst, in_note, in_node, in_pair, in_facts, in_clocks}
use Rattle.clock_rules.specs.Constraints.{Node, Annotation, in_annotation, Unifies, Standing, nodes_pairs, constraints, NodeFits, NodesFit, AnnotationObeys, NodeFormed, NodesFormed, Formed}
use Rattle.clock_rules.proofs.Commute.{node_in, equations_in, nth_map, at_in}
use Rattle.clock_rules.proofs.Fusion.{facts_twice, map_twice}
use Rattle.clock_rules.proofs.Sides.{names_down, size_up, stands_up, fits_up}

-- ---- equal clocks and unifiers

pub equal_of : (by : Subst) (ps : List Pair) → Unifies by ps → AreEqual (map (in_pair by) ps)
equal_of by [] h = tt
equal_of by (p ∷ ps) h = (h.0, equal_of by ps h.1)

pub unifier_of : (by : Subst) (ps : List Pair) → AreEqual (map (in_pair by) ps) → Unifies by ps
unifier_of by [] h = tt
unifier_of by (p ∷ ps) h = (h.0, unifier_of by ps h.1)

all_mapped : {A B : Type 0} (P : B → Type 0) (Q : A → Type 0) (f : A → B) → ((x : A) → P (f x) → Q x) → (xs : List A) → Each P (map f xs) → Each Q xs
all_mapped P Q f h [] k = tt
all_mapped P Q f h (x ∷ xs) k = (h x k.0, all_mapped P Q f h xs k.1)

all_onto : {A B : Type 0} (Q : A → Type 0) (P : B → Type 0) (f : A → B) → ((x : A) → Q x → P (f x)) → (xs : List A) → Each Q xs → Each P (map f xs)
all_onto Q P f h [] k = tt
all_onto Q P f h (x ∷ xs) k = (h x k.0, all_onto Q P f h xs k.1)

all_turned : {A : Type 0} (P Q : A → Type 0) → ((x : A) → P x → Q x) → (xs : List A) → Each P xs → Each Q xs
all_turned P Q h [] k = tt
all_turned P Q h (x ∷ xs) k = (h x k.0, all_turned P Q h xs k.1)

mapped_some : {A B : Type 0} (f : A → B) (o : Option A) (x : A) → o ≡ Some x → option_map f o ≡ Some (f x)
mapped_some f o x e = ap (option_map f) e

module _ (sigs : List ClockScheme) (cases : ℕ → Option ℕ) (by : Subst) where
  -- ---- the constraints of an instance

  nodes_in : (d : Facts Note) (cs : Clocks) (gs : List (List ClockTerm)) (ns : List Node)
      → nodes_pairs sigs cases (in_facts by d) (in_clocks by cs) (map (map (apply by)) gs) (map (in_node by) ns) ≡ map (in_pair by) (nodes_pairs sigs cases d cs gs ns)
  nodes_in d cs [] [] = refl
  nodes_in d cs [] (n ∷ ns) = refl
  nodes_in d cs (g ∷ gs) [] = refl
  nodes_in d cs (g ∷ gs) (n ∷ ns) =
      ap₂ (λ x y. x ++ y) (node_in by sigs cases d cs g n) (nodes_in d cs gs ns)
      ∙ sym (map-append (in_pair by) (R.node_pairs sigs cases d cs g n) (nodes_pairs sigs cases d cs gs ns))

  pub constraints_in : (w : Annotation) → constraints sigs cases (in_annotation by w) ≡ map (in_pair by) (constraints sigs cases w)
  constraints_in w =
      ap₂ (λ x y. x ++ y) (nodes_in w.facts w.clocks w.given w.facts.nodes) (equations_in by sigs cases w.facts w.clocks)
      ∙ sym (map-append (in_pair by) (nodes_pairs sigs cases w.facts w.clocks w.given w.facts.nodes) (R.equation_pairs sigs cases w.facts w.clocks))

  pub obeying_unifies : (w : Annotation) → AreEqual (constraints sigs cases (in_annotation by w)) → Unifies by (constraints sigs cases w)
  obeying_unifies w h = unifier_of by (constraints sigs cases w) (subst AreEqual (constraints_in w) h)

  pub unifying_obeys : (w : Annotation) → Unifies by (constraints sigs cases w) → AreEqual (constraints sigs cases (in_annotation by w))
  unifying_obeys w h = subst AreEqual (sym (constraints_in w)) (equal_of by (constraints sigs cases w) h)

  -- ---- the conditions hold of an annotation where they hold of an instance of it

  clock_down : (t : ClockTerm) → stands t ≡ true → IsClock (apply by t) → IsClock t
  clock_down t s h = record { stands = s; small = let k = size_up by t in let m = h.small in omega (arith, k, m) }

  clock_of_down : (ty : TypeTerm) (t : ClockTerm) → fits ty t ≡ true → IsClockOf ty (apply by t) → IsClockOf ty t
  clock_of_down ty t s h = record { form = s; small = let k = size_up by t in let m = h.small in omega (arith, k, m) }

  clocks_down : (ts : List ClockTerm) → Each (λ t. stands t ≡ true) ts → Each IsClock (map (apply by) ts) → Each IsClock ts
  clocks_down [] s h = tt
  clocks_down (t ∷ ts) s h = (clock_down t s.0 h.0, clocks_down ts s.1 h.1)

  node_down : (g : List ClockTerm) (n : Node) → NodeFormed sigs cases g n → NodeFits sigs cases (map (apply by) g) (in_node by n) → NodeFits sigs cases g n
  node_down g n f h = record {
    clock = clock_of_down n.0.note.ty n.0.note.ck f.form h.clock;
    many = f.many;
    clocks = clocks_down g f.stand h.clocks;
  }

  nodes_down : (gs : List (List ClockTerm)) (ns : List Node) → NodesFormed sigs cases gs ns → NodesFit sigs cases (map (map (apply by)) gs) (map (in_node by) ns) → NodesFit sigs cases gs ns
  nodes_down [] [] f h = tt
  nodes_down [] (n ∷ ns) f h = h
  nodes_down (g ∷ gs) [] f h = h
  nodes_down (g ∷ gs) (n ∷ ns) f h = (node_down g n f.0 h.0, nodes_down gs ns f.1 h.1)

  module _ (w : Annotation) (formed : Formed sigs cases w) where
    abbrev d : Facts Note
    d = w.facts

    abbrev cs : Clocks
    cs = w.clocks

    abbrev D : Facts Note
    D = in_facts by d

    abbrev C : Clocks
    C = in_clocks by cs

    within_down : (list : List InnerArm) (t : ClockTerm) → R.IsWithin sigs cases D C list (apply by t) → R.IsWithin sigs cases d cs list t
    within_down list t h = names_down by (λ m. starts_with list (R.name_list sigs cases d cs m) ≡ true) t
        (all_turned (λ m. starts_with list (R.name_list sigs cases D C m) ≡ true) (λ m. starts_with list (R.name_list sigs cases d cs m) ≡ true)
        (λ m p. p) (names_in (apply by t)) h)

    public_down : (t : ClockTerm) → R.IsPublic sigs cases D C (apply by t) → R.IsPublic sigs cases d cs t
    public_down t h = names_down by (λ m. R.is_clock_parameter sigs cases d cs m ≡ true) t h

    var_clock : (x : ℕ) → at C.vars x ≡ apply by (at cs.vars x)
    var_clock x = at_in by sigs cases d cs cs.vars x

    block_clock : (j : ℕ) → at C.blocks j ≡ apply by (at cs.blocks j)
    block_clock j = at_in by sigs cases d cs cs.blocks j

    params_down : (ns : List Note) → Each (λ (n : Note). fits n.ty n.ck ≡ true) ns → Each (R.ParamObeys sigs cases D C) (map (in_note by) ns) → Each (R.ParamObeys sigs cases d cs) ns
    params_down [] f h = tt
    params_down (n ∷ ns) f h = (record { clock = clock_of_down n.ty n.ck f.0 h.0.clock; public = public_down n.ck h.0.public }, params_down ns f.1 h.1)

    pub conditions_down : R.Conditions sigs cases D C → R.Conditions sigs cases d cs
    conditions_down h = record {
      many_vars = formed.many_vars;
      many_blocks = formed.many_blocks;
      vars = λ x v e. let k = h.vars x v e in record {
        clock = clock_down (at cs.vars x) (formed.vars x v e) (subst IsClock (var_clock x) k.clock);
        within = within_down v.list (at cs.vars x) (subst (R.IsWithin sigs cases D C v.list) (var_clock x) k.within);
      };
      blocks = λ j n e.
          let k = h.blocks j n e in
          let s = size_up by (at cs.blocks j) in let t = subst (λ z. size z < limit) (block_clock j) k.arm in record {
            clock = clock_down (at cs.blocks j) (formed.blocks j n e) (subst IsClock (block_clock j) k.clock);
            arm = omega (arith, s, t);
            within = within_down (R.name_place sigs cases d cs n) (at cs.blocks j)
                (subst (R.IsWithin sigs cases D C (R.name_place sigs cases D C n)) (block_clock j) k.within);
          };
      params = params_down d.notes formed.params h.params;
      result = public_down d.result.ck h.result;
      acyclic = record {
        rank = h.acyclic.rank;
        below = λ i n e c. names_down by (λ m. h.acyclic.rank m < h.acyclic.rank i) n.ck
            (h.acyclic.below i (in_note by n) (nth_map (in_note by) d.notes i ∙ mapped_some (in_note by) (nth d.notes i) n e) c);
      };
    }

    -- what obeys the equations obeys all rules, if an instance does
    pub obeys_down : AreEqual (constraints sigs cases w) → AnnotationObeys sigs cases (in_annotation by w) → AnnotationObeys sigs cases w
    obeys_down equal h = record {
      fits = nodes_down w.given w.facts.nodes formed.nodes h.fits;
      equal = equal;
      conditions = conditions_down h.conditions;
    }

  -- ---- forms

  module _ (standing : Standing by) where
    stand_all : (ts : List ClockTerm) → Each (λ t. stands t ≡ true) ts → Each (λ t. stands t ≡ true) (map (apply by) ts)
    stand_all [] h = tt
    stand_all (t ∷ ts) h = (stands_up by standing t h.0, stand_all ts h.1)

    nodes_formed : (gs : List (List ClockTerm)) (ns : List Node) → NodesFormed sigs cases gs ns → NodesFormed sigs cases (map (map (apply by)) gs) (map (in_node by) ns)
    nodes_formed [] [] h = tt
    nodes_formed [] (n ∷ ns) h = h
    nodes_formed (g ∷ gs) [] h = h
    nodes_formed (g ∷ gs) (n ∷ ns) h = (
      record {
        form = fits_up by standing n.0.note.ty n.0.note.ck h.0.form;
        many = length-map g (apply by) ∙ h.0.many;
        stand = stand_all g h.0.stand;
      },
      nodes_formed gs ns h.1,
    )

    params_formed : (ns : List Note) → Each (λ (n : Note). fits n.ty n.ck ≡ true) ns → Each (λ (n : Note). fits n.ty n.ck ≡ true) (map (in_note by) ns)
    params_formed [] h = tt
    params_formed (n ∷ ns) h = (fits_up by standing n.ty n.ck h.0, params_formed ns h.1)

    pub formed_in : (w : Annotation) → Formed sigs cases w → Formed sigs cases (in_annotation by w)
    formed_in w f = record {
      nodes = nodes_formed w.given w.facts.nodes f.nodes;
      many_vars = length-map w.clocks.vars (apply by) ∙ f.many_vars;
      many_blocks = length-map w.clocks.blocks (apply by) ∙ f.many_blocks;
      vars = λ x v e. ap stands (at_in by sigs cases w.facts w.clocks w.clocks.vars x) ∙ stands_up by standing (at w.clocks.vars x) (f.vars x v e);
      blocks = λ j n e. ap stands (at_in by sigs cases w.facts w.clocks w.clocks.blocks j) ∙ stands_up by standing (at w.clocks.blocks j) (f.blocks j n e);
      params = params_formed w.facts.notes f.params;
    }

-- ---- an instance of an instance

module _ (σ by : Subst) (general : (t : ClockTerm) → apply by (apply σ t) ≡ apply by t) where
  note_twice : (n : Note) → in_note by (in_note σ n) ≡ in_note by n
  note_twice n = λ i. record n { ck = general n.ck i }

  pub facts_instance : (d : Facts Note) → in_facts by (in_facts σ d) ≡ in_facts by d
  facts_instance = facts_twice (in_note σ) (in_note by) (in_note by) note_twice

  pub clocks_twice : (ts : List ClockTerm) → map (apply by) (map (apply σ) ts) ≡ map (apply by) ts
  clocks_twice = map_twice (apply σ) (apply by) (apply by) general

  pub whole_instance : (w : Annotation) → in_annotation by (in_annotation σ w) ≡ in_annotation by w
  whole_instance w = λ i. record {
    facts = facts_instance w.facts i;
    clocks = record { vars = clocks_twice w.clocks.vars i; blocks = clocks_twice w.clocks.blocks i };
    given = map_twice (map (apply σ)) (map (apply by)) (map (apply by)) clocks_twice w.given i;
  }

-- ---- the most general annotation

module _ (sigs : List ClockScheme) (cases : ℕ → Option ℕ) (w : Annotation) (formed : Formed sigs cases w)
    (σ : Subst) (standing : Standing σ) (unifies : Unifies σ (constraints sigs cases w))
    (general : (by : Subst) → Unifies by (constraints sigs cases w) → (t : ClockTerm) → apply by (apply σ t) ≡ apply by t) where
  -- every instance that obeys the rules is an instance of the most general annotation
  pub is_instance : (by : Subst) → AreEqual (constraints sigs cases (in_annotation by w)) → in_annotation by (in_annotation σ w) ≡ in_annotation by w
  is_instance by h = whole_instance σ by (general by (obeying_unifies sigs cases by w h)) w

  -- and where one does, the most general one does
  pub obeys_most : (by : Subst) → AnnotationObeys sigs cases (in_annotation by w) → AnnotationObeys sigs cases (in_annotation σ w)
  obeys_most by h = obeys_down sigs cases by (in_annotation σ w) (formed_in sigs cases σ standing w formed) (unifying_obeys sigs cases σ w unifies)
      (subst (AnnotationObeys sigs cases) (sym (is_instance by h.equal)) h)

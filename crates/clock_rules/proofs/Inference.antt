-- Inference: the fresh annotation under a most general unifier of its constraints is principal, or no annotation obeys.
use Rattle.std.specs.Prelude.{◌≡◌, ℕ, zero, suc, ◌&&◌, true, List, [], ◌∷◌, ◌++◌, map, length, Option, Some, refl}
use Rattle.std.proofs.Common.{ap, ap₂, sym, ◌∙◌, subst}
use Rattle.ls_ast.specs.declared.tree.BodyOf.{BodyOf}
use Rattle.ls_ast.specs.declared.tree.Mark.{Mark}
use Rattle.ls_ast.specs.declared.tree.Pat.{Pat}
use Rattle.ls_terms.specs.declared.clocks.ClockTerm.{ClockTerm, out-roll-ClockTerm}
use Rattle.ls_terms.specs.declared.clocks.ClockTerm.TheOpen.{ClockTerm-F}
use Rattle.ls_terms.specs.declared.types.Kind.TheVariants as kind
use Rattle.ls_terms.specs.declared.types.TypeTerm.{TypeTerm, fold-roll-TypeTerm, ind-TypeTerm, map-TypeTerm, roll-TypeTerm}
use Rattle.ls_terms.specs.declared.types.TypeTerm.TheOpen.{TypeTerm-F}
use Rattle.ls_terms.specs.Clocks.{apply, stands, stands_at}
use Rattle.ls_sig.specs.Notes.{is_signal}
use Rattle.ls_sig.specs.declared.binder.Note.{Note}
use Rattle.ls_sig.specs.declared.binder.TypeNote.{TypeNote}
use Rattle.clock_rules.specs.declared.scheme.ClockScheme.{ClockScheme}
use Rattle.clock_rules.specs.Terms.{var, fits, fits_step, fit_all, fit_arrow, is_pointwise, Form, is_function}
use Rattle.tree_notes.specs.Each.{Each}
use Rattle.tree_notes.specs.Numbered as Nu
use Rattle.tree_notes.specs.Order as Or
use Rattle.tree_notes.specs.Numbered.{From, all_from}
use Rattle.tree_notes.specs.Noted as T
use Rattle.clock_rules.specs.Facts.{Facts}
use Rattle.clock_rules.specs.Rules as R
use Rattle.ls_places.specs.Search.{nth}
use Rattle.clock_rules.specs.Rules.{Clocks, at, count_at}
use Rattle.clock_rules.specs.Instances.{Subst, in_note, in_facts, in_clocks, map_node}
use Rattle.clock_rules.specs.Constraints.{Node, Annotation, in_annotation, Unifies, Standing, Admissible, constraints, NodesFormed, Formed, AnnotationObeys}
use Rattle.clock_rules.specs.Fresh.{shape, shape_step, step, next, some_vars, given_vars, erase, facts_of, fresh_notes, fresh_body, fresh_vars, fresh_blocks, fresh}
use Rattle.clock_rules.specs.Judged.{Unrestarted, IsClocked, IsInstance, Annotates, IsPrincipal}
use Rattle.clock_rules.proofs.Fusion.{map_twice}
use Rattle.tree_notes.proofs.Twice.{body_twice}
use Rattle.tree_notes.proofs.Same.{body_same}
use Rattle.tree_notes.proofs.Numbering.{body_good}
use Rattle.tree_notes.specs.Agreement.{Agree}
use Rattle.tree_notes.proofs.Made.{made_notes, made_body}
use Rattle.clock_rules.proofs.Noting.{nodes_of_notes, notes_of_nodes}
use Rattle.clock_rules.proofs.Sides.{all_left, all_right, all_both}
use Rattle.clock_rules.proofs.FactsNatural.{facts_in}
use Rattle.clock_rules.proofs.Annotations.{to_whole, from_whole}
use Rattle.clock_rules.proofs.Every as Every
use Rattle.clock_rules.proofs.Principal.{obeying_unifies, obeys_most, clocks_twice}

-- ---- the fresh annotation is formed

var_stands : (k : ℕ) → stands (var k) ≡ true
var_stands k = ap stands_at (out-roll-ClockTerm (ClockTerm-F.Var k))

abbrev ShapeFits : TypeTerm → Type 0
ShapeFits ty = (k : ℕ) → fits ty (shape ty k).0 ≡ true

abbrev WithShape : Type 0
WithShape = (ty : TypeTerm) × ShapeFits ty

abbrev types_of : List WithShape → List TypeTerm
types_of = map {A = WithShape} {B = TypeTerm} (λ p. p.0)

shapes_fit : (ps : List WithShape) (k : ℕ) → fit_all (map fits (types_of ps)) (all_from (map shape (types_of ps)) k).0 ≡ true
shapes_fit [] k = refl
shapes_fit (p ∷ ps) k = ap₂ (λ x y. x && y) (p.1 k) (shapes_fit ps (shape p.0 k).1)

abbrev below : TypeTerm-F WithShape → TypeTerm-F TypeTerm
below y = map-TypeTerm WithShape TypeTerm (λ p. p.0) y

shape_layer : (y : TypeTerm-F WithShape) (k : ℕ) → fits_step (map-TypeTerm TypeTerm Form fits (below y)) (shape_step (map-TypeTerm TypeTerm (From ℕ ClockTerm) shape (below y)) k).0 ≡ true
shape_layer (TypeTerm-F.Arrow kind.Comb ps p) k = ap is_pointwise (out-roll-ClockTerm ClockTerm-F.Pointwise)
shape_layer (TypeTerm-F.Arrow kind.Seq ps p) k =
    ap (fit_arrow (map fits (types_of ps))) (out-roll-ClockTerm (ClockTerm-F.Arrow (all_from (map shape (types_of ps)) k).0 (var (all_from (map shape (types_of ps)) k).1)))
    ∙ ap₂ (λ x y. x && y) (shapes_fit ps k) (var_stands (all_from (map shape (types_of ps)) k).1)
shape_layer (TypeTerm-F.Var v) k = var_stands k
shape_layer _ k = var_stands k

shape_fits : (ty : TypeTerm) → ShapeFits ty
shape_fits = ind-TypeTerm ShapeFits (λ x y from. subst (λ z. ShapeFits (roll-TypeTerm z)) from (λ k.
    let ff : ◌≡◌ {A = Form} (fits (roll-TypeTerm (below y))) (fits_step (map-TypeTerm TypeTerm Form fits (below y))) = fold-roll-TypeTerm Form fits_step (below y) in
    let ss : ◌≡◌ {A = From ℕ ClockTerm} (shape (roll-TypeTerm (below y))) (shape_step (map-TypeTerm TypeTerm (From ℕ ClockTerm) shape (below y))) = fold-roll-TypeTerm (From ℕ ClockTerm) shape_step (below y) in
    (λ i. ff i (ss i k).0) ∙ shape_layer y k))

vars_long : (n k : ℕ) → length (some_vars n k).0 ≡ n
vars_long zero k = refl
vars_long (suc n) k = ap suc (vars_long n (suc k))

pub vars_stand : (n k : ℕ) → Each (λ t. stands t ≡ true) (some_vars n k).0
vars_stand zero k = tt
vars_stand (suc n) k = (var_stands k, vars_stand n (suc k))

stand_at : {A : Type 0} (vs : List A) (ts : List ClockTerm) → length ts ≡ length vs → Each (λ t. stands t ≡ true) ts → (x : ℕ) (v : A) → nth vs x ≡ Some v → stands (at ts x) ≡ true
stand_at [] ts e h x v p = absurd (cc)
stand_at (w ∷ vs) [] e h x v p = absurd (cc)
stand_at (w ∷ vs) (t ∷ ts) e h zero v p = h.0
stand_at (w ∷ vs) (t ∷ ts) e h (suc x) v p = let m : length ts ≡ length vs = cc in stand_at vs ts m h.1 x v p

abbrev NoteFits : Note → Type 0
NoteFits n = fits n.ty n.ck ≡ true

step_fits : (k : ℕ) (t : TypeNote) → NoteFits (step k t)
step_fits k t = shape_fits t.ty k

module _ (sigs : List ClockScheme) (cases : ℕ → Option ℕ) where
  nodes_formed : (ns : List Node) → Each (λ (n : Node). NoteFits n.0.note) ns → (k : ℕ) → NodesFormed sigs cases (given_vars sigs ns k).0 ns
  nodes_formed [] h k = tt
  nodes_formed (n ∷ ns) h k = (
    record { form = h.0; many = vars_long (count_at sigs n.0.note.bound) k; stand = vars_stand (count_at sigs n.0.note.bound) k },
    nodes_formed ns h.1 (some_vars (count_at sigs n.0.note.bound) k).1,
  )

  module _ (params : List Pat) (marks : List Mark) (ts : List TypeNote) (tb : BodyOf TypeNote) where
    abbrev start : Annotation
    start = fresh sigs cases params marks ts tb

    abbrev notes0 : List Note
    notes0 = (fresh_notes sigs cases params marks ts tb).0

    abbrev body0 : BodyOf Note
    body0 = (fresh_body sigs cases params marks ts tb).0

    pub formed : Formed sigs cases start
    formed = record {
      nodes = nodes_formed start.facts.nodes
          (nodes_of_notes Note (λ n. is_function n.ty) NoteFits (length params) cases (λ e. is_signal e.note.ty) body0
          (made_body ℕ TypeNote Note step next NoteFits step_fits tb (fresh_notes sigs cases params marks ts tb).1))
          (fresh_blocks sigs cases params marks ts tb).1;
      many_vars = vars_long (length start.facts.vars) (fresh_body sigs cases params marks ts tb).1;
      many_blocks = vars_long (length start.facts.names) (fresh_vars sigs cases params marks ts tb).1;
      vars = stand_at start.facts.vars start.clocks.vars (vars_long (length start.facts.vars) (fresh_body sigs cases params marks ts tb).1) (vars_stand (length start.facts.vars) (fresh_body sigs cases params marks ts tb).1);
      blocks = stand_at start.facts.names start.clocks.blocks (vars_long (length start.facts.names) (fresh_vars sigs cases params marks ts tb).1) (vars_stand (length start.facts.names) (fresh_vars sigs cases params marks ts tb).1);
      params = made_notes ℕ TypeNote Note step next NoteFits step_fits ts 0;
    }

    -- ---- what an annotation of these trees that obeys gives

    module _ (ns : List Note) (b : BodyOf Note) (same : Annotates sigs cases params marks ts tb ns b) (ok : IsClocked sigs cases params marks ns b) where
      abbrev split : (gs : List (List ClockTerm)) × AnnotationObeys sigs cases (record { facts = facts_of sigs cases params marks ns b; clocks = ok.clocks; given = gs })
      split = to_whole sigs cases (facts_of sigs cases params marks ns b) ok.clocks ok.obeys

      abbrev by : Subst
      by = Every.by sigs cases params marks ns b ok.clocks split.0

      bare1 : Each Unrestarted ns
      bare1 = all_left Unrestarted ns (Or.notes_body Note b) same.unrestarted

      bare2 : Each Unrestarted (Or.notes_body Note b)
      bare2 = all_right Unrestarted ns (Or.notes_body Note b) same.unrestarted

      whole_back : in_annotation by start ≡ record { facts = facts_of sigs cases params marks ns b; clocks = ok.clocks; given = split.0 }
      whole_back = (λ i. in_annotation by (fresh sigs cases params marks (sym same.of_types i) (sym same.of_tree i))) ∙ Every.every sigs cases params marks ns b ok.clocks split.0 bare1 bare2 split.1

      notes_back : map (in_note by) notes0 ≡ ns
      notes_back = (λ i. map (in_note by) (fresh_notes sigs cases params marks (sym same.of_types i) (sym same.of_tree i)).0) ∙ Every.notes_back sigs cases params marks ns b ok.clocks split.0 bare1 bare2 split.1

      body_back : T.in_body Note Note (in_note by) body0 ≡ b
      body_back = (λ i. T.in_body Note Note (in_note by) (fresh_body sigs cases params marks (sym same.of_types i) (sym same.of_tree i)).0) ∙ Every.body_back sigs cases params marks ns b ok.clocks split.0 bare1 bare2 split.1

      obeys : AnnotationObeys sigs cases (in_annotation by start)
      obeys = subst (AnnotationObeys sigs cases) (sym whole_back) split.1

      unifies : Unifies by (constraints sigs cases start)
      unifies = obeying_unifies sigs cases by start obeys.equal

      admissible : Admissible by
      admissible = Every.admissible sigs cases params marks ns b ok.clocks split.0 bare1 bare2 split.1

    -- ---- the fresh annotation is one of these trees

    all_agree : (ns : List TypeNote) (k : ℕ) → Agree ℕ TypeNote TypeNote Note (λ t. t) step next erase k ns
    all_agree [] k = tt
    all_agree (n ∷ ns) k = (refl, all_agree ns (next k n))

    erased_notes : (σ : Subst) (us : List TypeNote) (k : ℕ) → map erase (map (in_note σ) (Nu.number_notes step next us k).0) ≡ us
    erased_notes σ [] k = refl
    erased_notes σ (u ∷ us) k = ap (λ z. u ∷ z) (erased_notes σ us (next k u))

    erased_body : T.in_body Note TypeNote erase body0 ≡ tb
    erased_body =
        (λ i. T.in_body Note TypeNote erase (Nu.number_body step next (sym (body_same TypeNote tb) i) (fresh_notes sigs cases params marks ts tb).1).0)
        ∙ (body_good ℕ TypeNote TypeNote Note (λ t. t) step next erase tb (fresh_notes sigs cases params marks ts tb).1 (all_agree (Or.notes_body TypeNote tb) (fresh_notes sigs cases params marks ts tb).1)).0

    -- where the constraints have no admissible unifier no annotation obeys
    pub none_obeys : ((by : Subst) → Unifies by (constraints sigs cases start) → Admissible by → ⊥)
        → (ns : List Note) (b : BodyOf Note) → Annotates sigs cases params marks ts tb ns b → IsClocked sigs cases params marks ns b → ⊥
    none_obeys clash ns b same ok = clash (by ns b same ok) (unifies ns b same ok) (admissible ns b same ok)

    -- ---- with a most general unifier

    module _ (σ : Subst) (standing : Standing σ) (solves : Unifies σ (constraints sigs cases start))
        (general : (other : Subst) → Unifies other (constraints sigs cases start) → (t : ClockTerm) → apply other (apply σ t) ≡ apply other t) where
      abbrev pub notes1 : List Note
      notes1 = map (in_note σ) notes0

      abbrev pub body1 : BodyOf Note
      body1 = T.in_body Note Note (in_note σ) body0

      facts1 : facts_of sigs cases params marks notes1 body1 ≡ in_facts σ start.facts
      facts1 = facts_in Note Note (in_note σ) (λ n. is_function n.ty) (λ n. is_function n.ty) (λ n. refl) cases (λ n. is_signal n.ty) (λ n. is_signal n.ty) (λ n. refl) params marks notes0 body0

      -- the unified annotation obeys if it meets the conditions
      pub clocked : AnnotationObeys sigs cases (in_annotation σ start) → R.Obeys sigs cases (facts_of sigs cases params marks notes1 body1) (in_clocks σ start.clocks)
      clocked h = subst (λ (d : Facts Note). R.Obeys sigs cases d (in_clocks σ start.clocks)) (sym facts1) (from_whole sigs cases (in_facts σ start.facts) (in_clocks σ start.clocks) (map (map (apply σ)) start.given) h)

      module _ (ns : List Note) (b : BodyOf Note) (same : Annotates sigs cases params marks ts tb ns b) (ok : IsClocked sigs cases params marks ns b) where
        -- and it does where any annotation obeys
        pub meets : AnnotationObeys sigs cases (in_annotation σ start)
        meets = obeys_most sigs cases start formed σ standing solves general (by ns b same ok) (obeys ns b same ok)

        note_twice : (n : Note) → in_note (by ns b same ok) (in_note σ n) ≡ in_note (by ns b same ok) n
        note_twice n = λ i. record n { ck = general (by ns b same ok) (unifies ns b same ok) n.ck i }

        -- every annotation that obeys is an instance of it
        pub instance_of : IsInstance sigs cases params marks notes1 body1 (in_clocks σ start.clocks) ns b ok.clocks
        instance_of = record {
          by = by ns b same ok;
          of_notes = map_twice (in_note σ) (in_note (by ns b same ok)) (in_note (by ns b same ok)) note_twice notes0 ∙ notes_back ns b same ok;
          of_body = body_twice Note Note Note (in_note σ) (in_note (by ns b same ok)) body0
              ∙ (λ i. T.in_body Note Note (λ n. note_twice n i) body0) ∙ body_back ns b same ok;
          of_clocks = (λ i. record {
            vars = clocks_twice σ (by ns b same ok) (general (by ns b same ok) (unifies ns b same ok)) start.clocks.vars i;
            blocks = clocks_twice σ (by ns b same ok) (general (by ns b same ok) (unifies ns b same ok)) start.clocks.blocks i;
          }) ∙ ap (λ (w : Annotation). w.clocks) (whole_back ns b same ok);
        }

      bare_nodes : (xs : List Node) → Each (λ (n : Node). Unrestarted n.0.note) xs → Each (λ (n : Node). Unrestarted n.0.note) (map (map_node (in_note σ)) xs)
      bare_nodes [] h = tt
      bare_nodes (n ∷ xs) h = (h.0, bare_nodes xs h.1)

      bare_notes : (xs : List Note) → Each Unrestarted xs → Each Unrestarted (map (in_note σ) xs)
      bare_notes [] h = tt
      bare_notes (n ∷ xs) h = (h.0, bare_notes xs h.1)

      bare_body : Each Unrestarted (Or.notes_body Note body1)
      bare_body = notes_of_nodes Note (λ n. is_function n.ty) Unrestarted (length params) cases (λ e. is_signal e.note.ty) body1
          (subst (λ (d : Facts Note). Each (λ (n : Node). Unrestarted n.0.note) d.nodes) (sym facts1)
          (bare_nodes start.facts.nodes (nodes_of_notes Note (λ n. is_function n.ty) Unrestarted (length params) cases (λ e. is_signal e.note.ty) body0
          (made_body ℕ TypeNote Note step next Unrestarted (λ k t. refl) tb (fresh_notes sigs cases params marks ts tb).1))))

      unrestarted : Each Unrestarted (notes1 ++ Or.notes_body Note body1)
      unrestarted = all_both Unrestarted notes1 (Or.notes_body Note body1) (bare_notes notes0 (made_notes ℕ TypeNote Note step next Unrestarted (λ k t. refl) ts 0)) bare_body

      annotates : Annotates sigs cases params marks ts tb notes1 body1
      annotates = record { of_types = erased_notes σ ts 0; unrestarted = unrestarted; of_tree = body_twice Note Note TypeNote (in_note σ) erase body0 ∙ erased_body }

      -- the answers of inference
      pub principal : AnnotationObeys sigs cases (in_annotation σ start) → IsPrincipal sigs cases params marks ts tb notes1 body1
      principal h = record {
        annotates = annotates;
        clocks = in_clocks σ start.clocks;
        obeys = clocked h;
        general = λ ns b cs same ok. instance_of ns b same (record { clocks = cs; obeys = ok });
      }

      pub none_meets : (AnnotationObeys sigs cases (in_annotation σ start) → ⊥) → (ns : List Note) (b : BodyOf Note) → Annotates sigs cases params marks ts tb ns b → IsClocked sigs cases params marks ns b → ⊥
      none_meets fails ns b same ok = fails (meets ns b same ok)

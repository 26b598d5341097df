-- The fresh annotation under a most general unifier obeys exactly where the tests succeed.
use Rattle.std.specs.Prelude.{◌≡◌, refl, ℕ, zero, suc, ◌+◌, ◌≤◌, ◌&&◌, Bool, true, List, [], ◌∷◌, map, length, Option, Some, None, unwrap_or, Result, Ok, Err, IfOk, IfSome, IfNone}
use Rattle.std.proofs.Common.{ap, ap₂, sym, ◌∙◌, subst, arith}
use Rattle.std.proofs.lemmas.Bool.{and_parts, leb-true, le-leb}
use Rattle.ls_ast.specs.declared.tree.BodyOf.{BodyOf}
use Rattle.ls_ast.specs.declared.tree.Mark.{Mark}
use Rattle.ls_ast.specs.declared.tree.Pat.{Pat}
use Rattle.ls_terms.specs.declared.clocks.ClockTerm.{ClockTerm, fold-roll-ClockTerm}
use Rattle.ls_terms.specs.declared.clocks.ClockTerm.TheOpen.{ClockTerm-F}
use Rattle.ls_terms.specs.Clocks.{apply, apply_at, kids_at, size, stands, sum}
use Rattle.ls_places.specs.declared.places.Places.{Places}
use Rattle.ls_sig.specs.declared.binder.Note.{Note}
use Rattle.ls_sig.specs.declared.binder.TypeNote.{TypeNote}
use Rattle.term_unify.specs.Terms.{first}
use Rattle.tree_notes.specs.Each.{Each}
use Rattle.tree_notes.specs.Noted.{in_body}
use Rattle.clock_rules.specs.declared.scheme.ClockScheme.{ClockScheme}
use Rattle.clock_rules.specs.Constraints.{Annotation, AnnotationObeys, Formed, Node, NodesFit, NodesFormed, constraints, in_annotation}
use Rattle.clock_rules.specs.Facts.{Facts, facts_at, nodes_of}
use Rattle.clock_rules.specs.Fresh.{fresh, fresh_body, given_vars, some_vars}
use Rattle.clock_rules.specs.Instances.{in_clocks, in_facts, in_node, in_note}
use Rattle.clock_rules.specs.Judged.{IsPrincipal, NoneObeys}
use Rattle.clock_rules.specs.Rules as R
use Rattle.clock_rules.specs.Rules.{Clocks, at, count_at}
use Rattle.clock_rules.specs.Terms.{IsClock, fits, limit, pointwise, var}
use Rattle.clock_rules.proofs.Inference as Inf
use Rattle.clock_rules.proofs.Principal.{formed_in, unifying_obeys}
use Rattle.clock_conditions.specs.Every.{every}
use Rattle.clock_conditions.specs.Met.{Met, ParamMet}
use Rattle.clock_infer.specs.Nodes.{node_small}
use Rattle.clock_pairs.specs.Scene.{function}
use Rattle.clock_infer.specs.Prepared.{IsPrepared, IsGeneral, IsUnsolvable, IsChecked, Meets, Put, annotation, pairs, put_clocks, put_facts}
use Rattle.clock_infer.specs.declared.definition.Clocked.{Clocked}
use Rattle.clock_infer.specs.declared.definition.Prepared.{Prepared}

-- ---- sizes

abbrev IsSmall : ClockTerm → Type 0
IsSmall t = size t ≤ limit

var_size : (k : ℕ) → size (var k) ≡ 1
var_size k = fold-roll-ClockTerm ℕ (λ z. 1 + sum (kids_at z)) (ClockTerm-F.Var k)

pointwise_size : size pointwise ≡ 1
pointwise_size = fold-roll-ClockTerm ℕ (λ z. 1 + sum (kids_at z)) ClockTerm-F.Pointwise

one_small : (t : ClockTerm) → size t ≡ 1 → IsSmall t
one_small t e = omega (arith, e)

at_small : (ts : List ClockTerm) → Each IsSmall ts → (x : ℕ) → IsSmall (at ts x)
at_small [] h x = one_small pointwise pointwise_size
at_small (t ∷ ts) h zero = h.0
at_small (t ∷ ts) h (suc x) = at_small ts h.1 x

clocks_are : (ts : List ClockTerm) → Each (λ t. stands t ≡ true) ts → Each IsSmall ts → Each IsClock ts
clocks_are [] s h = tt
clocks_are (t ∷ ts) s h = (record { stands = s.0; small = h.0 }, clocks_are ts s.1 h.1)

both : (a c : Bool) → a ≡ true → c ≡ true → (a && c) ≡ true
both a c p q = ap₂ (λ x y. x && y) p q

module _ (s : Put) (small : (x : ℕ) (t : ClockTerm) → first s.list x ≡ Some t → size t ≤ limit) where
  abbrev σ : ℕ → Option ClockTerm
  σ = first s.list

  value_small : (k : ℕ) (o : Option ClockTerm) → σ k ≡ o → IsSmall (unwrap_or o (var k))
  value_small k None e = one_small (var k) (var_size k)
  value_small k (Some t) e = small k t e

  var_small : (k : ℕ) → IsSmall (apply σ (var k))
  var_small k = subst IsSmall (sym (fold-roll-ClockTerm ClockTerm (apply_at σ) (ClockTerm-F.Var k))) (value_small k (σ k) refl)

  vars_small : (n k : ℕ) → Each IsSmall (map (apply σ) (some_vars n k).0)
  vars_small zero k = tt
  vars_small (suc n) k = (var_small k, vars_small n (suc k))

  given_small : (sigs : List ClockScheme) (ns : List Node) (k : ℕ) → Each (Each IsSmall) (map (map (apply σ)) (given_vars sigs ns k).0)
  given_small sigs [] k = tt
  given_small sigs (n ∷ ns) k = (vars_small (count_at sigs n.0.note.bound) k, given_small sigs ns (some_vars (count_at sigs n.0.note.bound) k).1)

module _ (sigs : List ClockScheme) (cases : ℕ → Option ℕ) (s : Put) where
  abbrev by : ℕ → Option ClockTerm
  by = first s.list

  -- ---- expressions

  nodes_fit : (gs : List (List ClockTerm)) (ns : List Node) → NodesFormed sigs cases gs (map (in_node by) ns) → every (node_small s.list) ns ≡ true → Each (Each IsSmall) gs → NodesFit sigs cases gs (map (in_node by) ns)
  nodes_fit [] [] f e h = tt
  nodes_fit [] (n ∷ ns) f e h = f
  nodes_fit (g ∷ gs) [] f e h = f
  nodes_fit (g ∷ gs) (n ∷ ns) f e h =
      let q = and_parts (node_small s.list n) (every (node_small s.list) ns) e in
      (record { clock = record { form = f.0.form; small = leb-true (size (apply by n.0.note.ck)) limit q.0 }; many = f.0.many; clocks = clocks_are g f.0.stand h.0 }, nodes_fit gs ns f.1 q.1 h.1)

  fit_small : (gs : List (List ClockTerm)) (ns : List Node) → NodesFit sigs cases gs (map (in_node by) ns) → every (node_small s.list) ns ≡ true
  fit_small [] [] h = refl
  fit_small [] (n ∷ ns) h = absurd h
  fit_small (g ∷ gs) [] h = refl
  fit_small (g ∷ gs) (n ∷ ns) h = both (node_small s.list n) (every (node_small s.list) ns) (le-leb (size (apply by n.0.note.ck)) limit h.0.clock.small) (fit_small gs ns h.1)

  -- ---- names

  module _ (d : Facts Note) (cs : Clocks) where
    abbrev bare : Facts Note
    bare = record { params = d.params; marks = d.marks; notes = d.notes; result = d.result; nodes = []; wholes = []; vars = d.vars; sites = []; starts = []; names = d.names }

    params_obey : (ns : List Note) → Each (λ (n : Note). fits n.ty n.ck ≡ true) ns → Each (ParamMet bare cs) ns → Each (R.ParamObeys sigs cases d cs) ns
    params_obey [] f h = tt
    params_obey (n ∷ ns) f h = (record { clock = record { form = f.0; small = h.0.small }; public = h.0.public }, params_obey ns f.1 h.1)

    params_met : (ns : List Note) → Each (R.ParamObeys sigs cases d cs) ns → Each (ParamMet bare cs) ns
    params_met [] h = tt
    params_met (n ∷ ns) h = (record { small = h.0.clock.small; public = h.0.public }, params_met ns h.1)

    conditions_met : R.Conditions sigs cases d cs → Met bare cs
    conditions_met h = record {
      vars = λ x v e. (h.vars x v e).within;
      blocks = λ j n e. record { arm = (h.blocks j n e).arm; within = (h.blocks j n e).within };
      params = params_met d.notes h.params;
      result = h.result;
      acyclic = record { rank = h.acyclic.rank; falls = h.acyclic.below };
    }

  conditions_hold : (w : Annotation) → Formed sigs cases w → Each IsSmall w.clocks.vars → Each IsSmall w.clocks.blocks → Met (bare w.facts w.clocks) w.clocks → R.Conditions sigs cases w.facts w.clocks
  conditions_hold w f v b h = record {
    many_vars = f.many_vars;
    many_blocks = f.many_blocks;
    vars = λ x u e. record { clock = record { stands = f.vars x u e; small = at_small w.clocks.vars v x }; within = h.vars x u e };
    blocks = λ j n e. record { clock = record { stands = f.blocks j n e; small = at_small w.clocks.blocks b j }; arm = (h.blocks j n e).arm; within = (h.blocks j n e).within };
    params = params_obey w.facts w.clocks w.facts.notes f.params h.params;
    result = h.result;
    acyclic = record { rank = h.acyclic.rank; below = h.acyclic.falls };
  }

-- ---- definitions

module _ (sigs : List ClockScheme) (cases : ℕ → Option ℕ) (params : List Pat) (marks : List Mark) (types : List TypeNote) (tree : BodyOf TypeNote)
    (p : Prepared) (P : IsPrepared sigs cases params marks types tree p) where
  abbrev start : Annotation
  start = fresh sigs cases params marks types tree

  start_is : annotation sigs cases marks p ≡ start
  start_is = λ i. record {
    facts = facts_at Note function (P.params_same i) marks (P.notes i) (P.body i).result.note (P.places i);
    clocks = record { vars = P.vars i; blocks = P.blocks i };
    given = (given_vars sigs (nodes_of Note function (P.places i).exprs) (P.next i)).0;
  }

  -- a clock for each variable, and for each clock name that is no parameter
  pub many_vars : length p.vars ≡ length p.index.places.vars
  many_vars = ap length P.vars ∙ (Inf.formed sigs cases params marks types tree).many_vars ∙ ap (λ (z : Places Note). length z.vars) (sym P.places)

  pub many_blocks : length p.blocks ≡ length p.index.places.names
  many_blocks = ap length P.blocks ∙ (Inf.formed sigs cases params marks types tree).many_blocks ∙ ap (λ (z : Places Note). length z.names) (sym P.places)

  -- where nothing makes the pairs equal no annotation obeys
  pub none_unsolved : IsUnsolvable (pairs sigs cases marks p) → NoneObeys sigs cases params marks types tree
  none_unsolved h = Inf.none_obeys sigs cases params marks types tree (subst (λ w. IsUnsolvable (constraints sigs cases w)) start_is h)

  module _ (s : Put) (G : IsGeneral (pairs sigs cases marks p) s) where
    abbrev ω : ℕ → Option ClockTerm
    ω = first s.list

    G' : IsGeneral (constraints sigs cases start) s
    G' = subst (λ w. IsGeneral (constraints sigs cases w) s) start_is G

    facts_is : put_facts params marks p s ≡ bare sigs cases s (in_facts ω start.facts) (in_clocks ω start.clocks)
    facts_is = λ i. record {
      params = params;
      marks = marks;
      notes = map (in_note ω) (P.notes i);
      result = in_note ω (P.body i).result.note;
      nodes = [];
      wholes = [];
      vars = (P.places i).vars;
      sites = [];
      starts = [];
      names = (P.places i).names;
    }

    clocks_is : put_clocks params marks p s ≡ in_clocks ω start.clocks
    clocks_is = λ i. record { vars = map (apply ω) (P.vars i); blocks = map (apply ω) (P.blocks i) }

    obeys : Meets params marks p s → AnnotationObeys sigs cases (in_annotation ω start)
    obeys h =
        let f = formed_in sigs cases ω G'.standing start (Inf.formed sigs cases params marks types tree) in record {
          fits = nodes_fit sigs cases s (map (map (apply ω)) start.given) start.facts.nodes f.nodes (subst (λ (z : Facts Note). every (node_small s.list) z.nodes ≡ true) (ap (λ (w : Annotation). w.facts) start_is) h.small)
              (given_small s G'.small sigs start.facts.nodes _);
          equal = unifying_obeys sigs cases ω start G'.unifies;
          conditions = conditions_hold sigs cases s (in_annotation ω start) f (vars_small s G'.small _ _) (vars_small s G'.small _ _) (subst (λ (z : Facts Note). Met z (in_clocks ω start.clocks)) facts_is (subst (λ z. Met (put_facts params marks p s) z) clocks_is h.met));
        }

    meets : AnnotationObeys sigs cases (in_annotation ω start) → Meets params marks p s
    meets h = record {
      small = subst (λ (z : Facts Note). every (node_small s.list) z.nodes ≡ true) (sym (ap (λ (w : Annotation). w.facts) start_is)) (fit_small sigs cases s (map (map (apply ω)) start.given) start.facts.nodes h.fits);
      met = subst (λ z. Met (put_facts params marks p s) z) (sym clocks_is)
          (subst (λ (z : Facts Note). Met z (in_clocks ω start.clocks)) (sym facts_is) (conditions_met sigs cases s (in_facts ω start.facts) (in_clocks ω start.clocks) h.conditions));
    }

    -- the answers of inference
    pub principal : (c : Clocked) → IsChecked params marks p s c → IsPrincipal sigs cases params marks types tree c.notes c.body
    principal c h =
        let m = Inf.principal sigs cases params marks types tree ω G'.standing G'.unifies G'.general (obeys h.meets) in
        subst (λ b. IsPrincipal sigs cases params marks types tree c.notes b) (sym (h.body ∙ ap (in_body Note Note (in_note ω)) P.body))
        (subst (λ n. IsPrincipal sigs cases params marks types tree n (in_body Note Note (in_note ω) (fresh_body sigs cases params marks types tree).0)) (sym (h.notes ∙ ap (map (in_note ω)) P.notes)) m)

    pub none_unmet : (Meets params marks p s → ⊥) → NoneObeys sigs cases params marks types tree
    none_unmet h = Inf.none_meets sigs cases params marks types tree ω G'.standing G'.unifies G'.general (λ o. h (meets o))

    -- what is answered of the conditions
    pub checked_principal : {X : Type 0} (r : Result (Option Clocked) X) → IfOk r (λ o. IfSome o (λ c. IsChecked params marks p s c))
        → IfOk r (λ o. IfSome o (λ c. IsPrincipal sigs cases params marks types tree c.notes c.body))
    checked_principal (Ok (Some c)) h = principal c h
    checked_principal (Ok None) h = tt
    checked_principal (Err e) h = tt

    pub checked_none : {X : Type 0} (r : Result (Option Clocked) X) → IfOk r (λ o. IfNone o (Meets params marks p s → ⊥))
        → IfOk r (λ o. IfNone o (NoneObeys sigs cases params marks types tree))
    checked_none (Ok (Some c)) h = tt
    checked_none (Ok None) h = none_unmet h
    checked_none (Err e) h = tt

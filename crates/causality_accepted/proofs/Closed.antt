-- In a definition with principal clocks, clocks are sampled on its names alone, and what the model reads besides the rules of
-- causality stands around.
use Rattle.std.specs.Prelude.{◌≡◌, refl, ◌⊎◌, ℕ, zero, suc, ◌+◌, ◌-◌, ◌==◌, ◌<◌, ◌≤◌, ◌||◌, nat_lt, Bool, true, false, List, [], ◌∷◌, ◌++◌, map, length, Option, Some, None, option_map, unwrap_or, if◌then◌else◌}
use Rattle.std.proofs.Common.{ap, sym, ◌∙◌, subst, inl, inr, arith}
use Rattle.std.proofs.lemmas.Bool.{eqb-true, ltb-true}
use Rattle.std.proofs.lemmas.Bool.Decides.{nat_tests}
use Rattle.ls_ast.specs.declared.tree.BodyOf.{BodyOf}
use Rattle.ls_value.specs.declared.leaf.Leaf.TheVariants as leaf
use Rattle.ls_ast.specs.declared.tree.Expr.{fold_out-Expr}
use Rattle.ls_ast.specs.declared.tree.Form.{fold-roll-Form}
use Rattle.ls_ast.specs.declared.tree.Form.TheOpen.{Form-F}
use Rattle.ls_ast.specs.declared.tree.Form.TheVariants as form
use Rattle.ls_ast.specs.declared.tree.Mark.{Mark}
use Rattle.ls_ast.specs.declared.tree.Pat.{Pat}
use Rattle.ls_terms.specs.declared.clocks.ClockTerm.{ClockTerm, fold-roll-ClockTerm}
use Rattle.ls_terms.specs.declared.clocks.ClockTerm.TheOpen.{ClockTerm-F}
use Rattle.ls_terms.specs.declared.clocks.ClockTerm.TheVariants as clock
use Rattle.ls_sig.specs.Notes.{is_signal}
use Rattle.ls_sig.specs.declared.binder.Binder.{Binder}
use Rattle.ls_sig.specs.declared.binder.Binder.TheVariants as b
use Rattle.ls_sig.specs.declared.binder.Note.{Note}
use Rattle.ls_sig.specs.declared.binder.TypeNote.{TypeNote}
use Rattle.ls_places.specs.Clocks.{any, bare, clocks_in, mentions, noted, or_else}
use Rattle.ls_places.specs.Definitions.{definition_of, note_clocks}
use Rattle.ls_places.specs.Patterns.{has_name, names_of}
use Rattle.ls_places.specs.Places as F
use Rattle.ls_places.specs.Places.{InnerArm, Place, arms}
use Rattle.ls_places.specs.Search.{all_clocks, home_of, in_signature, list_of, mode_clock, never, nth, param_clock, signal_in, signal_list, sites_of, starts_with, tested_outside, whole_at, whole_of}
use Rattle.ls_places.specs.declared.places.Named.{Named}
use Rattle.ls_places.specs.declared.places.Named.TheVariants as named
use Rattle.ls_places.specs.declared.places.Right.{Right}
use Rattle.ls_places.specs.declared.places.Right.TheVariants as rhs
use Rattle.ls_places.specs.declared.places.Site.{Site}
use Rattle.ls_places.specs.declared.places.Variable.{Variable}
use Rattle.ls_places.specs.declared.places.Whole.{Whole}
use Rattle.ls_places.specs.declared.definition.Key.{Key}
use Rattle.ls_places.specs.declared.definition.Definition.{Definition}
use Rattle.digraph.specs.Graph.{In, first as here, later}
use Rattle.tree_notes.specs.Each.{Each}
use Rattle.tree_notes.specs.Order as Or
use Rattle.tree_notes.specs.Order.{notes as notes_in, notes_body}
use Rattle.kahn_model.specs.Reads.{arm_keys}
use Rattle.causality_rules.specs.Reads.{place_rows}
use Rattle.clock_rules.specs.declared.scheme.ClockScheme.{ClockScheme}
use Rattle.clock_rules.specs.Facts.{Facts}
use Rattle.clock_rules.specs.Fresh.{facts_of}
use Rattle.clock_rules.specs.Judged.{IsPrincipal, Unrestarted}
use Rattle.clock_rules.specs.Layers.{Layer, layers}
use Rattle.clock_rules.specs.Rules as R
use Rattle.clock_rules.specs.Rules.{AreEqual, Clocks, at, sampled, list_at}
use Rattle.clock_rules.specs.Terms.{is_function, pointwise}
use Rattle.clock_rules.proofs.Noting.{exprs_are, nodes_of_notes}
use Rattle.clock_rules.proofs.Seen.{bare_sampled}
use Rattle.clock_rules.proofs.Sides.{all_right}
use Rattle.clock_laws.specs.Laws.{AreWellFormed}
use Rattle.clock_laws.specs.Scoped.{own, named_clock, IsScoped, IsWell}
use Rattle.clock_laws.specs.WellFormed.{IsWellFormed, samplings}
use Rattle.clock_laws.proofs.Forms.{are_well_formed}
use Rattle.clock_laws.proofs.Shrink.{samplings_pointwise}
use Rattle.causality_links.specs.Close as close
use Rattle.causality_links.specs.Close.{Close, Sub}
use Rattle.causality_links.proofs.Causes.{arms_sub}
use Rattle.causality_premises.specs.Premises.{ClockKnown, ClocksKnown, NoteKnown}
use Rattle.causality_accepted.proofs.Placed as Pl
use Rattle.causality_accepted.proofs.Occurs as Oc
use Rattle.causality_accepted.proofs.Parts as Pa
use Rattle.causality_accepted.proofs.Moved as M
use Rattle.causality_accepted.proofs.Moved.{NodeUsed, InSight, each_in, in_each, nth_in, nth_map}
use Rattle.causality_accepted.proofs.Homes as Ho
use Rattle.causality_accepted.proofs.Near as Ne

abbrev or_first : {A : Type 0} → A → Option A → A
or_first z None = z
or_first z (Some x) = x

if_true : {A : Type 0} (t : Bool) (x y : A) → t ≡ true → (if t then x else y) ≡ x
if_true true x y e = refl
if_true false x y e = absurd (cc)

if_false : {A : Type 0} (t : Bool) (x y : A) → t ≡ false → (if t then x else y) ≡ y
if_false true x y e = absurd (cc)
if_false false x y e = refl

neither : (a c : Bool) → (a || c) ≡ false → (a ≡ false) × (c ≡ false)
neither true c e = absurd (cc)
neither false c e = (refl, e)

nth_below : {A : Type 0} (xs : List A) (k : ℕ) (x : A) → nth xs k ≡ Some x → k < length xs
nth_below [] k x e = absurd (cc)
nth_below (y ∷ xs) zero x e = omega arith
nth_below (y ∷ xs) (suc k) x e = let h = nth_below xs k x e in omega (arith, h)

-- the site that is found for a variable
site_if : (c : Bool) (x : ℕ) (t s : Site) (all : List Site) → has_name x t.vars ≡ c → (nth (sites_of x all) 0 ≡ Some s → In s all × (has_name x s.vars ≡ true))
    → nth (if c then t ∷ sites_of x all else sites_of x all) 0 ≡ Some s → In s (t ∷ all) × (has_name x s.vars ≡ true)
site_if true x t s all e h f = let q : t ≡ s = ap (or_first t) f in (subst (λ z. In z (t ∷ all)) q (here all), ap (λ (z : Site). has_name x z.vars) (sym q) ∙ e)
site_if false x t s all e h f = let r = h f in (later t all r.0, r.1)

site_found : (x : ℕ) (all : List Site) (s : Site) → nth (sites_of x all) 0 ≡ Some s → In s all × (has_name x s.vars ≡ true)
site_found x [] s e = absurd (cc)
site_found x (t ∷ all) s e = site_if (has_name x t.vars) x t s all refl (site_found x all s) e

named_if : (c : Bool) (x y : ℕ) (ys : List ℕ) → (x == y) ≡ c → (has_name x ys ≡ true → In x ys) → (c || has_name x ys) ≡ true → In x (y ∷ ys)
named_if true x y ys e h f = subst (λ z. In z (y ∷ ys)) (sym (eqb-true x y e)) (here ys)
named_if false x y ys e h f = later y ys (h f)

name_in : (x : ℕ) (ys : List ℕ) → has_name x ys ≡ true → In x ys
name_in x [] e = absurd (cc)
name_in x (y ∷ ys) e = named_if (x == y) x y ys refl (name_in x ys) e

-- the clock of a parameter is one of the parameters' clocks
param_if : (c : Bool) (x : ℕ) (t u : ClockTerm) (ts : List ClockTerm) (o : Option ClockTerm) → (o ≡ Some u → In u ts) → (if c then Some t else o) ≡ Some u → In u (t ∷ ts)
param_if true x t u ts o h e = let q : t ≡ u = ap (or_first t) e in subst (λ z. In z (t ∷ ts)) q (here ts)
param_if false x t u ts o h e = later t ts (h e)

param_in : (x : ℕ) (ps : List Pat) (ts : List ClockTerm) (u : ClockTerm) → param_clock x ps ts ≡ Some u → In u ts
param_in x [] ts u e = absurd (cc)
param_in x (p ∷ ps) [] u e = absurd (cc)
param_in x (p ∷ ps) (t ∷ ts) u e = param_if (has_name x (names_of p)) x t u ts (param_clock x ps ts) (param_in x ps ts u) e

any_in : (w : ℕ) (ts : List ClockTerm) (t : ClockTerm) → In t ts → any (map (mentions w) ts) ≡ false → mentions w t ≡ false
any_in w [] t i e = absurd (Oc.none_in i)
any_in w (u ∷ ts) t i e =
    let x = neither (mentions w u) (any (map (mentions w) ts)) e in
    elim (Oc.in_cons t u ts i) [ inl q ↦ ap (mentions w) (sym q) ∙ x.0 | inr j ↦ any_in w ts t j x.1 ]

none_mention : (w : ℕ) (ns : List Note) → any (map (mentions w) (note_clocks ns)) ≡ false → Each (λ (n : Note). mentions w n.ck ≡ false) ns
none_mention w [] e = tt
none_mention w (n ∷ ns) e = let x = neither (mentions w n.ck) (any (map (mentions w) (note_clocks ns))) e in (x.0, none_mention w ns x.1)

whole_case : (xs : List (Whole Note)) (k : ℕ) → (nth xs k ≡ Some (whole_at xs k)) ⊎ (whole_at xs k ≡ record { expr = never; place = [] })
whole_case [] k = inr refl
whole_case (x ∷ xs) zero = inl refl
whole_case (x ∷ xs) (suc k) = whole_case xs k

whole_is : (xs : List (Whole Note)) (k : ℕ) (x : Whole Note) → nth xs k ≡ Some x → whole_at xs k ≡ x
whole_is [] k x e = absurd (cc)
whole_is (y ∷ xs) zero x e = ap (or_first y) e
whole_is (y ∷ xs) (suc k) x e = whole_is xs k x e

spot_named : (ns : List Named) (i : ℕ) (l : List InnerArm) → Pl.or_none (nth (Pl.spots ns) i) ≡ Some l → (n : Named) × (nth ns i ≡ Some n) × (Pl.spot_arms n ≡ Some l)
spot_named [] i l e = absurd (cc)
spot_named (n ∷ ns) zero l e = (n, refl, e)
spot_named (n ∷ ns) (suc i) l e = spot_named ns i l e

module _ (schemes : List ClockScheme) (cases : ℕ → Option ℕ) (params : List Pat) (marks : List Mark) (types : List TypeNote) (tree : BodyOf TypeNote) (notes : List Note) (body : BodyOf Note)
    (p : IsPrincipal schemes cases params marks types tree notes body) (wells : Each IsWell schemes) (scoped : IsScoped schemes (facts_of schemes cases params marks notes body))
    (used : Each (NodeUsed schemes (M.V schemes cases params marks notes body)) (facts_of schemes cases params marks notes body).nodes) where
  abbrev d : Definition
  d = definition_of cases params notes body

  abbrev D : Facts Note
  D = facts_of schemes cases params marks notes body

  abbrev first : ℕ
  first = length params

  abbrev function : Note → Bool
  function n = is_function n.ty

  abbrev g : F.Found Note
  g = M.g schemes cases params marks notes body

  abbrev E : List (Whole Note)
  E = g.exprs

  abbrev V : List Variable
  V = g.vars

  abbrev S : List (Option (List InnerArm))
  S = Pl.spots g.names

  abbrev spot : ℕ → Option (List InnerArm)
  spot = Pl.spot_of first E V S

  abbrev cs : Clocks
  cs = p.clocks

  pl : Pl.Placed first E V S g
  pl = M.pl schemes cases params marks notes body

  well : AreWellFormed (own D cs) notes body cs
  well = are_well_formed schemes cases params marks types tree notes body wells scoped p

  -- ---- names

  abbrev Known : ℕ → Type 0
  Known m = m < first + length g.names

  known_by : (m : ℕ) (t : ClockTerm) → Some t ≡ own D cs m → Known m
  known_by m t e = by_case (nat_lt m first) refl e
    where
      by_name : (o : Option Named) → nth g.names (m - first) ≡ o → Some t ≡ named_clock cs (m - first) o → m - first < length g.names
      by_name None f h = absurd (cc)
      by_name (Some n) f h = nth_below g.names (m - first) n f

      by_case : (c : Bool) → nat_lt m first ≡ c → Some t ≡ (if c then nth (note_clocks notes) m else named_clock cs (m - first) (nth g.names (m - first))) → Known m
      by_case true f h = let l = ltb-true m first f in omega (arith, l)
      by_case false f h =
          let l = by_name (nth g.names (m - first)) refl h in
          let low : first ≤ m = grind (arith, nat_tests, f) in
          omega (arith, l, low)

  known_of : (t : ClockTerm) → IsWellFormed (own D cs) t → ClockKnown d t
  known_of t h = Ne.names_of_samplings Known t (each_in (λ (z : ClockTerm × ℕ). Known z.1) (samplings t) (λ z i. known_by z.1 z.0 (in_each (λ (z : ClockTerm × ℕ). Some z.0 ≡ own D cs z.1) (samplings t) z h i)))

  abbrev Well : ClockTerm → Type 0
  Well = IsWellFormed (own D cs)

  at_well : (ts : List ClockTerm) (k : ℕ) → Each Well ts → Well (at ts k)
  at_well ts k h = by_case (nth ts k) refl
    where
      by_case : (o : Option ClockTerm) → nth ts k ≡ o → Well (unwrap_or o pointwise)
      by_case None e = subst (Each (λ (z : ClockTerm × ℕ). Some z.0 ≡ own D cs z.1)) (sym samplings_pointwise) tt
      by_case (Some t) e = in_each Well ts t h (nth_in ts k t e)

  clocks_well : (ns : List Note) → Each (λ (n : Note). Well n.ck) ns → Each Well (note_clocks ns)
  clocks_well [] h = tt
  clocks_well (n ∷ ns) h = (h.0, clocks_well ns h.1)

  nodes_well : Each (λ (n : Layer Note × Place). Well n.0.note.ck) D.nodes
  nodes_well = nodes_of_notes Note function (λ (n : Note). Well n.ck) first cases (λ e. is_signal e.note.ty) body well.body

  -- the clocks that are noted in a whole expression
  noted_well : (x : Whole Note) (t : ClockTerm) → In x E → In t (clocks_in x.expr) → Well t
  noted_well x t i j = in_each Well (clocks_in x.expr) t
      (Pa.clocks_all function Well x.expr (Ho.whole_layers function (λ (n : Layer Note × Place). Well n.0.note.ck) E x i nodes_well)) j

  -- ---- clocks known

  abbrev Quiet : Layer Note × Place → Type 0
  Quiet n = Well n.0.note.ck × Unrestarted n.0.note

  quiet : Each Quiet D.nodes
  quiet = M.each_zip (λ (n : Layer Note × Place). Well n.0.note.ck) (λ (n : Layer Note × Place). Unrestarted n.0.note) Quiet (λ n x y. (x, y)) D.nodes nodes_well
      (nodes_of_notes Note function Unrestarted first cases (λ e. is_signal e.note.ty) body (all_right Unrestarted notes (notes_body Note body) p.annotates.unrestarted))

  abbrev notes_of : List (Layer Note) → List Note
  notes_of [] = []
  notes_of (l ∷ ls) = l.note ∷ notes_of ls

  layer_notes : (P : Note → Type 0) (ls : List (Layer Note)) (ns : List Note) → notes_of ls ≡ ns → Each (λ (l : Layer Note). P l.note) ls → Each P ns
  layer_notes P ls ns e h = subst (Each P) e (go ls h)
    where
      go : (ls : List (Layer Note)) → Each (λ (l : Layer Note). P l.note) ls → Each P (notes_of ls)
      go [] h = tt
      go (l ∷ ls) h = (h.0, go ls h.1)

  note_known : (n : Note) → Well n.ck → Unrestarted n → NoteKnown d n
  note_known n w u = record { clock = known_of n.ck w; restarts = subst (Each (λ x. x < length V)) (sym u) tt }

  whole_known : (x : Whole Note) → In x E → Each (NoteKnown d) (notes_in Note x.expr)
  whole_known x i =
      let ls = layers Note function x.expr in
      layer_notes (NoteKnown d) ls (notes_in Note x.expr) (exprs_are Note function x.expr)
      (M.each_zip (λ (l : Layer Note). Quiet (l, x.place)) (λ (l : Layer Note). Quiet (l, x.place)) (λ (l : Layer Note). NoteKnown d l.note) (λ l h k. note_known l.note h.0 h.1) ls (Ho.whole_layers function Quiet E x i quiet)
      (Ho.whole_layers function Quiet E x i quiet))

  pub clocks_known : ClocksKnown d
  clocks_known = record {
    clocks = each_in (ClockKnown d) (note_clocks notes) (λ t i. known_of t (in_each Well (note_clocks notes) t (clocks_well notes well.notes) i));
    exprs = each_in (λ (x : Whole Note). Each (NoteKnown d) (notes_in Note x.expr)) E whole_known;
  }

  -- ---- homes

  free : (w : ℕ) → in_signature d w ≡ false → Each (λ (n : Note). mentions w n.ck ≡ false) notes
  free w e = none_mention w notes (neither (mentions w body.result.note.ck) (any (map (mentions w) (note_clocks notes))) e).1

  abbrev home : ℕ → List InnerArm
  home w = home_of w E

  abbrev deep_at : ℕ → List InnerArm → ClockTerm → Bool
  deep_at w = M.deep_at schemes cases params marks notes body w

  rows_of : (l : List InnerArm) (q : Place) → starts_with (arms q) l ≡ true → Sub (arm_keys l) (place_rows q)
  rows_of l q e k i = arms_sub q k (Oc.keys_begin (arms q) l e k i)

  -- where what a clock says of each variable is inside its home, and the clock is known
  clock_rows : (t : ClockTerm) (q : Place) (l : List InnerArm) → ClockKnown d t → starts_with (arms q) l ≡ true → ((w : ℕ) → mentions w t ≡ true → in_signature d w ≡ false → deep_at w l t ≡ true) → Sub (close.clock_more d t) (place_rows q)
  clock_rows t q l k s h = Ne.clock_near d (place_rows q) t k (λ w m e. rows_of (home w) q (Oc.starts_then (arms q) l (home w) s (Oc.deep_around w (home w) t l m (h w m e))))

  self : (l : List InnerArm) → starts_with l l ≡ true
  self l = subst (λ z. starts_with z l ≡ true) (Pl.end_nil l) (Oc.starts_on l [])

  param_rows : (t : ClockTerm) (zs : List Key) → In t (note_clocks notes) → Sub (close.clock_more d t) zs
  param_rows t zs i = Ne.clock_near d zs t (known_of t (in_each Well (note_clocks notes) t (clocks_well notes well.notes) i))
      (λ w m e.
      let out : mentions w t ≡ false = any_in w (note_clocks notes) t i (neither (mentions w body.result.note.ck) (any (map (mentions w) (note_clocks notes))) e).1 in
      let wrong : true ≡ false = sym m ∙ out in
      absurd (cc))

  -- ---- expressions

  abbrev NodeNear : Layer Note × Place → Type 0
  NodeNear n = Ne.LayerNear d (place_rows n.1) function n.0

  last_near : (q : Place) (bound : Binder) → InSight schemes V q bound → Sub (close.last_more d bound) (place_rows q)
  last_near q (b.Var k) s = by_case (nth V k) refl
    where
      by_case : (o : Option Variable) → nth V k ≡ o → Sub (close.last_more_of d o) (place_rows q)
      by_case None e = Ne.sub_none (place_rows q)
      by_case (Some v) e =
          let list : list_at V k ≡ arms v.place = ap list_of e ∙ M.each_nth (Pl.VarPlaced first E V S) V k v pl.vars e in
          rows_of (arms v.place) q (ap (starts_with (arms q)) (sym list) ∙ s.1)
  last_near q b.Nothing s = Ne.sub_none (place_rows q)
  last_near q (b.Def k) s = Ne.sub_none (place_rows q)
  last_near q (b.Param k) s = Ne.sub_none (place_rows q)
  last_near q (b.Case c k) s = Ne.sub_none (place_rows q)

  node_near : (n : Layer Note × Place) → In n D.nodes → NodeNear n
  node_near n i =
      let h = in_each (NodeUsed schemes V) D.nodes n used i in
      let t : ClockTerm = n.0.note.ck in
      record {
        clock = clock_rows t n.1 (arms n.1) (known_of t (in_each (λ (n : Layer Note × Place). Well n.0.note.ck) D.nodes n nodes_well i)) (self (arms n.1))
            (λ w m e. (in_each (M.NodeDeep schemes cases params marks notes body w) D.nodes n (M.all_deep schemes cases params marks notes body w) i).1.own);
        last = last_near n.1 n.0.note.bound h.sight;
      }

  whole_near : (x : Whole Note) → In x E → close.Near d x.place x.expr
  whole_near x i = Ne.expr_near d (place_rows x.place) function x.expr (Ho.whole_layers function NodeNear E x i (each_in NodeNear D.nodes node_near))

  -- what stands where a number has no expression reads nothing

  abbrev L : Type 0
  L = List Note

  never_notes : notes_in Note never ≡ never.note ∷ []
  never_notes =
      fold_out-Expr Note L L (Or.form_notes Note) (Or.expr_notes Note) never
      ∙ ap (λ z. never.note ∷ z) (ap (Or.notes_form Note) (sym (form.rolls-Leaf leaf.Nil)) ∙ fold-roll-Form Note L L (Or.form_notes Note) (Or.expr_notes Note) (Form-F.Leaf leaf.Nil))

  never_more : close.clock_more d never.note.ck ≡ []
  never_more = ap (close.clock_more d) (sym clock.rolls-Pointwise) ∙ fold-roll-ClockTerm (List Key) (close.clock_more_step d) ClockTerm-F.Pointwise

  layers_near : (ls : List (Layer Note)) (ns : List Note) → notes_of ls ≡ ns → Each (λ (n : Note). Sub (close.clock_more d n.ck) [] × Sub (close.last_more d n.bound) []) ns → Each (Ne.LayerNear d [] function) ls
  layers_near ls ns e h = go ls (subst (Each (λ (n : Note). Sub (close.clock_more d n.ck) [] × Sub (close.last_more d n.bound) [])) (sym e) h)
    where
      go : (ls : List (Layer Note)) → Each (λ (n : Note). Sub (close.clock_more d n.ck) [] × Sub (close.last_more d n.bound) []) (notes_of ls) → Each (Ne.LayerNear d [] function) ls
      go [] h = tt
      go (l ∷ ls) h = (record { clock = h.0.0; last = h.0.1 }, go ls h.1)

  never_near : close.Near d [] never
  never_near = Ne.expr_near d [] function never (layers_near (layers Note function never) (never.note ∷ []) (exprs_are Note function never ∙ never_notes) ((subst (λ z. Sub z []) (sym never_more) (Ne.sub_none []), Ne.sub_none []), tt))

  wholes_near : (k : ℕ) → close.Near d (whole_of d k).place (whole_of d k).expr
  wholes_near k = elim (whole_case E k) [
    | inl e ↦ whole_near (whole_at E k) (nth_in E k (whole_at E k) e)
    | inr e ↦ subst (λ (x : Whole Note). close.Near d x.place x.expr) (sym e) never_near
  ]

  -- ---- equations

  inner_near : (s : Site) → In s g.sites → Sub (arm_keys s.inner) (place_rows s.place)
  inner_near s i =
      let q = in_each (Pl.SitePlaced first E V S) g.sites s pl.sites i in
      λ l h. arms_sub s.place l (subst (λ z. In l (arm_keys z)) (sym q.place) (subst (λ z. In l z) (sym (Oc.keys_on q.list s.inner)) (Oc.in_right l (arm_keys q.list) (arm_keys s.inner) h)))

  each_inner : (xs : List Site) → ((s : Site) → In s xs → In s g.sites) → close.Each (λ (s : Site). Sub (arm_keys s.inner) (place_rows s.place)) xs
  each_inner [] f = tt
  each_inner (s ∷ xs) f = (inner_near s (f s (here xs)), each_inner xs (λ t i. f t (later s xs i)))

  -- ---- signals

  -- the clock of a variable, by an equation for it
  var_near : (q : Place) (k x : ℕ) (s : Site) (l : List InnerArm) → starts_with (arms q) l ≡ true → arms s.place ≡ l ++ s.inner → Pl.Homed first E V S (arms s.place) → Pl.StandsAt first E V S k (arms s.place)
      → AreEqual (R.whole_pairs schemes cases D cs k (λ n. R.seen schemes cases D cs (at cs.vars x) s.inner n.ck)) → Sub (close.clock_more d (bare (length s.inner) (whole_of d k).expr.note.ck)) (place_rows q)
  var_near q k x s l a f h st e =
      let v : ClockTerm = at cs.vars x in
      let u : ClockTerm = st.whole.expr.note.ck in
      let eq = subst (λ z. AreEqual (R.opt_pairs z (λ n. R.seen schemes cases D cs v s.inner n.ck))) (M.whole_note schemes cases params marks notes body k st.whole st.is) e in
      let same : sampled v s.inner ≡ u = (all_right R.IsEqual (R.borders schemes cases D cs v s.inner) ((sampled v s.inner, u) ∷ []) eq).0 in
      let is : bare (length s.inner) (whole_of d k).expr.note.ck ≡ v =
      ap (λ (z : Whole Note). bare (length s.inner) z.expr.note.ck) (whole_is E k st.whole st.is) ∙ ap (bare (length s.inner)) (sym same) ∙ bare_sampled s.inner v in
      subst (λ z. Sub (close.clock_more d z) (place_rows q)) (sym is)
      (clock_rows v q l (known_of v (at_well cs.vars x well.vars)) a
      (λ w m i. M.seen_deep schemes cases params marks notes body w cs v k l s.inner (subst (Pl.Homed first E V S) f h) (subst (Pl.StandsAt first E V S k) f st) e))

  right_near : (q : Place) (x : ℕ) (s : Site) (r : Right) (l : List InnerArm) → starts_with (arms q) l ≡ true → arms s.place ≡ l ++ s.inner → Pl.Homed first E V S (arms s.place) → Pl.RightPlaced first E V S (arms s.place) s.inner r
      → AreEqual (R.right_pairs schemes cases D cs x s r) → Sub (close.right_more d s r) (place_rows q)
  right_near q x s (rhs.Part z k) l a f h st e = var_near q k x s l a f h st e
  right_near q x s (rhs.Whole k) l a f h st e = var_near q k x s l a f h st e
  right_near q x s (rhs.Pattern y z) l a f h st e =
      let same : arms s.place ≡ l = f ∙ ap (λ z. l ++ z) st.0 ∙ Pl.end_nil l in
      rows_of (arms s.place) q (ap (starts_with (arms q)) same ∙ a)

  site_near : (q : Place) (k : ℕ) → starts_with (arms q) (list_at V k) ≡ true → (o : Option Site) → nth (sites_of k g.sites) 0 ≡ o → Sub (close.site_more d o) (place_rows q)
  site_near q k a None e = Ne.sub_none (place_rows q)
  site_near q k a (Some s) e =
      let r = site_found k g.sites s e in
      let i = name_in k s.vars r.1 in
      let sp = in_each (Pl.SitePlaced first E V S) g.sites s pl.sites r.0 in
      let listed = in_each (Pl.Listed V sp.list) s.vars k sp.vars i in
      let list : list_at V k ≡ sp.list = ap list_of listed.is ∙ listed.list in
      right_near q k s s.right sp.list (ap (starts_with (arms q)) (sym list) ∙ a) sp.place sp.homed sp.right (right_pairs s k r.0 i)
    where
      right_pairs : (s : Site) (x : ℕ) → In s g.sites → In x s.vars → AreEqual (R.right_pairs schemes cases D cs x s s.right)
      right_pairs s x i j = M.right_equal schemes cases params marks notes body cs p.obeys s x i j

  signal_clock : (q : Place) (x : ℕ) (o : Option ℕ) → signal_in x (arms q) V 0 ≡ o → Sub (close.signal_more d x o) (place_rows q)
  signal_clock q x (Some k) e = site_near q k (M.signal_around schemes cases params marks notes body x (arms q) k e) (nth (sites_of k g.sites) 0) refl
  signal_clock q x None e = by_case (param_clock x params (note_clocks notes)) refl
    where
      by_case : (o : Option ClockTerm) → param_clock x params (note_clocks notes) ≡ o → Sub (close.some_more d o) (place_rows q)
      by_case None f = Ne.sub_none (place_rows q)
      by_case (Some t) f = param_rows t (place_rows q) (param_in x params (note_clocks notes) t f)

  signal_near : (q : Place) (x : ℕ) → close.SignalNear d q x
  signal_near q x = (
    signal_clock q x (signal_in x (arms q) V 0) refl,
    (λ l h. arms_sub q l (Ne.arms_within_sub (signal_list d x (arms q)) (arms q) l h)),
  )

  -- ---- automata

  -- the clock of a block, below a sampling on its name
  block_near : (q : Place) (m : ℕ) (t : ClockTerm) → spot m ≡ Some (arms q) → noted m (all_clocks E) ≡ Some t → Sub (close.clock_more d t) (place_rows q)
  block_near q m t s e = by_case (nat_lt m first) refl s
    where
      n : Ne.NotedAt m t E
      n = Ne.noted_at m E t e

      own_is : Some t ≡ own D cs m
      own_is = in_each (λ (z : ClockTerm × ℕ). Some z.0 ≡ own D cs z.1) (samplings n.clock) (t, m) (noted_well n.whole n.clock n.among n.is) n.below

      j : ℕ
      j = m - first

      block_of : (x : Named) → Pl.spot_arms x ≡ Some (arms q) → named_clock cs j (Some x) ≡ Some (at cs.blocks j)
      block_of (named.Clock x) f = absurd (cc)
      block_of (named.Match k all r) f = refl
      block_of (named.Present xs r) f = refl
      block_of (named.Active all r) f = refl
      block_of (named.Tested all r) f = refl

      by_block : nat_lt m first ≡ false → Pl.or_none (nth S j) ≡ Some (arms q) → Sub (close.clock_more d t) (place_rows q)
      by_block c f =
          let r = spot_named g.names j (arms q) f in
          let is : Some t ≡ Some (at cs.blocks j) = own_is ∙ if_false (nat_lt m first) (nth (note_clocks notes) m) (named_clock cs j (nth g.names j)) c ∙ ap (named_clock cs j) r.1 ∙ block_of r.0 r.2 in
          let same : t ≡ at cs.blocks j = ap (or_first t) is in
          let place : M.place_at schemes cases params marks notes body j ≡ arms q = ap (λ o. unwrap_or o []) f in
          subst (λ z. Sub (close.clock_more d z) (place_rows q)) (sym same)
          (clock_rows (at cs.blocks j) q (arms q) (known_of (at cs.blocks j) (at_well cs.blocks j well.blocks)) (self (arms q))
          (λ w i h. subst (λ z. deep_at w z (at cs.blocks j) ≡ true) place
          (Ho.home_block schemes cases params marks types tree notes body p used w (free w h) n.whole n.clock j m n.among n.is (subst (λ z. In (z, m) (samplings n.clock)) same n.below))))

      by_case : (c : Bool) → nat_lt m first ≡ c → (if c then None else Pl.or_none (nth S j)) ≡ Some (arms q) → Sub (close.clock_more d t) (place_rows q)
      by_case true c f = absurd (cc)
      by_case false c f = by_block c f

  -- that of a parameter
  param_near : (zs : List Key) (m : ℕ) (t : ClockTerm) → m < first → noted m (all_clocks E) ≡ Some t → Sub (close.clock_more d t) zs
  param_near zs m t l e =
      let n = Ne.noted_at m E t e in
      let own_is : Some t ≡ own D cs m = in_each (λ (z : ClockTerm × ℕ). Some z.0 ≡ own D cs z.1) (samplings n.clock) (t, m) (noted_well n.whole n.clock n.among n.is) n.below in
      let low : nat_lt m first ≡ true = grind (arith, nat_tests, l) in
      let is : nth (note_clocks notes) m ≡ Some t = sym (own_is ∙ if_true (nat_lt m first) (nth (note_clocks notes) m) (named_clock cs (m - first) (nth g.names (m - first))) low) in
      param_rows t zs (nth_in (note_clocks notes) m t is)

  abbrev Reads : Place → ℕ → Type 0
  Reads q m = (t : ClockTerm) → noted m (all_clocks E) ≡ Some t → Sub (close.clock_more d t) (place_rows q)

  mode_case : (q : Place) (o o' : Option ClockTerm) (x : Option ℕ) → ((t : ClockTerm) → o ≡ Some t → Sub (close.clock_more d t) (place_rows q)) → ((t : ClockTerm) → o' ≡ Some t → Sub (close.clock_more d t) (place_rows q))
      → close.ModeNear d q (or_else o o') x
  mode_case q (Some t) o' x f h = f t refl
  mode_case q None (Some t) x f h = h t refl
  mode_case q None None (Some x) f h = signal_near q x
  mode_case q None None None f h = tt

  mode_near : (q : Place) (m : ℕ) (x : Option ℕ) → Reads q m → Reads q (m + 1) → close.ModeNear d q (mode_clock m E) x
  mode_near q m x f h = mode_case q (noted m (all_clocks E)) (noted (m + 1) (all_clocks E)) x f h

  spot_name : (i : ℕ) (n : Named) → nth g.names i ≡ Some n → spot (first + i) ≡ Pl.spot_arms n
  spot_name i n e =
      let low : nat_lt (first + i) first ≡ false = grind (arith, nat_tests) in
      let j : (first + i) - first ≡ i = omega arith in
      if_false (nat_lt (first + i) first) None (Pl.or_none (nth S ((first + i) - first))) low
      ∙ ap (λ z. Pl.or_none (nth S z)) j ∙ ap Pl.or_none (nth_map Pl.spot_arms g.names i ∙ ap (option_map Pl.spot_arms) e)

  spots_read : (q : Place) (m m' : ℕ) → m ≡ m' → spot m' ≡ Some (arms q) → Reads q m
  spots_read q m m' e s t f = block_near q m t (ap spot e ∙ s) f

  named_placed : (i k : ℕ) (ns : List Named) (n : Named) → Pl.NamesPlaced first E V S k ns → nth ns i ≡ Some n → Pl.NamedPlaced first E V S (k + i) n
  named_placed i k [] n h e = absurd (cc)
  named_placed zero k (x ∷ ns) n h e =
      let s : x ≡ n = ap (or_first x) e in
      let z : k ≡ k + 0 = omega arith in
      subst (λ y. Pl.NamedPlaced first E V S (k + 0) y) s (subst (λ j. Pl.NamedPlaced first E V S j x) z h.0)
  named_placed (suc i) k (x ∷ ns) n h e = let z : suc k + i ≡ k + suc i = omega arith in subst (λ j. Pl.NamedPlaced first E V S j n) z (named_placed i (suc k) ns n h.1 e)

  placed_at : (i : ℕ) (n : Named) → nth g.names i ≡ Some n → Pl.NamedPlaced first E V S i n
  placed_at i n e = let z : 0 + i ≡ i = omega arith in subst (λ j. Pl.NamedPlaced first E V S j n) z (named_placed i 0 g.names n pl.names e)

  present_near : (q : Place) (xs : List ℕ) → close.PresentNear d q xs
  present_near q [] = tt
  present_near q (x ∷ xs) = signal_near q x

  -- the first name of an automaton
  active_near : (m : ℕ) (all : List _) (q : Place) (x : Option ℕ) → nth g.names (m - first) ≡ Some (named.Active all q) → close.ModeNear d q (mode_clock m E) x
  active_near m all q x e = by_case (nat_lt m first) refl
    where
      h : Pl.NamedPlaced first E V S (m - first) (named.Active all q)
      h = placed_at (m - first) (named.Active all q) e

      by_next : (c : Bool) → nat_lt m first ≡ true → nat_lt (m + 1) first ≡ c → close.ModeNear d q (mode_clock m E) x
      by_next true f k =
          let l = ltb-true m first f in
          let l' = ltb-true (m + 1) first k in
          mode_near q m x (λ t n. param_near (place_rows q) m t l n) (λ t n. param_near (place_rows q) (m + 1) t l' n)
      by_next false f k =
          let l = ltb-true m first f in
          let low : first ≤ m + 1 = grind (arith, nat_tests, k) in
          let i : m - first ≡ 0 = omega (arith, l) in
          let up : m + 1 ≡ first + 0 = omega (arith, l, low) in
          mode_near q m x (λ t n. param_near (place_rows q) m t l n) (spots_read q (m + 1) (first + 0) up (spot_name 0 (named.Active all q) (ap (nth g.names) (sym i) ∙ e)))

      by_case : (c : Bool) → nat_lt m first ≡ c → close.ModeNear d q (mode_clock m E) x
      by_case true f = by_next (nat_lt (m + 1) first) f refl
      by_case false f =
          let low : first ≤ m = grind (arith, nat_tests, f) in
          let here' : m ≡ first + (m - first) = omega (arith, low) in
          let up : m + 1 ≡ suc (first + (m - first)) = omega (arith, low) in
          mode_near q m x (spots_read q m (first + (m - first)) here' (spot_name (m - first) (named.Active all q) e)) (spots_read q (m + 1) (suc (first + (m - first))) up h.1)

  -- the second
  tested_near : (m : ℕ) (all : List _) (q : Place) (x : Option ℕ) → nth g.names (m - first) ≡ Some (named.Tested all q) → close.ModeNear d q (mode_clock (m - 1) E) x
  tested_near m all q x e =
      let h : Pl.NamedPlaced first E V S (m - first) (named.Tested all q) = placed_at (m - first) (named.Tested all q) e in
      let some : 0 < m - first = h.3 in
      let down : m - 1 ≡ first + (m - first) - 1 = omega (arith, some) in
      let same : m - 1 + 1 ≡ first + (m - first) = omega (arith, some) in
      mode_near q (m - 1) x (spots_read q (m - 1) (first + (m - first) - 1) down h.1) (spots_read q (m - 1 + 1) (first + (m - first)) same (spot_name (m - first) (named.Tested all q) e))

  name_near : (m : ℕ) (o : Option Named) → nth g.names (m - first) ≡ o → close.NameNear d m o
  name_near m None e = tt
  name_near m (Some (named.Clock x)) e = tt
  name_near m (Some (named.Match k all q)) e = tt
  name_near m (Some (named.Present xs q)) e = present_near q xs
  name_near m (Some (named.Active all q)) e = active_near m all q (tested_outside d m) e
  name_near m (Some (named.Tested all q)) e = tested_near m all q (tested_outside d (m - 1)) e

  pub closed : Close d
  closed = record { wholes = wholes_near; inner = each_inner g.sites (λ s i. i); names = λ m. name_near m (nth g.names (m - first)) refl }

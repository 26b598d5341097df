-- What is reached in the graph is what flows.
use Rattle.std.specs.Prelude.{◌≡◌, refl, ℕ, zero, suc, ◌+◌, ◌<◌, ◌≤◌, ◌⊎◌, ◌||◌, ◌==◌, nat_lt, Bool, true, false, List, [], ◌∷◌, length, Option, Some, None, if◌then◌else◌}
use Rattle.std.proofs.Common.{ap, sym, ◌∙◌, subst, arith, inl, inr}
use Rattle.std.proofs.lemmas.List.Elements.{All-head, All-tail}
use Rattle.digraph.specs.Graph.{In, Ways, stays, on, reads}
use Rattle.digraph.proofs.Marks.{none_in}
use Rattle.digraph.proofs.Readers.{ways_begin}
use Rattle.ls_sig.specs.declared.binder.Note.{Note}
use Rattle.ls_sig.specs.declared.sigs.InitSig.{InitSig}
use Rattle.ls_places.specs.Patterns.{has_name}
use Rattle.ls_places.specs.Ranges.{AllBelow, SiteBelow}
use Rattle.ls_places.specs.Search.{never, nth, sites_of, start_of, whole_at}
use Rattle.ls_places.specs.declared.definition.Definition.{Definition}
use Rattle.ls_places.specs.declared.places.Site.{Site}
use Rattle.ls_places.specs.declared.places.Variable.{Variable}
use Rattle.ls_places.specs.declared.places.Whole.{Whole}
use Rattle.std.specs.List.{All}
use Rattle.ls_value.specs.declared.leaf.Leaf.TheVariants as leaf
use Rattle.ls_ast.specs.declared.tree.Expr.{fold_out-Expr}
use Rattle.ls_ast.specs.declared.tree.Form.{fold-Form, fold-roll-Form}
use Rattle.ls_ast.specs.declared.tree.Form.TheOpen.{Form-F}
use Rattle.ls_ast.specs.declared.tree.Form.TheVariants.{rolls-Leaf}
use Rattle.ls_places.specs.Places.{Place}
use Rattle.init_rules.specs.Slots as slots
use Rattle.init_rules.specs.Slots.{Source, always, from, of_param, of_var, of_start, Flows, FlowsInto}
use Rattle.init_rules.specs.Flow as flow
use Rattle.init_rules.specs.Flow.{system, whole_flow}
use Rattle.init_rules.specs.Nodes as own
use Rattle.init_rules.specs.Nodes.{Counts, counts, node, param_node, start_node, var_node, whole_node, rows, Standing}
use Rattle.init_rules.proofs.Rows.{Row, node_in, node_of, row_sites, row_start, row_zeros}
use Rattle.init_rules.proofs.NodeRows.{at_always, at_nothing, at_param, at_start, at_var, at_whole, at_wrong, nth_there}

module _ (d : Definition) (sigs : List InitSig) where
  abbrev n : Counts
  n = counts d

  abbrev g : List (List ℕ)
  g = rows d sigs

  abbrev S : slots.System
  S = system d sigs

  -- ---- what is reached flows; `ys` is what the search asks for

  module _ (ys : List Source) where
    abbrev Leads : Source → Type 0
    Leads z = (x : Source) → Flows S x z → FlowsInto S x ys

    -- what a node that is reached stands for
    pub data Meant : ℕ → Type 0 where
      the_zeros : ((z : Source) → In z S.zeros → Leads z) → Meant 1
      nothing : Meant 2
      the_always : Leads always → Meant 0
      a_param : (k : ℕ) → k < n.params → Leads (from (of_param k)) → Meant (3 + k)
      a_var : (k : ℕ) → k < n.vars → Leads (from (of_var k)) → Meant (3 + n.params + k)
      a_start : (k : ℕ) → k < n.vars → Leads (from (of_start k)) → Meant (3 + n.params + n.vars + k)
      a_whole : (k : ℕ) → k < n.exprs → ((z : Source) → In z (whole_flow d sigs k) → Leads z) → Meant (3 + n.params + n.vars + n.vars + k)

    by_bound : (k m x : ℕ) (t : Bool) → nat_lt k m ≡ t → (k < m → Meant x) → Meant (if t then x else 2)
    by_bound k m x true e f = f (grind (arith, e))
    by_bound k m x false e f = nothing

    meant_node : (z : Source) → Leads z → Meant (node n z)
    meant_node always l = the_always l
    meant_node (from (of_param k)) l = by_bound k n.params (3 + k) (nat_lt k n.params) refl (λ b. a_param k b l)
    meant_node (from (of_var k)) l = by_bound k n.vars (3 + n.params + k) (nat_lt k n.vars) refl (λ b. a_var k b l)
    meant_node (from (of_start k)) l = by_bound k n.vars (3 + n.params + n.vars + k) (nat_lt k n.vars) refl (λ b. a_start k b l)

    pub meant_whole : (k : ℕ) → ((z : Source) → In z (whole_flow d sigs k) → Leads z) → Meant (whole_node n k)
    meant_whole k f = by_bound k n.exprs (3 + n.params + n.vars + n.vars + k) (nat_lt k n.exprs) refl (λ b. a_whole k b f)

    -- a node of a row whose sources all lead there
    meant_in : (xs : List ℕ) (zs : List Source) → Row d sigs xs zs → ((z : Source) → In z zs → Leads z) → (v : ℕ) → In v xs → Meant v
    meant_in xs zs r f v h = elim (r.down v h) [
      | inl a ↦ subst Meant (sym a.2) (meant_node a.0 (f a.0 a.1))
      | inr a ↦ subst Meant (sym a.2) (meant_whole a.0 (λ z i. f z (a.1 z i)))
    ]

    into_var : (k : ℕ) → Leads (from (of_var k)) → (z : Source) → In z (S.feeds (of_var k)) → Leads z
    into_var k l z h x f = l x (slots.to_var k z f h)

    into_start : (k : ℕ) → Leads (from (of_start k)) → (z : Source) → In z (S.feeds (of_start k)) → Leads z
    into_start k l z h x f = l x (slots.to_start k z f h)

    from_nodes : (zs : List Source) → ((z : Source) → In z zs → Leads z) → (v : ℕ) → In v (own.nodes n zs) → Meant v
    from_nodes zs f v h = let r = node_of d sigs v zs h in subst Meant (sym r.2) (meant_node r.0 (f r.0 r.1))

    start_step : (k : ℕ) (o : Option Variable) → nth d.places.vars k ≡ o → k < n.vars → Leads (from (of_start k)) → (v : ℕ)
        → In v (reads g (3 + n.params + n.vars + k)) → Meant v
    start_step k None e b l v h = let w = nth_there d.places.vars k b in absurd (no_both (sym w.1 ∙ e))
      where
        no_both : {A : Type 0} {x : A} → Some x ≡ None → ⊥
        no_both e = absurd (cc e)
    start_step k (Some w) e b l v h =
        meant_in (own.initial_row d sigs w) (flow.start_flow d sigs (start_of w d.places.starts)) (row_start d sigs (start_of w d.places.starts))
        (λ z i. into_start k l z (subst (λ o. In z (flow.initial_flow d sigs o)) (sym e) i)) v
        (subst (In v) (at_start d sigs k w e b) h)

    step : (u v : ℕ) → Meant u → In v (reads g u) → Meant v
    step _ v (the_zeros f) h = meant_in (own.zero_row d sigs) S.zeros (row_zeros d sigs) f v (subst (In v) (at_wrong d sigs) h)
    step _ v nothing h = absurd (none_in (subst (In v) (at_nothing d sigs) h))
    step _ v (the_always l) h = absurd (none_in (subst (In v) (at_always d sigs) h))
    step _ v (a_param k b l) h = absurd (none_in (subst (In v) (at_param d sigs k b) h))
    step _ v (a_var k b l) h = meant_in (own.variable_row d sigs k) (S.feeds (of_var k)) (row_sites d sigs (sites_of k d.places.sites)) (into_var k l) v
        (subst (In v) (at_var d sigs k b) h)
    step _ v (a_start k b l) h = start_step k (nth d.places.vars k) refl b l v h
    step _ v (a_whole k b f) h = from_nodes (whole_flow d sigs k) f v (subst (In v) (at_whole d sigs k b) h)

    pub meant : (s v : ℕ) → Meant s → Ways (reads g) s v → Meant v
    meant s _ m stays = m
    meant s _ m (on u v w h) = step u v (meant s u m w) h

    -- the node of a source stands for it
    pub back_always : (v : ℕ) → Meant v → v ≡ 0 → FlowsInto S always ys
    back_always _ (the_zeros f) e = absurd (omega (arith, e))
    back_always _ nothing e = absurd (omega (arith, e))
    back_always _ (the_always l) e = l always slots.stays
    back_always _ (a_param k b l) e = absurd (omega (arith, e))
    back_always _ (a_var k b l) e = absurd (omega (arith, e))
    back_always _ (a_start k b l) e = absurd (omega (arith, e))
    back_always _ (a_whole k b f) e = absurd (omega (arith, e))

    pub back_param : (i v : ℕ) → i < n.params → Meant v → v ≡ 3 + i → FlowsInto S (from (of_param i)) ys
    back_param i _ c (the_zeros f) e = absurd (omega (arith, e))
    back_param i _ c nothing e = absurd (omega (arith, e))
    back_param i _ c (the_always l) e = absurd (omega (arith, e))
    back_param i _ c (a_param k b l) e = subst (λ j. FlowsInto S (from (of_param j)) ys) (same k e) (l (from (of_param k)) slots.stays)
      where
        same : (k : ℕ) → 3 + k ≡ 3 + i → k ≡ i
        same k e = omega (arith, e)
    back_param i _ c (a_var k b l) e = absurd (omega (arith, e, c))
    back_param i _ c (a_start k b l) e = absurd (omega (arith, e, c))
    back_param i _ c (a_whole k b f) e = absurd (omega (arith, e, c))

  -- ---- what flows is reached

  -- only what is there is fed
  below_case : (k j m : ℕ) (r c : Bool) → (k == j) ≡ c → (c || r) ≡ true → j < m → (r ≡ true → k < m) → k < m
  below_case k j m r true q e b f = grind (arith, q, b)
  below_case k j m r false q e b f = f e

  below_all : (k : ℕ) (ks : List ℕ) (m : ℕ) → AllBelow m ks → has_name k ks ≡ true → k < m
  below_all k [] m b e = absurd (cc e)
  below_all k (j ∷ ks) m b e = below_case k j m (has_name k ks) (k == j) refl e (All-head (λ i. i < m) j ks b) (λ t. below_all k ks m (All-tail (λ i. i < m) j ks b) t)

  fed_case : (y : Source) (s : Site) (rest : List Site) (t : Bool) → In y (flow.sites_flow d sigs (if t then s ∷ rest else rest)) → (t ≡ true) ⊎ In y (flow.sites_flow d sigs rest)
  fed_case y s rest true h = inl refl
  fed_case y s rest false h = inr h

  fed_below : (k m e : ℕ) (all : List Site) → All (SiteBelow m e) all → (y : Source) → In y (flow.sites_flow d sigs (sites_of k all)) → k < m
  fed_below k m e [] b y h = absurd (none_in h)
  fed_below k m e (s ∷ all) b y h = elim (fed_case y s (sites_of k all) (has_name k s.vars) h) [
    | inl t ↦ below_all k s.vars m (All-head (SiteBelow m e) s all b).0 t
    | inr g ↦ fed_below k m e all (All-tail (SiteBelow m e) s all b) y g
  ]

  nth_below : {A : Type 0} (xs : List A) (k : ℕ) (x : A) → nth xs k ≡ Some x → k < length xs
  nth_below [] k x e = absurd (cc e)
  nth_below (y ∷ ys) zero x e = omega arith
  nth_below (y ∷ ys) (suc k) x e = omega (arith, nth_below ys k x e)

  -- a number without an expression has no sources
  never_form : (p : Place) → fold-Form Note (Note → flow.Flow) flow.Sourced (flow.form_flow d sigs p) (flow.expr_flow d sigs) never.form ≡ (λ n. flow.no_flow)
  never_form p =
      sym (ap (fold-Form Note (Note → flow.Flow) flow.Sourced (flow.form_flow d sigs p) (flow.expr_flow d sigs)) (rolls-Leaf leaf.Nil))
      ∙ fold-roll-Form Note (Note → flow.Flow) flow.Sourced (flow.form_flow d sigs p) (flow.expr_flow d sigs) (Form-F.Leaf leaf.Nil)

  never_flows : (p : Place) → (flow.sourced d sigs p never).sources ≡ []
  never_flows p =
      ap (λ (r : flow.Sourced). r.sources) (fold_out-Expr Note (Note → flow.Flow) flow.Sourced (flow.form_flow d sigs p) (flow.expr_flow d sigs) never)
      ∙ ap (λ (f : Note → flow.Flow). (f never.note).sources) (never_form p)

  past : (xs : List (Whole Note)) (k : ℕ) → length xs ≤ k → whole_at xs k ≡ record { expr = never; place = [] }
  past [] k l = refl
  past (x ∷ xs) zero l = absurd (omega (arith, l))
  past (x ∷ xs) (suc k) l = past xs k (omega (arith, l))

  no_flow_past : (k : ℕ) → length d.places.exprs ≤ k → whole_flow d sigs k ≡ []
  no_flow_past k l = ap (λ (w : Whole Note). (flow.sourced d sigs w.place w.expr).sources) (past d.places.exprs k l) ∙ never_flows []

  if_true : (t : Bool) (x y : ℕ) → t ≡ true → (if t then x else y) ≡ x
  if_true true x y e = refl
  if_true false x y e = absurd (cc e)

  less_true : (k m : ℕ) → k < m → nat_lt k m ≡ true
  less_true k m l = grind (arith, l)

  var_is : (k : ℕ) → k < n.vars → var_node n k ≡ 3 + n.params + k
  var_is k l = if_true (nat_lt k n.vars) (3 + n.params + k) 2 (less_true k n.vars l)

  start_is : (k : ℕ) → k < n.vars → start_node n k ≡ 3 + n.params + n.vars + k
  start_is k l = if_true (nat_lt k n.vars) (3 + n.params + n.vars + k) 2 (less_true k n.vars l)

  whole_is : (k : ℕ) → k < n.exprs → whole_node n k ≡ 3 + n.params + n.vars + n.vars + k
  whole_is k l = if_true (nat_lt k n.exprs) (3 + n.params + n.vars + n.vars + k) 2 (less_true k n.exprs l)

  pub param_is : (k : ℕ) → k < n.params → param_node n k ≡ 3 + k
  param_is k l = if_true (nat_lt k n.params) (3 + k) 2 (less_true k n.params l)

  way : (s u t : ℕ) (xs : List ℕ) → reads g s ≡ xs → In u xs → Ways (reads g) u t → Ways (reads g) s t
  way s u t xs e h w = ways_begin (reads g) s u t (subst (In u) (sym e) h) w

  -- from a whole expression
  pub whole_way : (k : ℕ) (y : Source) → In y (whole_flow d sigs k) → (t : ℕ) → Ways (reads g) (node n y) t → Ways (reads g) (whole_node n k) t
  whole_way k y h t w = by_case (nat_lt k n.exprs) refl
    where
      by_case : (c : Bool) → nat_lt k n.exprs ≡ c → Ways (reads g) (whole_node n k) t
      by_case true e =
          let l : k < n.exprs = grind (arith, e) in
          subst (λ s. Ways (reads g) s t) (sym (whole_is k l))
          (way (3 + n.params + n.vars + n.vars + k) (node n y) t (own.nodes n (whole_flow d sigs k)) (at_whole d sigs k l) (node_in d sigs y (whole_flow d sigs k) h) w)
      by_case false e = absurd (none_in (subst (In y) (no_flow_past k (grind (arith, e))) h))

  -- from a node whose row stands for these sources
  row_way : (s : ℕ) (xs : List ℕ) (ys : List Source) → Row d sigs xs ys → reads g s ≡ xs → (y : Source) → In y ys → (t : ℕ) → Ways (reads g) (node n y) t → Ways (reads g) s t
  row_way s xs ys r e y h t w = elim (r.up y h) [
    | inl a ↦ way s (node n y) t xs e a w
    | inr a ↦ way s (whole_node n a.0) t xs e a.2 (whole_way a.0 y a.1 t w)
  ]

  module _ (st : Standing d) where
    to_start_way : (k : ℕ) (o : Option Variable) → nth d.places.vars k ≡ o → (y : Source) → In y (flow.initial_flow d sigs o) → (t : ℕ) → Ways (reads g) (node n y) t
        → Ways (reads g) (start_node n k) t
    to_start_way k None e y h t w = absurd (none_in h)
    to_start_way k (Some v) e y h t w =
        let l : k < n.vars = nth_below d.places.vars k v e in
        subst (λ s. Ways (reads g) s t) (sym (start_is k l))
        (row_way (3 + n.params + n.vars + k) (own.initial_row d sigs v) (flow.start_flow d sigs (start_of v d.places.starts)) (row_start d sigs (start_of v d.places.starts))
        (at_start d sigs k v e l) y h t w)

    pub flows_way : (x y : Source) → Flows S x y → Ways (reads g) (node n y) (node n x)
    flows_way x _ slots.stays = stays
    flows_way x _ (slots.to_var k y f h) =
        let l : k < n.vars = fed_below k n.vars n.exprs d.places.sites st.range.sites y h in
        subst (λ s. Ways (reads g) s (node n x)) (sym (var_is k l))
        (row_way (3 + n.params + k) (own.variable_row d sigs k) (S.feeds (of_var k)) (row_sites d sigs (sites_of k d.places.sites)) (at_var d sigs k l) y h (node n x) (flows_way x y f))
    flows_way x _ (slots.to_start k y f h) = to_start_way k (nth d.places.vars k) refl y h (node n x) (flows_way x y f)

    -- ---- the two searches

    pub wrong_way : (x : Source) → FlowsInto S x S.zeros → Ways (reads g) 1 (node n x)
    wrong_way x f = row_way 1 (own.zero_row d sigs) S.zeros (row_zeros d sigs) (at_wrong d sigs) f.0 f.1 (node n x) (flows_way x f.0 f.2)

    result_is : whole_flow d sigs st.last ≡ S.result
    result_is = ap (λ (w : Whole Note). (flow.sourced d sigs w.place w.expr).sources) st.result

    pub out_way : (x : Source) → FlowsInto S x S.result → Ways (reads g) (whole_node n st.last) (node n x)
    out_way x f = whole_way st.last f.0 (subst (In f.0) (sym result_is) f.1) (node n x) (flows_way x f.0 f.2)

    it_leads : (ys : List Source) (z : Source) → In z ys → Leads ys z
    it_leads ys z h x f = (z, h, f)

    pub wrong_meant : (v : ℕ) → Ways (reads g) 1 v → Meant S.zeros v
    wrong_meant v w = meant S.zeros 1 v (the_zeros (λ z h. it_leads S.zeros z h)) w

    pub out_meant : (v : ℕ) → Ways (reads g) (whole_node n st.last) v → Meant S.result v
    out_meant v w = meant S.result (whole_node n st.last) v (meant_whole S.result st.last (λ z h. it_leads S.result z (subst (In z) result_is h))) w

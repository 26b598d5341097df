-- Rows of the graph, and the sources that they stand for.
use Rattle.std.specs.Prelude.{◌≡◌, ℕ, ◌⊎◌, Bool, true, false, List, [], ◌∷◌, ◌++◌, map, length, Option, Some, None, if◌then◌else◌}
use Rattle.std.proofs.Common.{inl, inr}
use Rattle.digraph.specs.Graph.{In, first, later}
use Rattle.digraph.proofs.Marks.{none_in, in_cons, in_left, in_right, in_either}
use Rattle.ls_sig.specs.declared.sigs.InitSig.{InitSig}
use Rattle.ls_places.specs.Patterns.{joined}
use Rattle.ls_places.specs.Search.{nth, count_up}
use Rattle.ls_places.specs.declared.definition.Definition.{Definition}
use Rattle.ls_places.specs.declared.places.Named.{Named}
use Rattle.ls_places.specs.declared.places.Named.TheVariants as named
use Rattle.ls_places.specs.declared.places.Right.{Right}
use Rattle.ls_places.specs.declared.places.Right.TheVariants as rhs
use Rattle.ls_places.specs.declared.places.Site.{Site}
use Rattle.ls_places.specs.declared.places.Start.{Start}
use Rattle.ls_places.specs.declared.places.Transition.{Transition}
use Rattle.init_rules.specs.Slots.{Source}
use Rattle.init_rules.specs.Bits.{binds_zero}
use Rattle.init_rules.specs.Flow as flow
use Rattle.init_rules.specs.Flow.{sourced, whole_flow, if_list}
use Rattle.init_rules.specs.Nodes as own
use Rattle.init_rules.specs.Nodes.{Counts, counts, node, nodes, whole_node}

module _ (d : Definition) (sigs : List InitSig) where
  abbrev n : Counts
  n = counts d

  -- a node of a row is that of a source, or that of a whole expression all of whose sources are among them
  abbrev Down : List ℕ → List Source → Type 0
  Down xs ys = (v : ℕ) → In v xs → ((z : Source) × In z ys × (v ≡ node n z)) ⊎ ((k : ℕ) × ((y : Source) → In y (whole_flow d sigs k) → In y ys) × (v ≡ whole_node n k))

  -- and each source has its node there, or that of a whole expression with it
  abbrev Up : List ℕ → List Source → Type 0
  Up xs ys = (y : Source) → In y ys → In (node n y) xs ⊎ ((k : ℕ) × In y (whole_flow d sigs k) × In (whole_node n k) xs)

  pub record Row (xs : List ℕ) (ys : List Source) : Type 0 where
    pub down : Down xs ys
    pub up : Up xs ys

  pub row_none : Row [] []
  row_none = record { down = λ v h. absurd (none_in h); up = λ y h. absurd (none_in h) }

  left_down : (xs : List ℕ) (ys zs : List Source) → Down xs ys → Down xs (ys ++ zs)
  left_down xs ys zs f v h = elim (f v h) [
    | inl a ↦ inl (a.0, in_left a.0 ys zs a.1, a.2)
    | inr a ↦ inr (a.0, λ y i. in_left y ys zs (a.1 y i), a.2)
  ]

  right_down : (xs : List ℕ) (ys zs : List Source) → Down xs zs → Down xs (ys ++ zs)
  right_down xs ys zs f v h = elim (f v h) [
    | inl a ↦ inl (a.0, in_right a.0 ys zs a.1, a.2)
    | inr a ↦ inr (a.0, λ y i. in_right y ys zs (a.1 y i), a.2)
  ]

  left_up : (xs us : List ℕ) (ys : List Source) → Up xs ys → Up (xs ++ us) ys
  left_up xs us ys f y h = elim (f y h) [
    | inl a ↦ inl (in_left (node n y) xs us a)
    | inr a ↦ inr (a.0, a.1, in_left (whole_node n a.0) xs us a.2)
  ]

  right_up : (xs us : List ℕ) (ys : List Source) → Up us ys → Up (xs ++ us) ys
  right_up xs us ys f y h = elim (f y h) [
    | inl a ↦ inl (in_right (node n y) xs us a)
    | inr a ↦ inr (a.0, a.1, in_right (whole_node n a.0) xs us a.2)
  ]

  pub row_append : (xs us : List ℕ) (ys zs : List Source) → Row xs ys → Row us zs → Row (xs ++ us) (ys ++ zs)
  row_append xs us ys zs r q = record {
    down = λ v h. elim (in_either v xs us h) [ inl a ↦ left_down xs ys zs r.down v a | inr a ↦ right_down us ys zs q.down v a ];
    up = λ y h. elim (in_either y ys zs h) [ inl a ↦ left_up xs us ys r.up y a | inr a ↦ right_up xs us zs q.up y a ];
  }

  pub row_joined : {A : Type 0} (f : A → List ℕ) (g : A → List Source) → ((a : A) → Row (f a) (g a)) → (as' : List A) → Row (joined (map f as')) (joined (map g as'))
  row_joined f g r [] = row_none
  row_joined f g r (a ∷ as') = row_append (f a) (joined (map f as')) (g a) (joined (map g as')) (r a) (row_joined f g r as')

  -- the sources themselves
  pub node_in : (y : Source) (ys : List Source) → In y ys → In (node n y) (nodes n ys)
  node_in y _ (first ys) = first (nodes n ys)
  node_in y _ (later z ys h) = later (node n z) (nodes n ys) (node_in y ys h)

  pub node_of : (v : ℕ) (ys : List Source) → In v (nodes n ys) → (z : Source) × In z ys × (v ≡ node n z)
  node_of v [] h = absurd (none_in h)
  node_of v (y ∷ ys) h = elim (in_cons v (node n y) (nodes n ys) h) [
    | inl e ↦ (y, first ys, e)
    | inr a ↦ let r = node_of v ys a in (r.0, later y ys r.1, r.2)
  ]

  pub row_nodes : (ys : List Source) → Row (nodes n ys) ys
  row_nodes ys = record { down = λ v h. inl (node_of v ys h); up = λ y h. inl (node_in y ys h) }

  -- a whole expression
  pub row_whole : (k : ℕ) → Row (whole_node n k ∷ []) (whole_flow d sigs k)
  row_whole k = record {
    down = λ v h. elim (in_cons v (whole_node n k) [] h) [ inl e ↦ inr (k, λ y i. i, e) | inr a ↦ absurd (none_in a) ];
    up = λ y h. inr (k, h, first []);
  }

  pub row_if : (t : Bool) (xs : List ℕ) (ys : List Source) → Row xs ys → Row (if t then xs else []) (if_list t ys)
  row_if true xs ys r = r
  row_if false xs ys r = row_none

  -- ---- the parts of a body

  row_right : (r : Right) → Row (own.right_row n r) (flow.right_flow d sigs r)
  row_right (rhs.Part p k) = row_whole k
  row_right (rhs.Whole k) = row_whole k
  row_right (rhs.Pattern x p) = row_none

  pub row_sites : (all : List Site) → Row (own.sites_row n all) (flow.sites_flow d sigs all)
  row_sites [] = row_none
  row_sites (s ∷ all) = row_append (own.right_row n s.right) (own.sites_row n all) (flow.right_flow d sigs s.right) (flow.sites_flow d sigs all) (row_right s.right) (row_sites all)

  pub row_start : (s : Option Start) → Row (own.start_row n s) (flow.start_flow d sigs s)
  row_start None = row_none
  row_start (Some s) = row_whole s.right

  row_guards : (gs : List Transition) → Row (own.guards_row n gs) (flow.guards_flow d sigs gs)
  row_guards [] = row_none
  row_guards (g ∷ gs) = row_append (whole_node n g.cond ∷ []) (own.guards_row n gs) (whole_flow d sigs g.cond) (flow.guards_flow d sigs gs) (row_whole g.cond) (row_guards gs)

  row_states : (all : List (ℕ × List Transition)) → Row (own.states_row n all) (flow.states_flow d sigs all)
  row_states [] = row_none
  row_states (s ∷ all) = row_append (own.guards_row n s.1) (own.states_row n all) (flow.guards_flow d sigs s.1) (flow.states_flow d sigs all) (row_guards s.1) (row_states all)

  row_named : (m : Named) → Row (own.named_row n m) (flow.named_zeros d sigs m)
  row_named (named.Clock x) = row_none
  row_named (named.Match k all p) = row_whole k
  row_named (named.Present xs p) = row_none
  row_named (named.Active states p) = row_states states
  row_named (named.Tested states p) = row_states states

  row_resets : (rs : List ℕ) → Row (map (whole_node n) rs) (joined (map (whole_flow d sigs) rs))
  row_resets [] = row_none
  row_resets (r ∷ rs) = row_append (whole_node n r ∷ []) (map (whole_node n) rs) (whole_flow d sigs r) (joined (map (whole_flow d sigs) rs)) (row_whole r) (row_resets rs)

  -- all that has to be 0
  pub row_zeros : Row (own.zero_row d sigs) (flow.body_zeros d sigs)
  row_zeros =
      let xs0 = joined (map (own.expr_zero_row d sigs) d.places.exprs) in
      let xs1 = joined (map (own.site_zero_row d sigs) d.places.sites) in
      let xs2 = joined (map (own.variable_zero_row d sigs) (count_up (length d.places.vars) 0)) in
      let xs3 = joined (map (own.named_row n) d.places.names) in
      let xs4 = map (whole_node n) d.places.resets in
      let ys0 = joined (map (flow.expr_zeros d sigs) d.places.exprs) in
      let ys1 = joined (map (flow.site_zeros d sigs) d.places.sites) in
      let ys2 = joined (map (λ k. flow.variable_zeros d sigs k (nth d.places.vars k)) (flow.numbers d sigs)) in
      let ys3 = joined (map (flow.named_zeros d sigs) d.places.names) in
      let ys4 = joined (map (whole_flow d sigs) d.places.resets) in
      row_append xs0 (xs1 ++ (xs2 ++ (xs3 ++ xs4))) ys0 (ys1 ++ (ys2 ++ (ys3 ++ ys4)))
      (row_joined (own.expr_zero_row d sigs) (flow.expr_zeros d sigs) (λ w. row_nodes (flow.expr_zeros d sigs w)) d.places.exprs)
      (row_append xs1 (xs2 ++ (xs3 ++ xs4)) ys1 (ys2 ++ (ys3 ++ ys4))
      (row_joined (own.site_zero_row d sigs) (flow.site_zeros d sigs) (λ s. row_if (binds_zero d s) (own.site_row n s) (flow.right_flow d sigs s.right) (row_right s.right)) d.places.sites)
      (row_append xs2 (xs3 ++ xs4) ys2 (ys3 ++ ys4)
      (row_joined (own.variable_zero_row d sigs) (λ k. flow.variable_zeros d sigs k (nth d.places.vars k)) (λ k. row_nodes (flow.variable_zeros d sigs k (nth d.places.vars k))) (count_up (length d.places.vars) 0))
      (row_append xs3 xs4 ys3 ys4
      (row_joined (own.named_row n) (flow.named_zeros d sigs) row_named d.places.names)
      (row_resets d.places.resets))))

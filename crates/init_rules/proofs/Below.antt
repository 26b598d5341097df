-- The rows of the graph have nodes alone; and what `find` gives.
use Rattle.std.specs.Prelude.{◌≡◌, refl, ℕ, suc, ◌+◌, ◌<◌, nat_lt, Bool, true, false, List, [], ◌∷◌, ◌++◌, map, length, Option, Some, None, if◌then◌else◌}
use Rattle.std.proofs.Common.{ap, arith}
use Rattle.std.proofs.lemmas.List.Elements.{All-append, All-cons, All-nil}
use Rattle.ls_sig.specs.declared.binder.Note.{Note}
use Rattle.ls_sig.specs.declared.sigs.InitSig.{InitSig}
use Rattle.ls_places.proofs.Ranged.{found_in_range}
use Rattle.ls_places.specs.Clocks.{is_signal}
use Rattle.ls_places.specs.Patterns.{joined}
use Rattle.ls_places.specs.Places.{at_top, nothing, walk_body}
use Rattle.ls_places.specs.Search.{count_up, nth, sites_of, start_of, whole_at}
use Rattle.ls_places.specs.declared.definition.Definition.{Definition}
use Rattle.ls_places.specs.declared.places.Named.{Named}
use Rattle.ls_places.specs.declared.places.Named.TheVariants as named
use Rattle.ls_places.specs.declared.places.Right.{Right}
use Rattle.ls_places.specs.declared.places.Right.TheVariants as rhs
use Rattle.ls_places.specs.declared.places.Site.{Site}
use Rattle.ls_places.specs.declared.places.Start.{Start}
use Rattle.ls_places.specs.declared.places.Transition.{Transition}
use Rattle.ls_places.specs.declared.places.Whole.{Whole}
use Rattle.init_rules.specs.Bits.{binds_zero}
use Rattle.init_rules.specs.Flow.{expr_zeros, sourced, variable_zeros}
use Rattle.init_rules.specs.Slots.{Source, always, from, of_param, of_var, of_start}
use Rattle.init_rules.specs.Nodes as own
use Rattle.init_rules.specs.Nodes.{Counts, counts, node, nodes, total, whole_node, Standing}
use Rattle.init_rules.specs.Searches.{AllBelow, DefinitionStands, GraphIsThere}
use Rattle.init_rules.proofs.NodeRows.{long}

module _ (n : Counts) where
  abbrev P : List ℕ → Type 0
  P = AllBelow (total n)

  one : (v : ℕ) → v < total n → P (v ∷ [])
  one v l = All-cons (λ v. v < total n) v [] l (All-nil (λ v. v < total n))

  none : P []
  none = All-nil (λ v. v < total n)

  both : (xs ys : List ℕ) → P xs → P ys → P (xs ++ ys)
  both xs ys p q = All-append (λ v. v < total n) xs ys p q

  all : {A : Type 0} (f : A → List ℕ) → ((a : A) → P (f a)) → (as' : List A) → P (joined (map f as'))
  all f h [] = none
  all f h (a ∷ as') = both (f a) (joined (map f as')) (h a) (all f h as')

  by_bound : (k m x : ℕ) (t : Bool) → nat_lt k m ≡ t → (k < m → x < total n) → (if t then x else 2) < total n
  by_bound k m x true e f = f (grind (arith, e))
  by_bound k m x false e f = omega arith

  node_below : (z : Source) → node n z < total n
  node_below always = omega arith
  node_below (from (of_param k)) = by_bound k n.params (3 + k) (nat_lt k n.params) refl (λ l. omega (arith, l))
  node_below (from (of_var k)) = by_bound k n.vars (3 + n.params + k) (nat_lt k n.vars) refl (λ l. omega (arith, l))
  node_below (from (of_start k)) = by_bound k n.vars (3 + n.params + n.vars + k) (nat_lt k n.vars) refl (λ l. omega (arith, l))

  whole_below : (k : ℕ) → whole_node n k < total n
  whole_below k = by_bound k n.exprs (3 + n.params + n.vars + n.vars + k) (nat_lt k n.exprs) refl (λ l. omega (arith, l))

  nodes_below : (zs : List Source) → P (nodes n zs)
  nodes_below [] = none
  nodes_below (z ∷ zs) = All-cons (λ v. v < total n) (node n z) (nodes n zs) (node_below z) (nodes_below zs)

  wholes_below : (ks : List ℕ) → P (map (whole_node n) ks)
  wholes_below [] = none
  wholes_below (k ∷ ks) = All-cons (λ v. v < total n) (whole_node n k) (map (whole_node n) ks) (whole_below k) (wholes_below ks)

  right_below : (r : Right) → P (own.right_row n r)
  right_below (rhs.Part p k) = one (whole_node n k) (whole_below k)
  right_below (rhs.Whole k) = one (whole_node n k) (whole_below k)
  right_below (rhs.Pattern x p) = none

  sites_below : (ss : List Site) → P (own.sites_row n ss)
  sites_below = all (own.site_row n) (λ s. right_below s.right)

  start_below : (s : Option Start) → P (own.start_row n s)
  start_below None = none
  start_below (Some s) = one (whole_node n s.right) (whole_below s.right)

  guards_below : (gs : List Transition) → P (own.guards_row n gs)
  guards_below [] = none
  guards_below (g ∷ gs) = All-cons (λ v. v < total n) (whole_node n g.cond) (own.guards_row n gs) (whole_below g.cond) (guards_below gs)

  states_below : (ss : List (ℕ × List Transition)) → P (own.states_row n ss)
  states_below = all (λ (s : ℕ × List Transition). own.guards_row n s.1) (λ s. guards_below s.1)

  named_below : (m : Named) → P (own.named_row n m)
  named_below (named.Clock x) = none
  named_below (named.Match k ms p) = one (whole_node n k) (whole_below k)
  named_below (named.Present xs p) = none
  named_below (named.Active states p) = states_below states
  named_below (named.Tested states p) = states_below states

  if_below : (t : Bool) (xs : List ℕ) → P xs → P (if t then xs else [])
  if_below true xs p = p
  if_below false xs p = none

module _ (d : Definition) (sigs : List InitSig) where
  abbrev n : Counts
  n = counts d

  zeros_below : AllBelow (total n) (own.zero_row d sigs)
  zeros_below =
      let xs0 = joined (map (own.expr_zero_row d sigs) d.places.exprs) in
      let xs1 = joined (map (own.site_zero_row d sigs) d.places.sites) in
      let xs2 = joined (map (own.variable_zero_row d sigs) (count_up (length d.places.vars) 0)) in
      let xs3 = joined (map (own.named_row n) d.places.names) in
      let xs4 = map (whole_node n) d.places.resets in
      both n xs0 (xs1 ++ (xs2 ++ (xs3 ++ xs4)))
      (all n (own.expr_zero_row d sigs) (λ w. nodes_below n (expr_zeros d sigs w)) d.places.exprs)
      (both n xs1 (xs2 ++ (xs3 ++ xs4))
      (all n (own.site_zero_row d sigs) (λ s. if_below n (binds_zero d s) (own.site_row n s) (right_below n s.right)) d.places.sites)
      (both n xs2 (xs3 ++ xs4)
      (all n (own.variable_zero_row d sigs) (λ k. nodes_below n (variable_zeros d sigs k (nth d.places.vars k))) (count_up (length d.places.vars) 0))
      (both n xs3 xs4 (all n (own.named_row n) (named_below n) d.places.names) (wholes_below n d.places.resets))))

pub graph_is_there : GraphIsThere
graph_is_there d sigs = record {
  many = long d sigs;
  zeros = zeros_below d sigs;
  variables = λ k. sites_below (counts d) (sites_of k d.places.sites);
  initials = λ w. start_below (counts d) (start_of w d.places.starts);
  wholes = λ w. nodes_below (counts d) (sourced d sigs w.place w.expr).sources;
}

-- ---- what stands in a definition

last_at : (xs : List (Whole Note)) (x : Whole Note) → whole_at (xs ++ x ∷ []) (length xs) ≡ x
last_at [] x = refl
last_at (y ∷ ys) x = last_at ys x

length_more : (xs : List (Whole Note)) (x : Whole Note) → length (xs ++ x ∷ []) ≡ suc (length xs)
length_more [] x = refl
length_more (y ∷ ys) x = ap suc (length_more ys x)

pub definition_stands : DefinitionStands
definition_stands cases params notes body =
    let front = walk_body Note (length params) cases (λ e. is_signal e.note) body.eqs at_top (nothing Note) in
    let result : Whole Note = record { expr = body.result; place = [] } in
    record {
      range = found_in_range Note (length params) cases (λ e. is_signal e.note) body;
      last = length front.exprs;
      many = length_more front.exprs result;
      result = last_at front.exprs result;
    }

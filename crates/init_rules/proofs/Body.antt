-- The judgement of a body by its constraints.
use Rattle.std.specs.Prelude.{◌≡◌, refl, ℕ, zero, suc, ◌+◌, ◌<◌, ◌≤◌, ◌==◌, ◌||◌, not, Bool, true, false, List, [], ◌∷◌, ◌++◌, map, length, Option, Some, None, if◌then◌else◌, nat_lt, ◌⊎◌}
use Rattle.std.proofs.Common.{ap, sym, ◌∙◌, arith, inl, inr}
use Rattle.ls_places.specs.Patterns.{joined}
use Rattle.ls_places.specs.Places.{Place}
use Rattle.ls_sig.specs.declared.binder.Note.{Note}
use Rattle.ls_places.specs.declared.places.Named.{Named}
use Rattle.ls_places.specs.declared.places.Named.TheVariants as named
use Rattle.ls_places.specs.declared.places.Right.{Right}
use Rattle.ls_places.specs.declared.places.Right.TheVariants as rhs
use Rattle.ls_places.specs.declared.places.Site.{Site}
use Rattle.ls_places.specs.declared.places.Start.{Start}
use Rattle.ls_places.specs.declared.places.Transition.{Transition}
use Rattle.ls_places.specs.declared.places.Variable.{Variable}
use Rattle.ls_places.specs.declared.places.Whole.{Whole}
use Rattle.ls_sig.specs.declared.sigs.InitSig.{InitSig}
use Rattle.ls_places.specs.declared.definition.Definition.{Definition}
use Rattle.ls_places.specs.Clocks.{any}
use Rattle.ls_places.specs.Patterns.{has_name}
use Rattle.ls_places.specs.Search.{E, nth, lacks, sites_of, start_of, count_up, whole_of}
use Rattle.init_rules.specs.Slots as graph
use Rattle.init_rules.specs.Slots.{Slot, of_param, of_var, of_start, Bits, Source, always, from, some}
use Rattle.init_rules.specs.Signatures.{Among, Finite, none, alone}
use Rattle.init_rules.proofs.Decided.{initialised_is, may_is, own_is, reaches_is, several_parameters}
use Rattle.init_rules.specs.Bits as bits
use Rattle.init_rules.specs.Bits.{Obeys, if_so, binds_zero}
use Rattle.init_rules.specs.Flow as flow
use Rattle.init_rules.specs.Flow.{if_list, system}
use Rattle.init_rules.specs.Init.{Assigned, InitialisedByFlow, MayByFlow, OwnByFlow, ReachesByFlow, SeveralByFlow}
use Rattle.init_rules.proofs.Flow.{any_joined, both_parts, expr_is, if_sources, last_is}

module _ (d : Definition) (sigs : List InitSig) (A : Bits) where
  bit_is : (p : Place) (e : E) → (bits.judged d sigs A p e).bit ≡ some A (flow.sourced d sigs p e).sources
  bit_is p e = (expr_is A d sigs p e).1

  whole_is : (k : ℕ) → bits.whole_bit d sigs A k ≡ some A (flow.whole_flow d sigs k)
  whole_is k = bit_is (whole_of d k).place (whole_of d k).expr

  right_is : (r : Right) → bits.right_bit d sigs A r ≡ some A (flow.right_flow d sigs r)
  right_is (rhs.Part pat k) = whole_is k
  right_is (rhs.Whole k) = whole_is k
  right_is (rhs.Pattern y pat) = refl

  sites_is : (all : List Site) → bits.sites_bit d sigs A all ≡ some A (flow.sites_flow d sigs all)
  sites_is [] = refl
  sites_is (s ∷ all) = both_parts A (bits.right_bit d sigs A s.right) (bits.sites_bit d sigs A all) (flow.right_flow d sigs s.right) (flow.sites_flow d sigs all)
      (right_is s.right) (sites_is all)

  start_is : (s : Option Start) → bits.start_bit d sigs A s ≡ some A (flow.start_flow d sigs s)
  start_is None = refl
  start_is (Some s) = whole_is s.right

  initial_is : (w : Option Variable) → bits.initial_bit d sigs A w ≡ some A (flow.initial_flow d sigs w)
  initial_is None = refl
  initial_is (Some w) = start_is (start_of w d.places.starts)

  expr_zero : (w : Whole Note) → bits.expr_wrong d sigs A w ≡ some A (flow.expr_zeros d sigs w)
  expr_zero w = (expr_is A d sigs w.place w.expr).2

  site_zero : (s : Site) → bits.site_wrong d sigs A s ≡ some A (flow.site_zeros d sigs s)
  site_zero s = if_sources A (binds_zero d s) (bits.right_bit d sigs A s.right) (flow.right_flow d sigs s.right) (right_is s.right)

  variable_zero : (k : ℕ) (w : Option Variable) → bits.variable_wrong d sigs A k w ≡ some A (flow.variable_zeros d sigs k w)
  variable_zero k None = refl
  variable_zero k (Some w) = if_sources A (not w.signal) (if_so (lacks d (sites_of k d.places.sites)) (bits.last_bit d sigs A k w))
      (if_list (lacks d (sites_of k d.places.sites)) (flow.last_flow d sigs k w))
      (if_sources A (lacks d (sites_of k d.places.sites)) (bits.last_bit d sigs A k w) (flow.last_flow d sigs k w) (last_is A d sigs [] k w))

  guards_is : (gs : List Transition) → bits.guards_bit d sigs A gs ≡ some A (flow.guards_flow d sigs gs)
  guards_is [] = refl
  guards_is (g ∷ gs) = both_parts A (bits.whole_bit d sigs A g.cond) (bits.guards_bit d sigs A gs) (flow.whole_flow d sigs g.cond) (flow.guards_flow d sigs gs)
      (whole_is g.cond) (guards_is gs)

  states_is : (all : List (ℕ × List Transition)) → bits.states_bit d sigs A all ≡ some A (flow.states_flow d sigs all)
  states_is [] = refl
  states_is (s ∷ all) = both_parts A (bits.guards_bit d sigs A s.1) (bits.states_bit d sigs A all) (flow.guards_flow d sigs s.1) (flow.states_flow d sigs all)
      (guards_is s.1) (states_is all)

  named_zero : (n : Named) → bits.named_wrong d sigs A n ≡ some A (flow.named_zeros d sigs n)
  named_zero (named.Clock x) = refl
  named_zero (named.Match k all p) = whole_is k
  named_zero (named.Present xs p) = refl
  named_zero (named.Active states p) = states_is states
  named_zero (named.Tested states p) = states_is states

  abbrev E0 : Bool
  E0 = any (map (bits.expr_wrong d sigs A) d.places.exprs)

  abbrev E1 : Bool
  E1 = any (map (bits.site_wrong d sigs A) d.places.sites)

  abbrev E2 : Bool
  E2 = any (map (λ k. bits.variable_wrong d sigs A k (nth d.places.vars k)) (bits.numbers d sigs A))

  abbrev E3 : Bool
  E3 = any (map (bits.named_wrong d sigs A) d.places.names)

  abbrev E4 : Bool
  E4 = any (map (bits.whole_bit d sigs A) d.places.resets)

  abbrev F0 : List Source
  F0 = joined (map (flow.expr_zeros d sigs) d.places.exprs)

  abbrev F1 : List Source
  F1 = joined (map (flow.site_zeros d sigs) d.places.sites)

  abbrev F2 : List Source
  F2 = joined (map (λ k. flow.variable_zeros d sigs k (nth d.places.vars k)) (flow.numbers d sigs))

  abbrev F3 : List Source
  F3 = joined (map (flow.named_zeros d sigs) d.places.names)

  abbrev F4 : List Source
  F4 = joined (map (flow.whole_flow d sigs) d.places.resets)

  pub wrong_is : bits.body_wrong d sigs A ≡ some A (flow.body_zeros d sigs)
  wrong_is = both_parts A E0 (E1 || (E2 || (E3 || E4))) F0 (F1 ++ (F2 ++ (F3 ++ F4)))
      (any_joined A (bits.expr_wrong d sigs A) (flow.expr_zeros d sigs) expr_zero d.places.exprs)
      (both_parts A E1 (E2 || (E3 || E4)) F1 (F2 ++ (F3 ++ F4))
      (any_joined A (bits.site_wrong d sigs A) (flow.site_zeros d sigs) site_zero d.places.sites)
      (both_parts A E2 (E3 || E4) F2 (F3 ++ F4)
      (any_joined A (λ k. bits.variable_wrong d sigs A k (nth d.places.vars k)) (λ k. flow.variable_zeros d sigs k (nth d.places.vars k)) (λ k. variable_zero k (nth d.places.vars k)) (bits.numbers d sigs A))
      (both_parts A E3 E4 F3 F4
      (any_joined A (bits.named_wrong d sigs A) (flow.named_zeros d sigs) named_zero d.places.names)
      (any_joined A (bits.whole_bit d sigs A) (flow.whole_flow d sigs) whole_is d.places.resets))))

  pub result_is : bits.result_bit d sigs A ≡ some A (system d sigs).result
  result_is = bit_is [] d.result

  pub to_graph : (p : ℕ → Bool) → Assigned d sigs p A → graph.Obeys (system d sigs) p A
  to_graph p o = record {
    solves = record {
      params = o.1;
      vars = λ k. o.0.variables k ∙ sites_is (sites_of k d.places.sites);
      starts = λ k. o.0.initials k ∙ initial_is (nth d.places.vars k);
    };
    zeros = sym wrong_is ∙ o.0.zeros;
  }

  pub from_graph : (p : ℕ → Bool) → graph.Obeys (system d sigs) p A → Assigned d sigs p A
  from_graph p o = (
    record {
      variables = λ k. o.solves.vars k ∙ sym (sites_is (sites_of k d.places.sites));
      initials = λ k. o.solves.starts k ∙ sym (initial_is (nth d.places.vars k));
      zeros = wrong_is ∙ o.zeros;
    },
    o.solves.params,
  )

-- ---- only some slots are fed

abbrev above_all : List ℕ → ℕ
above_all [] = 0
above_all (k ∷ ks) = suc (k + above_all ks)

abbrev above : List Site → ℕ
above [] = 0
above (s ∷ all) = above_all s.vars + above all

if_none : {X : Type 0} (t : Bool) (x : X) (xs : List X) → t ≡ false → xs ≡ [] → (if t then x ∷ xs else xs) ≡ []
if_none true x xs e f = absurd (cc)
if_none false x xs e f = f

neither : (t u : Bool) → t ≡ false → u ≡ false → (t || u) ≡ false
neither true u e f = absurd (cc)
neither false u e f = f

no_name : (k : ℕ) (ks : List ℕ) → above_all ks ≤ k → has_name k ks ≡ false
no_name k [] l = refl
no_name k (x ∷ ks) l = neither (k == x) (has_name k ks) (grind (arith, l)) (no_name k ks (omega (arith, l)))

no_sites : (k : ℕ) (all : List Site) → above all ≤ k → sites_of k all ≡ []
no_sites k [] l = refl
no_sites k (s ∷ all) l = if_none (has_name k s.vars) s (sites_of k all) (no_name k s.vars (omega (arith, l))) (no_sites k all (omega (arith, l)))

no_nth : {X : Type 0} (xs : List X) (k : ℕ) → length xs ≤ k → nth xs k ≡ None
no_nth [] k l = refl
no_nth (x ∷ xs) zero l = absurd (omega (arith, l))
no_nth (x ∷ xs) (suc k) l = no_nth xs k (omega (arith, l))

among_next : (f : ℕ → Slot) (n j k : ℕ) → j ≤ k → (c : Bool) → nat_lt j k ≡ c → (suc j ≤ k → Among (f k) (map f (count_up n (suc j)))) → Among (f k) (map f (count_up (suc n) j))
among_next f n j k l true e g = inr (g (grind (arith, e)))
among_next f n j k l false e g = inl (ap f (grind (arith, e, l)))

among_map : (f : ℕ → Slot) (k n j : ℕ) → j ≤ k → k < j + n → Among (f k) (map f (count_up n j))
among_map f k zero j l m = absurd (omega (arith, l, m))
among_map f k (suc n) j l m = among_next f n j k l (nat_lt j k) refl (λ g. among_map f k n (suc j) g (omega (arith, m)))

among_left : (s : Slot) (xs ys : List Slot) → Among s xs → Among s (xs ++ ys)
among_left s [] ys h = absurd h
among_left s (x ∷ xs) ys (inl e) = inl e
among_left s (x ∷ xs) ys (inr h) = inr (among_left s xs ys h)

among_right : (s : Slot) (xs ys : List Slot) → Among s ys → Among s (xs ++ ys)
among_right s [] ys h = h
among_right s (x ∷ xs) ys h = inr (among_right s xs ys h)

module _ (d : Definition) (sigs : List InitSig) where
  abbrev N : ℕ
  N = above d.places.sites

  abbrev M : ℕ
  M = length d.places.vars

  abbrev some_slots : List Slot
  some_slots = map of_var (count_up N 0) ++ map of_start (count_up M 0)

  fed_var : (k : ℕ) (c : Bool) → nat_lt k N ≡ c → (Among (of_var k) some_slots) ⊎ (flow.fed d sigs (of_var k) ≡ [])
  fed_var k true e = inl (among_left (of_var k) (map of_var (count_up N 0)) (map of_start (count_up M 0)) (among_map of_var k N 0 (omega arith) (grind (arith, e))))
  fed_var k false e = inr (ap (flow.sites_flow d sigs) (no_sites k d.places.sites (grind (arith, e))))

  fed_start : (k : ℕ) (c : Bool) → nat_lt k M ≡ c → (Among (of_start k) some_slots) ⊎ (flow.fed d sigs (of_start k) ≡ [])
  fed_start k true e = inl (among_right (of_start k) (map of_var (count_up N 0)) (map of_start (count_up M 0)) (among_map of_start k M 0 (omega arith) (grind (arith, e))))
  fed_start k false e = inr (ap (flow.initial_flow d sigs) (no_nth d.places.vars k (grind (arith, e))))

  fed_slot : (s : Slot) → (Among s some_slots) ⊎ (flow.fed d sigs s ≡ [])
  fed_slot (of_param k) = inr refl
  fed_slot (of_var k) = fed_var k (nat_lt k N) refl
  fed_slot (of_start k) = fed_start k (nat_lt k M) refl

  pub finite : Finite (system d sigs)
  finite = (some_slots, fed_slot)

  given : (p : ℕ → Bool) → ((A : Bits) × Assigned d sigs p A) → (A : Bits) × graph.Obeys (system d sigs) p A
  given p o = (o.0, to_graph d sigs o.0 p o.1)

  taken : (p : ℕ → Bool) → ((A : Bits) × graph.Obeys (system d sigs) p A) → (A : Bits) × Assigned d sigs p A
  taken p o = (o.0, from_graph d sigs o.0 p o.1)

  results : (p : ℕ → Bool) → ((A : Bits) → Assigned d sigs p A → bits.result_bit d sigs A ≡ true) → (A : Bits) → graph.Obeys (system d sigs) p A → some A (system d sigs).result ≡ true
  results p f A o = sym (result_is d sigs A) ∙ f A (from_graph d sigs A p o)

  results_back : (p : ℕ → Bool) → ((A : Bits) → graph.Obeys (system d sigs) p A → some A (system d sigs).result ≡ true) → (A : Bits) → Assigned d sigs p A → bits.result_bit d sigs A ≡ true
  results_back p f A o = result_is d sigs A ∙ f A (to_graph d sigs A p o)

pub initialised_by_flow : InitialisedByFlow
initialised_by_flow d sigs = let s = initialised_is (system d sigs) (finite d sigs) in
    (λ o. s.0 (given d sigs none o), λ f. taken d sigs none (s.1 f))

pub may_by_flow : MayByFlow
may_by_flow d sigs i = let s = may_is (system d sigs) (finite d sigs) i in
    (λ o. s.0 (given d sigs (alone i) o), λ f. taken d sigs (alone i) (s.1 f))

pub own_by_flow : OwnByFlow
own_by_flow d sigs o = let s = own_is (system d sigs) (finite d sigs) (given d sigs none o) in
    (λ f. s.0 (results d sigs none f), λ g. results_back d sigs none (s.1 g))

pub reaches_by_flow : ReachesByFlow
reaches_by_flow d sigs i = let s = reaches_is (system d sigs) (finite d sigs) i in (
  λ f. let r = s.0 (given d sigs (alone i) f.0, results d sigs (alone i) f.1) in (f.0, r.1),
  λ f. let r = s.1 (given d sigs (alone i) f.0, f.1) in (f.0, results_back d sigs (alone i) r.1),
)

pub several_by_flow : SeveralByFlow
several_by_flow d sigs o p m =
    let s = several_parameters (system d sigs) (finite d sigs) (given d sigs none o) p (λ k e. given d sigs (alone k) (m k e)) in (
      s.0,
      from_graph d sigs s.0 p s.1,
      λ e. elim (s.2 (sym (result_is d sigs s.0) ∙ e)) [
        | inl f ↦ inl (results_back d sigs none f)
        | inr f ↦ inr (f.0, f.1, (taken d sigs (alone f.0) f.2.0, results_back d sigs (alone f.0) f.2.1))
      ],
    )

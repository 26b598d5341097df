-- A body that is causal by the rules is causal in the model.
use Rattle.std.specs.Prelude.{◌≡◌, refl, ℕ, zero, suc, ◌+◌, ◌-◌, ◌<◌, ◌≤◌, ◌⊎◌, nat_lt, Bool, true, false, List, [], ◌∷◌, ◌++◌, map, length, Option, Some, None, if◌then◌else◌}
use Rattle.std.proofs.Common.{ap, ap₂, subst, arith, inl, inr}
use Rattle.ls_terms.specs.declared.clocks.ClockTerm.{ClockTerm}
use Rattle.ls_places.specs.Patterns.{joined}
use Rattle.ls_places.specs.Places.{Place, InnerArm, arms}
use Rattle.ls_places.specs.declared.places.Frame.TheVariants as frame
use Rattle.ls_places.specs.declared.places.Named.{Named}
use Rattle.ls_places.specs.declared.places.Named.TheVariants as named
use Rattle.ls_places.specs.declared.places.Right.{Right}
use Rattle.ls_places.specs.declared.places.Right.TheVariants as rhs
use Rattle.ls_places.specs.declared.places.Site.{Site}
use Rattle.ls_places.specs.declared.places.Start.{Start}
use Rattle.ls_places.specs.declared.places.Transition.{Transition}
use Rattle.ls_places.specs.declared.places.Variable.{Variable}
use Rattle.ls_places.specs.declared.definition.Key.{Key}
use Rattle.ls_places.specs.declared.definition.Key.TheVariants as key
use Rattle.ls_places.specs.declared.definition.Definition.{Definition}
use Rattle.ls_places.specs.Clocks.{bare, noted, or_else}
use Rattle.ls_places.specs.Search.{E, all_clocks, clock_of_param, nth, lacks, mode_clock, sites_of, start_of, signal_arms, signal_at, count_up, tested_outside, whole_of}
use Rattle.ls_places.specs.Patterns.{has_name}
use Rattle.kahn_model.specs.Reads
use Rattle.kahn_model.specs.Reads.{Shape, Needs, arm_keys, around_keys, start_keys, nothing}
use Rattle.kahn_model.specs.Fullness.{All, HasKey}
use Rattle.kahn_model.specs.Table.{row_keys, same_key}
use Rattle.kahn_model.proofs.Filling.{eqb_same}
use Rattle.kahn_model.specs.Causality.{Causal}
use Rattle.digraph.specs.Graph.{In, first, later}
use Rattle.digraph.specs.Numbering.{Rising}
use Rattle.causality_rules.specs.Reads as rules
use Rattle.causality_rules.specs.Reads.{place_rows, start_rows}
use Rattle.causality_links.specs.Close as close
use Rattle.causality_links.specs.Close.{Sub, Each, Close, Scoped, Near, of_wide}
use Rattle.causality_links.proofs.Lists.{none_in, in_cons, in_left, in_right, in_split, Or, or_none}
use Rattle.causality_links.proofs.ClockReads.{clock_split, here_sub}
use Rattle.causality_links.proofs.Rules.{same_rows}
use Rattle.causality_links.proofs.Link.{reading_into}

pub sub_append : (xs ys zs : List Key) → Sub xs zs → Sub ys zs → Sub (xs ++ ys) zs
sub_append xs ys zs f g l h = elim (in_split l xs ys h) [ inl a ↦ f l a | inr a ↦ g l a ]

pub sub_none : (zs : List Key) → Sub [] zs
sub_none zs l h = absurd (none_in h)

pub around_same : (p : Place) → around_keys p ≡ place_rows p
around_same [] = refl
around_same (frame.Reset r ∷ p) = ap (λ z. key.Reset r ∷ z) (around_same p)
around_same (frame.Arm m j ∷ p) = ap (λ z. key.Name m ∷ z) (around_same p)

pub arms_sub : (p : Place) → Sub (arm_keys (arms p)) (place_rows p)
arms_sub [] l h = h
arms_sub (frame.Reset r ∷ p) l h = later (key.Reset r) (place_rows p) (arms_sub p l h)
arms_sub (frame.Arm m j ∷ p) l h = elim (in_cons l (key.Name m) (arm_keys (arms p)) h) [
  | inl e ↦ subst (λ z. In z (key.Name m ∷ place_rows p)) e (first (place_rows p))
  | inr g ↦ later (key.Name m) (place_rows p) (arms_sub p l g)
]

-- ---- the rows of blocks

has_split : (k : Key) (xs ys : List Key) → HasKey k (xs ++ ys) → HasKey k xs ⊎ HasKey k ys
has_split k [] ys h = inr h
has_split k (x ∷ xs) ys (inl e) = inl (inl e)
has_split k (x ∷ xs) ys (inr h) = elim (has_split k xs ys h) [ inl g ↦ inl (inr g) | inr g ↦ inr g ]

no_name : (f : ℕ → Key) (m : ℕ) → ((x : ℕ) → same_key (f x) (key.Name m) ≡ true → ⊥) → (ns : List ℕ) → HasKey (key.Name m) (map f ns) → ⊥
no_name f m g [] h = h
no_name f m g (n ∷ ns) (inl e) = g n e
no_name f m g (n ∷ ns) (inr h) = no_name f m g ns h

false_true : false ≡ true → ⊥
false_true e = absurd (cc)

from_first : (m n j : ℕ) → HasKey (key.Name m) (map key.Name (count_up n j)) → j ≤ m
from_first m zero j h = absurd h
from_first m (suc n) j (inl e) = let q = eqb_same j m e in omega (arith, q)
from_first m (suc n) j (inr h) = omega (arith, from_first m n (suc j) h)

-- a row of a block is no parameter
pub block_name : (d : Definition) (m : ℕ) → HasKey (key.Name m) (row_keys d) → nat_lt m (length d.params) ≡ false
block_name d m h =
    let vs : List Key = map key.Var (count_up (length d.places.vars) 0) in
    let ss : List Key = map key.Start (count_up (length d.places.vars) 0) in
    let ns : List Key = map key.Name (count_up (length d.places.names) (length d.params)) in
    let rs : List Key = map key.Reset (count_up (length d.places.resets) 0) in
    elim (has_split (key.Name m) (vs ++ ss ++ ns) rs h) [
      | inr g ↦ absurd (no_name key.Reset m (λ x. false_true) (count_up (length d.places.resets) 0) g)
      | inl g ↦ elim (has_split (key.Name m) (vs ++ ss) ns g) [
        | inr f ↦ let l = from_first m (length d.places.names) (length d.params) f in grind (arith, l)
        | inl f ↦ elim (has_split (key.Name m) vs ss f) [
          | inl a ↦ absurd (no_name key.Var m (λ x. false_true) (count_up (length d.places.vars) 0) a)
          | inr a ↦ absurd (no_name key.Start m (λ x. false_true) (count_up (length d.places.vars) 0) a)
        ]
      ]
    ]

module _ (d : Definition) (shapes : List Shape) where
  -- ---- expressions

  abbrev at : Place → E → List Key
  at p e = place_rows p ++ rules.read_by d e

  or_sub : (p : Place) (e : E) → Near d p e → (xs : List Key) → Or xs (close.wide d e).rows (close.wide d e).more → Sub xs (at p e)
  or_sub p e n xs f l h = elim (f l h) [
    | inl a ↦ in_right l (place_rows p) (rules.read_by d e) (subst (λ z. In l z) (same_rows d e) a)
    | inr a ↦ in_left l (place_rows p) (rules.read_by d e) (n l a)
  ]

  around_sub : (p : Place) (zs : List Key) → Sub (place_rows p) zs → Sub (around_keys p) zs
  around_sub p zs f l h = f l (subst (λ z. In l z) (around_same p) h)

  place_sub : (p : Place) (e : E) → Sub (place_rows p) (at p e)
  place_sub p e l h = in_left l (place_rows p) (rules.read_by d e) h

  needs_sub : (p : Place) (e : E) → Near d p e → Sub (Reads.needs_at d shapes p e).now (at p e)
  needs_sub p e n = sub_append (around_keys p) (Reads.reading d shapes e).needs.now (at p e) (around_sub p (at p e) (place_sub p e))
      (or_sub p e n (Reads.reading d shapes e).needs.now (reading_into d shapes e).1)

  clock_sub : (p : Place) (e : E) → Near d p e → Sub (Reads.clock_keys d shapes (Reads.reading d shapes e).note.ck) (at p e)
  clock_sub p e n = or_sub p e n (Reads.clock_keys d shapes (Reads.reading d shapes e).note.ck) (reading_into d shapes e).2

  whole_sub : Close d → (k : ℕ) → Sub (Reads.whole_needs d shapes k).now (rules.whole_rows d k)
  whole_sub c k = needs_sub (whole_of d k).place (whole_of d k).expr (c.wholes k)

  -- the clock of a whole expression, or without the arms between
  clock_in_whole : Close d → (n k : ℕ) → Sub (Reads.clock_keys d shapes (bare n (whole_of d k).expr.note.ck)) (rules.whole_rows d k)
  clock_in_whole c n k l h = clock_sub (whole_of d k).place (whole_of d k).expr (c.wholes k) l (here_sub d shapes n (whole_of d k).expr l h)

  -- ---- variables

  signal_same : (o : Option ℕ) → Reads.signal_keys_of d shapes o ≡ rules.signal_rows_of d o
  signal_same None = refl
  signal_same (Some k) = refl

  abbrev site_rows : Site → List Key
  site_rows s = place_rows s.place ++ rules.right_rows d s.place s.right

  right_sub : Close d → (s : Site) (r : Right) → Sub (Reads.right_needs d shapes s.place r).now (place_rows s.place ++ rules.right_rows d s.place r)
  right_sub c s (rhs.Part pat k) = λ l h. in_right l (place_rows s.place) (rules.whole_rows d k) (whole_sub c k l h)
  right_sub c s (rhs.Whole k) = λ l h. in_right l (place_rows s.place) (rules.whole_rows d k) (whole_sub c k l h)
  right_sub c s (rhs.Pattern y pat) = λ l h. in_right l (place_rows s.place) (rules.signal_rows d s.place y) (subst (λ z. In l z) (signal_same (signal_at d y (arms s.place))) h)

  right_clock_sub : Close d → (s : Site) (r : Right) → Sub (Reads.right_clock_keys d shapes s r) (place_rows s.place ++ rules.right_rows d s.place r)
  right_clock_sub c s (rhs.Part pat k) l h = in_right l (place_rows s.place) (rules.whole_rows d k) (clock_in_whole c (length s.inner) k l h)
  right_clock_sub c s (rhs.Whole k) l h = in_right l (place_rows s.place) (rules.whole_rows d k) (clock_in_whole c (length s.inner) k l h)
  right_clock_sub c s (rhs.Pattern y pat) l h = in_left l (place_rows s.place) (rules.signal_rows d s.place y) (arms_sub s.place l h)

  first_rows : (s : Site) (all : List Site) → Sub (site_rows s) (rules.sites_rows d (s ∷ all))
  first_rows s all l h = elim (in_split l (place_rows s.place) (rules.right_rows d s.place s.right) h) [
    | inl a ↦ in_left l (place_rows s.place) (rules.right_rows d s.place s.right ++ rules.sites_rows d all) a
    | inr a ↦ in_right l (place_rows s.place) (rules.right_rows d s.place s.right ++ rules.sites_rows d all) (in_left l (rules.right_rows d s.place s.right) (rules.sites_rows d all) a)
  ]

  rest_rows : (s : Site) (all : List Site) → Sub (rules.sites_rows d all) (rules.sites_rows d (s ∷ all))
  rest_rows s all l h = in_right l (place_rows s.place) (rules.right_rows d s.place s.right ++ rules.sites_rows d all) (in_right l (rules.right_rows d s.place s.right) (rules.sites_rows d all) h)

  site_clock_sub : Close d → (all : List Site) → Sub (Reads.site_clock_keys d shapes (nth all 0)) (rules.sites_rows d all)
  site_clock_sub c [] l h = h
  site_clock_sub c (s ∷ all) l h = first_rows s all l (right_clock_sub c s s.right l h)

  abbrev InnerNear : Site → Type 0
  InnerNear s = Sub (arm_keys s.inner) (place_rows s.place)

  site_sub : Close d → (s : Site) (inner : List InnerArm) (more : Needs) (zs : List Key) → Sub (arm_keys inner) (place_rows s.place)
      → Sub (site_rows s) zs → Sub more.now zs → Sub (Reads.site_needs d shapes inner (Reads.right_needs d shapes s.place s.right) more).now zs
  site_sub c s [] more zs i f g = λ l h. f l (right_sub c s s.right l h)
  site_sub c s (mj ∷ inner) more zs i f g = sub_append (arm_keys (mj ∷ inner) ++ (Reads.right_needs d shapes s.place s.right).now) more.now zs
      (sub_append (arm_keys (mj ∷ inner)) (Reads.right_needs d shapes s.place s.right).now zs
      (λ l h. f l (in_left l (place_rows s.place) (rules.right_rows d s.place s.right) (i l h))) (λ l h. f l (right_sub c s s.right l h))) g

  sites_sub : Close d → (all : List Site) (more : Needs) (zs : List Key) → Each InnerNear all → Sub (rules.sites_rows d all) zs → Sub more.now zs → Sub (Reads.sites_needs d shapes more all).now zs
  sites_sub c [] more zs n f g = g
  sites_sub c (s ∷ all) more zs n f g = site_sub c s s.inner (Reads.sites_needs d shapes more all) zs n.0 (λ l h. f l (first_rows s all l h))
      (sites_sub c all more zs n.1 (λ l h. f l (rest_rows s all l h)) g)

  start_same : (x : ℕ) (s : Option Start) → start_keys x s ≡ start_rows x s
  start_same x None = refl
  start_same x (Some s) = refl

  otherwise_sub : (x : ℕ) (w : Variable) (s t : Bool) (zs : List Key) → Sub (place_rows w.place) zs
      → Sub (if s then [] else (if t then start_rows x (start_of w d.places.starts) else [])) zs
      → Sub (if s then nothing else (if t then Reads.last_needs_of d shapes x (Some w) else nothing)).now zs
  otherwise_sub x w true t zs f g = sub_none zs
  otherwise_sub x w false false zs f g = sub_none zs
  otherwise_sub x w false true zs f g = sub_append (around_keys w.place) (start_keys x (start_of w d.places.starts)) zs (around_sub w.place zs f)
      (λ l h. g l (subst (λ z. In l z) (start_same x (start_of w d.places.starts)) h))

  each_site : (t : Bool) (s : Site) (all : List Site) → InnerNear s → Each InnerNear all → Each InnerNear (if t then s ∷ all else all)
  each_site true s all p q = (p, q)
  each_site false s all p q = q

  each_sites : (x : ℕ) (all : List Site) → Each InnerNear all → Each InnerNear (sites_of x all)
  each_sites x [] n = tt
  each_sites x (s ∷ all) n = each_site (has_name x s.vars) s (sites_of x all) n.0 (each_sites x all n.1)

  variable_sub : Close d → (x : ℕ) (w : Option Variable) → Sub (Reads.variable_needs d shapes x w).now (rules.variable_rows d x w)
  variable_sub c x None = sub_none []
  variable_sub c x (Some w) =
      let sites : List Site = sites_of x d.places.sites in
      let near : Each InnerNear sites = each_sites x d.places.sites c.inner in
      let rows : List Key = rules.variable_rows d x (Some w) in
      let last_part : Sub (rules.sites_rows d sites) rows = λ l h. in_right l (place_rows w.place) (rules.missing_rows d x w ++ rules.sites_rows d sites) (in_right l (rules.missing_rows d x w) (rules.sites_rows d sites) h) in
      sub_append (Reads.variable_clock_keys d shapes x) (Reads.sites_needs d shapes (Reads.otherwise_needs d shapes x w) sites).now rows
      (λ l h. last_part l (site_clock_sub c sites l h))
      (sites_sub c sites (Reads.otherwise_needs d shapes x w) rows near last_part
      (otherwise_sub x w w.signal (lacks d sites) rows (λ l h. in_left l (place_rows w.place) (rules.missing_rows d x w ++ rules.sites_rows d sites) h)
      (λ l h. in_right l (place_rows w.place) (rules.missing_rows d x w ++ rules.sites_rows d sites) (in_left l (rules.missing_rows d x w) (rules.sites_rows d sites) h))))

  -- ---- initial equations

  start_sub : Close d → (p : Place) (o : Option Start) → Sub (Reads.start_needs d shapes o).now (rules.start_of_rows d p o)
  start_sub c p None = sub_none []
  start_sub c p (Some s) = λ l h. in_right l (rules.reset_rows p) (rules.whole_rows d s.right) (whole_sub c s.right l h)

  initial_sub : Close d → (w : Option Variable) → Sub (Reads.variable_start_needs d shapes w).now (rules.initial_rows d w)
  initial_sub c None = sub_none []
  initial_sub c (Some w) = start_sub c w.place (start_of w d.places.starts)

  -- ---- blocks

  -- the clock of a signal
  right_signal : (s : Site) (r : Right) → Or (Reads.right_clock_keys d shapes s r) (rules.right_clock d s r) (close.right_more d s r)
  right_signal s (rhs.Part pat k) = clock_split d shapes (bare (length s.inner) (whole_of d k).expr.note.ck)
  right_signal s (rhs.Whole k) = clock_split d shapes (bare (length s.inner) (whole_of d k).expr.note.ck)
  right_signal s (rhs.Pattern y pat) = λ l h. inr h

  site_signal : (o : Option Site) → Or (Reads.site_clock_keys d shapes o) (rules.site_clock d o) (close.site_more d o)
  site_signal None = or_none [] []
  site_signal (Some s) = right_signal s s.right

  some_signal : (o : Option ClockTerm) → Or (Reads.some_clock_keys d shapes o) (rules.some_clock d o) (close.some_more d o)
  some_signal None = or_none [] []
  some_signal (Some ck) = clock_split d shapes ck

  signal_split : (x : ℕ) (o : Option ℕ) → Or (Reads.signal_clock_keys d shapes x o) (rules.signal_clock d x o) (close.signal_more d x o)
  signal_split x (Some k) = site_signal (nth (sites_of k d.places.sites) 0)
  signal_split x None = some_signal (clock_of_param d x)

  here_sub_signal : (p : Place) (x : ℕ) → close.SignalNear d p x → (zs : List Key) → Sub (place_rows p) zs → Sub (rules.signal_clock d x (signal_at d x (arms p))) zs
      → Sub (Reads.signal_here_keys d shapes x (arms p)) zs
  here_sub_signal p x n zs f g = sub_append (Reads.signal_clock_keys d shapes x (signal_at d x (arms p))) (arm_keys (signal_arms d x (arms p))) zs
      (λ l h. elim (signal_split x (signal_at d x (arms p)) l h) [ inl a ↦ g l a | inr a ↦ f l (n.0 l a) ])
      (λ l h. f l (n.1 l h))

  abbrev tested : Option ℕ → Place → List Key
  tested o p = rules.tested_clock d o p

  mode_sub : (p : Place) (o : Option ClockTerm) (t : Option ℕ) → close.ModeNear d p o t → (zs : List Key) → Sub (place_rows p) zs → Sub (rules.some_clock d o) zs → Sub (tested t p) zs
      → Sub (Reads.mode_keys_of d shapes o t p) zs
  mode_sub p None None n zs f g k = λ l h. f l (arms_sub p l h)
  mode_sub p None (Some x) n zs f g k = here_sub_signal p x n zs f k
  mode_sub p (Some ck) t n zs f g k = λ l h. elim (clock_split d shapes ck l h) [ inl a ↦ g l a | inr a ↦ f l (n l a) ]

  -- the first of two clocks is one of them
  or_else_sub : (o q : Option ClockTerm) (zs : List Key) → Sub (rules.some_clock d o) zs → Sub (rules.some_clock d q) zs → Sub (rules.some_clock d (or_else o q)) zs
  or_else_sub None q zs f g = g
  or_else_sub (Some ck) q zs f g = f

  abbrev noted_rows : ℕ → List Key
  noted_rows m = rules.some_clock d (noted m (all_clocks d.places.exprs))

  modes_sub : (m : ℕ) (p : Place) → close.ModeNear d p (mode_clock m d.places.exprs) (tested_outside d m) → (zs : List Key) → Sub (place_rows p) zs → Sub (rules.mode_rows d m p) zs
      → Sub (Reads.mode_keys d shapes m p) zs
  modes_sub m p n zs f g = mode_sub p (mode_clock m d.places.exprs) (tested_outside d m) n zs f
      (or_else_sub (noted m (all_clocks d.places.exprs)) (noted (m + 1) (all_clocks d.places.exprs)) zs
      (λ l h. g l (in_left l (noted_rows m) (noted_rows (m + 1) ++ tested (tested_outside d m) p) h))
      (λ l h. g l (in_right l (noted_rows m) (noted_rows (m + 1) ++ tested (tested_outside d m) p) (in_left l (noted_rows (m + 1)) (tested (tested_outside d m) p) h))))
      (λ l h. g l (in_right l (noted_rows m) (noted_rows (m + 1) ++ tested (tested_outside d m) p) (in_right l (noted_rows (m + 1)) (tested (tested_outside d m) p) h)))

  present_sub : (p : Place) (xs : List ℕ) → close.PresentNear d p xs → (zs : List Key) → Sub (place_rows p) zs → Sub (rules.present_clock d xs p) zs → Sub (Reads.present_keys d shapes xs p) zs
  present_sub p [] n zs f g = λ l h. f l (arms_sub p l h)
  present_sub p (x ∷ xs) n zs f g = here_sub_signal p x n zs f g

  signals_sub : (p : Place) (xs : List ℕ) → joined (map (Reads.signal_keys d shapes p) xs) ≡ joined (map (rules.signal_rows d p) xs)
  signals_sub p [] = refl
  signals_sub p (x ∷ xs) = ap₂ (λ (u : List Key) v. u ++ v) (signal_same (signal_at d x (arms p))) (signals_sub p xs)

  guards_sub : Close d → (gs : List Transition) (zs : List Key) → Sub (rules.guard_rows d gs) zs → Sub (Reads.transitions_needs d shapes gs).now zs
  guards_sub c [] zs g = sub_none zs
  guards_sub c (t ∷ gs) zs g = sub_append (Reads.whole_needs d shapes t.cond).now (Reads.transitions_needs d shapes gs).now zs
      (λ l h. g l (in_left l (rules.whole_rows d t.cond) (rules.guard_rows d gs) (whole_sub c t.cond l h)))
      (guards_sub c gs zs (λ l h. g l (in_right l (rules.whole_rows d t.cond) (rules.guard_rows d gs) h)))

  states_sub : Close d → (all : List (ℕ × List Transition)) (zs : List Key) → Sub (rules.state_rows d all) zs → Sub (Reads.guards_needs d shapes all).now zs
  states_sub c [] zs g = sub_none zs
  states_sub c (s ∷ all) zs g = sub_append (Reads.transitions_needs d shapes s.1).now (Reads.guards_needs d shapes all).now zs
      (guards_sub c s.1 zs (λ l h. g l (in_left l (rules.guard_rows d s.1) (rules.state_rows d all) h)))
      (states_sub c all zs (λ l h. g l (in_right l (rules.guard_rows d s.1) (rules.state_rows d all) h)))

  name_sub : Close d → (m : ℕ) (o : Option Named) → close.NameNear d m o → Sub (Reads.name_needs d shapes m o).now (rules.block_rows d m o)
  name_sub c m None n = sub_none []
  name_sub c m (Some (named.Clock x)) n = sub_none []
  name_sub c m (Some (named.Match k all p)) n = λ l h. elim (in_split l (Reads.clock_keys d shapes (whole_of d k).expr.note.ck) (Reads.whole_needs d shapes k).now h) [
    | inl a ↦ in_right l (place_rows p) (rules.whole_rows d k) (clock_in_whole c 0 k l a)
    | inr a ↦ in_right l (place_rows p) (rules.whole_rows d k) (whole_sub c k l a)
  ]
  name_sub c m (Some (named.Present xs p)) n =
      let ss : List Key = joined (map (rules.signal_rows d p) xs) in
      let zs : List Key = place_rows p ++ (rules.present_clock d xs p ++ ss) in
      sub_append (Reads.present_keys d shapes xs p) (joined (map (Reads.signal_keys d shapes p) xs)) zs
      (present_sub p xs n zs (λ l h. in_left l (place_rows p) (rules.present_clock d xs p ++ ss) h)
      (λ l h. in_right l (place_rows p) (rules.present_clock d xs p ++ ss) (in_left l (rules.present_clock d xs p) ss h)))
      (λ l h. in_right l (place_rows p) (rules.present_clock d xs p ++ ss) (in_right l (rules.present_clock d xs p) ss (subst (λ z. In l z) (signals_sub p xs) h)))
  name_sub c m (Some (named.Active states p)) n =
      let back : List Key = rules.mode_rows d m p ++ rules.state_rows d states in
      let zs : List Key = key.Name (m + 1) ∷ (place_rows p ++ back) in
      sub_append (Reads.mode_keys d shapes m p ++ key.Name (m + 1) ∷ []) (Reads.guards_needs d shapes states).now zs
      (sub_append (Reads.mode_keys d shapes m p) (key.Name (m + 1) ∷ []) zs
      (modes_sub m p n zs (λ l h. later (key.Name (m + 1)) (place_rows p ++ back) (in_left l (place_rows p) back h))
      (λ l h. later (key.Name (m + 1)) (place_rows p ++ back) (in_right l (place_rows p) back (in_left l (rules.mode_rows d m p) (rules.state_rows d states) h))))
      (λ l h. elim (in_cons l (key.Name (m + 1)) [] h) [ inl e ↦ subst (λ z. In z zs) e (first (place_rows p ++ back)) | inr b ↦ absurd (none_in b) ]))
      (states_sub c states zs (λ l h. later (key.Name (m + 1)) (place_rows p ++ back) (in_right l (place_rows p) back (in_right l (rules.mode_rows d m p) (rules.state_rows d states) h))))
  name_sub c m (Some (named.Tested states p)) n =
      let zs : List Key = place_rows p ++ rules.mode_rows d (m - 1) p in
      let around : Sub (place_rows p) zs = λ l h. in_left l (place_rows p) (rules.mode_rows d (m - 1) p) h in
      sub_append (Reads.mode_keys d shapes (m - 1) p ++ around_keys p) [] zs
      (sub_append (Reads.mode_keys d shapes (m - 1) p) (around_keys p) zs
      (modes_sub (m - 1) p n zs around (λ l h. in_right l (place_rows p) (rules.mode_rows d (m - 1) p) h)) (around_sub p zs around)) (sub_none zs)

  -- ---- conditions

  reset_sub : Close d → (o : Option ℕ) → Sub (Reads.reset_needs d shapes o).now (rules.condition_rows d o)
  reset_sub c None = sub_none []
  reset_sub c (Some k) = whole_sub c k

  named_sub : (m : ℕ) (t : Bool) → t ≡ false → (xs ys : List Key) → Sub xs ys → Sub xs (if t then [] else ys)
  named_sub m true e xs ys f = absurd (cc)
  named_sub m false e xs ys f = f

  -- what a row of the model reads at once is read by the rules
  pub key_sub : Close d → (k : Key) → HasKey k (row_keys d) → Sub (Reads.key_needs d shapes k).now (rules.reads d k)
  key_sub c (key.Var x) h = variable_sub c x (nth d.places.vars x)
  key_sub c (key.Start x) h = initial_sub c (nth d.places.vars x)
  key_sub c (key.Name m) h = named_sub m (nat_lt m (length d.params)) (block_name d m h) (Reads.name_needs d shapes m (nth d.places.names (m - length d.params))).now
      (rules.block_rows d m (nth d.places.names (m - length d.params))) (name_sub c m (nth d.places.names (m - length d.params)) (c.names m))
  key_sub c (key.Reset r) h = reset_sub c (nth d.places.resets r)

  -- ---- causality

  all_ranks : (rank : Key → ℕ) (top : ℕ) (xs : List Key) → ((l : Key) → In l xs → rank l < top) → All (λ l. HasKey l (row_keys d)) xs → All (λ l. HasKey l (row_keys d) × (rank l < top)) xs
  all_ranks rank top [] f h = tt
  all_ranks rank top (l ∷ xs) f h = ((h.0, f l (first xs)), all_ranks rank top xs (λ k i. f k (later l xs i)) h.1)

  -- a numbering that rises along the reads of the rules makes the body causal in the model
  pub causal_body : Close d → Scoped d shapes → (rank : Key → ℕ) → Rising (rules.reads d) rank → Causal d shapes
  causal_body c s rank r = record {
    rank = rank;
    rows = λ k h. record {
      now = all_ranks rank (rank k) (Reads.key_needs d shapes k).now (λ l i. r k l (key_sub c k h l i)) (s.rows k h).now;
      before = (s.rows k h).before;
    };
    exprs = s.exprs;
    result = s.result;
  }

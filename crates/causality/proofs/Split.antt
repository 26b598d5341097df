-- What a row reads is read by its node at once or through a whole expression, and the other way round.
use Rattle.std.specs.Prelude.{ℕ, ◌+◌, ◌-◌, ◌⊎◌, nat_lt, Bool, true, false, List, [], ◌∷◌, ◌++◌, map, length, Option, Some, None, if◌then◌else◌}
use Rattle.std.proofs.Common.{subst, inl, inr}
use Rattle.ls_places.specs.Patterns.{joined}
use Rattle.ls_places.specs.Places.{Place}
use Rattle.ls_places.specs.Search.{nth, sites_of, start_of}
use Rattle.ls_places.specs.declared.definition.Definition.{Definition}
use Rattle.ls_places.specs.declared.definition.Key.{Key}
use Rattle.ls_places.specs.declared.definition.Key.TheVariants as key
use Rattle.ls_places.specs.declared.places.Named.{Named}
use Rattle.ls_places.specs.declared.places.Named.TheVariants as named
use Rattle.ls_places.specs.declared.places.Right.{Right}
use Rattle.ls_places.specs.declared.places.Right.TheVariants as rhs
use Rattle.ls_places.specs.declared.places.Site.{Site}
use Rattle.ls_places.specs.declared.places.Start.{Start}
use Rattle.ls_places.specs.declared.places.Transition.{Transition}
use Rattle.ls_places.specs.declared.places.Variable.{Variable}
use Rattle.digraph.specs.Graph.{In, Same, first}
use Rattle.digraph.proofs.Marks.{none_in, in_left, in_right, in_either, in_cons}
use Rattle.causality_rules.specs.Reads as reads
use Rattle.causality_rules.specs.Reads.{missing_rows, mode_rows, place_rows, present_clock, reset_rows, signal_rows, whole_rows}
use Rattle.causality.specs.Rows as own

module _ (d : Definition) where
  -- at once, or through one of some whole expressions
  abbrev Either : List Key → List ℕ → Key → Type 0
  Either ks ws y = In y ks ⊎ ((k : ℕ) × In k ws × In y (whole_rows d k))

  abbrev Parts : List Key → List Key → List ℕ → Type 0
  Parts xs ks ws = (y : Key) → Same (In y xs) (Either ks ws y)

  of_keys : (ks : List Key) → Parts ks ks []
  of_keys ks y = (λ h. inl h, λ r. elim r [ inl h ↦ h | inr q ↦ absurd (none_in q.1) ])

  of_whole : (k : ℕ) → Parts (whole_rows d k) [] (k ∷ [])
  of_whole k y = (
    λ h. inr (k, first [], h),
    λ r. elim r [
      | inl h ↦ absurd (none_in h)
      | inr q ↦ elim (in_cons q.0 k [] q.1) [ inl e ↦ subst (λ z. In y (whole_rows d z)) e q.2 | inr n ↦ absurd (none_in n) ]
    ],
  )

  of_both : (xs ks ys ls : List Key) (ws vs : List ℕ) → Parts xs ks ws → Parts ys ls vs → Parts (xs ++ ys) (ks ++ ls) (ws ++ vs)
  of_both xs ks ys ls ws vs p q y = (
    λ h. elim (in_either y xs ys h) [
      | inl i ↦ elim ((p y).0 i) [ inl a ↦ inl (in_left y ks ls a) | inr b ↦ inr (b.0, in_left b.0 ws vs b.1, b.2) ]
      | inr i ↦ elim ((q y).0 i) [ inl a ↦ inl (in_right y ks ls a) | inr b ↦ inr (b.0, in_right b.0 ws vs b.1, b.2) ]
    ],
    λ r. elim r [
      | inl i ↦ elim (in_either y ks ls i) [ inl a ↦ in_left y xs ys ((p y).1 (inl a)) | inr a ↦ in_right y xs ys ((q y).1 (inl a)) ]
      | inr b ↦ elim (in_either b.0 ws vs b.1) [ inl a ↦ in_left y xs ys ((p y).1 (inr (b.0, a, b.2))) | inr a ↦ in_right y xs ys ((q y).1 (inr (b.0, a, b.2))) ]
    ],
  )

  -- some rows, and then more
  after_keys : (ks ys ls : List Key) (vs : List ℕ) → Parts ys ls vs → Parts (ks ++ ys) (ks ++ ls) vs
  after_keys ks ys ls vs q = of_both ks ks ys ls [] vs (of_keys ks) q

  -- some rows, and then what whole expressions read
  keys_and : (ks ys : List Key) (vs : List ℕ) → Parts ys [] vs → Parts (ks ++ ys) ks vs
  keys_and ks ys vs q y = (
    λ h. elim (in_either y ks ys h) [ inl i ↦ inl i | inr i ↦ elim ((q y).0 i) [ inl a ↦ absurd (none_in a) | inr b ↦ inr b ] ],
    λ r. elim r [ inl i ↦ in_left y ks ys i | inr b ↦ in_right y ks ys ((q y).1 (inr b)) ],
  )

  -- the same rows in other lists
  regrouped : (xs ks ls : List Key) (ws : List ℕ) → ((y : Key) → Same (In y ks) (In y ls)) → Parts xs ks ws → Parts xs ls ws
  regrouped xs ks ls ws s p y = (
    λ h. elim ((p y).0 h) [ inl i ↦ inl ((s y).0 i) | inr b ↦ inr b ],
    λ r. elim r [ inl i ↦ (p y).1 (inl ((s y).1 i)) | inr b ↦ (p y).1 (inr b) ],
  )

  -- ---- the rows

  right_parts : (p : Place) (r : Right) → Parts (reads.right_rows d p r) (own.right_keys d p r) (own.right_wholes r)
  right_parts p (rhs.Part pat k) = of_whole k
  right_parts p (rhs.Whole k) = of_whole k
  right_parts p (rhs.Pattern y pat) = of_keys (signal_rows d p y)

  assoc : (xs ys zs : List Key) (y : Key) → Same (In y (xs ++ (ys ++ zs))) (In y ((xs ++ ys) ++ zs))
  assoc xs ys zs y = (
    λ h. elim (in_either y xs (ys ++ zs) h) [
      | inl i ↦ in_left y (xs ++ ys) zs (in_left y xs ys i)
      | inr i ↦ elim (in_either y ys zs i) [ inl a ↦ in_left y (xs ++ ys) zs (in_right y xs ys a) | inr a ↦ in_right y (xs ++ ys) zs a ]
    ],
    λ h. elim (in_either y (xs ++ ys) zs h) [
      | inr i ↦ in_right y xs (ys ++ zs) (in_right y ys zs i)
      | inl i ↦ elim (in_either y xs ys i) [ inl a ↦ in_left y xs (ys ++ zs) a | inr a ↦ in_right y xs (ys ++ zs) (in_left y ys zs a) ]
    ],
  )

  sites_parts : (all : List Site) → Parts (reads.sites_rows d all) (own.sites_keys d all) (own.sites_wholes all)
  sites_parts [] = of_keys []
  sites_parts (s ∷ all) =
      let ps = place_rows s.place in
      let rk = own.right_keys d s.place s.right in
      let rest = own.sites_keys d all in
      regrouped (reads.sites_rows d (s ∷ all)) (ps ++ (rk ++ rest)) ((ps ++ rk) ++ rest) (own.sites_wholes (s ∷ all)) (assoc ps rk rest)
      (after_keys ps (reads.right_rows d s.place s.right ++ reads.sites_rows d all) (rk ++ rest) (own.sites_wholes (s ∷ all))
      (of_both (reads.right_rows d s.place s.right) rk (reads.sites_rows d all) rest (own.right_wholes s.right) (own.sites_wholes all) (right_parts s.place s.right) (sites_parts all)))

  variable_parts : (x : ℕ) (o : Option Variable) → Parts (reads.variable_rows d x o) (own.variable_keys d x o) (own.variable_wholes d x o)
  variable_parts x None = of_keys []
  variable_parts x (Some w) =
      let ps = place_rows w.place in
      let ms = missing_rows d x w in
      let all = sites_of x d.places.sites in
      let rest = own.sites_keys d all in
      regrouped (reads.variable_rows d x (Some w)) (ps ++ (ms ++ rest)) ((ps ++ ms) ++ rest) (own.sites_wholes all) (assoc ps ms rest)
      (after_keys ps (ms ++ reads.sites_rows d all) (ms ++ rest) (own.sites_wholes all) (after_keys ms (reads.sites_rows d all) rest (own.sites_wholes all) (sites_parts all)))

  started_parts : (p : Place) (o : Option Start) → Parts (reads.start_of_rows d p o) (own.started_keys d p o) (own.started_wholes o)
  started_parts p None = of_keys []
  started_parts p (Some s) = keys_and (reset_rows p) (whole_rows d s.right) (s.right ∷ []) (of_whole s.right)

  initial_parts : (o : Option Variable) → Parts (reads.initial_rows d o) (own.initial_keys d o) (own.initial_wholes d o)
  initial_parts None = of_keys []
  initial_parts (Some w) = started_parts w.place (start_of w d.places.starts)

  guards_parts : (all : List Transition) → Parts (reads.guard_rows d all) [] (own.guard_wholes all)
  guards_parts [] = of_keys []
  guards_parts (g ∷ gs) = of_both (whole_rows d g.cond) [] (reads.guard_rows d gs) [] (g.cond ∷ []) (own.guard_wholes gs) (of_whole g.cond) (guards_parts gs)

  states_parts : (all : List (ℕ × List Transition)) → Parts (reads.state_rows d all) [] (own.state_wholes all)
  states_parts [] = of_keys []
  states_parts (s ∷ all) = of_both (reads.guard_rows d s.1) [] (reads.state_rows d all) [] (own.guard_wholes s.1) (own.state_wholes all) (guards_parts s.1) (states_parts all)

  block_parts : (m : ℕ) (o : Option Named) → Parts (reads.block_rows d m o) (own.block_keys d m o) (own.block_wholes o)
  block_parts m None = of_keys []
  block_parts m (Some (named.Clock x)) = of_keys []
  block_parts m (Some (named.Match k all p)) = keys_and (place_rows p) (whole_rows d k) (k ∷ []) (of_whole k)
  block_parts m (Some (named.Present xs p)) = of_keys (place_rows p ++ (present_clock d xs p ++ joined (map (signal_rows d p) xs)))
  block_parts m (Some (named.Active states p)) =
      let ps = place_rows p in
      let ms = mode_rows d m p in
      let ss = reads.state_rows d states in
      let vs = own.state_wholes states in
      after_keys (key.Name (m + 1) ∷ []) (ps ++ (ms ++ ss)) (ps ++ ms) vs (after_keys ps (ms ++ ss) ms vs (keys_and ms ss vs (states_parts states)))
  block_parts m (Some (named.Tested states p)) = of_keys (place_rows p ++ mode_rows d (m - 1) p)

  name_parts : (m : ℕ) (t : Bool) (o : Option Named)
      → Parts (if t then [] else reads.block_rows d m o) (if t then [] else own.block_keys d m o) (if t then [] else own.block_wholes o)
  name_parts m true o = of_keys []
  name_parts m false o = block_parts m o

  condition_parts : (o : Option ℕ) → Parts (reads.condition_rows d o) [] (own.condition_wholes o)
  condition_parts None = of_keys []
  condition_parts (Some k) = of_whole k

  parts : (x : Key) → Parts (reads.reads d x) (own.keys d x) (own.wholes d x)
  parts (key.Var x) = variable_parts x (nth d.places.vars x)
  parts (key.Start x) = initial_parts (nth d.places.vars x)
  parts (key.Name m) = name_parts m (nat_lt m (length d.params)) (nth d.places.names (m - length d.params))
  parts (key.Reset r) = condition_parts (nth d.places.resets r)

  pub read_then : (x y : Key) → In y (reads.reads d x) → Either (own.keys d x) (own.wholes d x) y
  read_then x y = (parts x y).0

  pub key_read : (x y : Key) → In y (own.keys d x) → In y (reads.reads d x)
  key_read x y h = (parts x y).1 (inl h)

  pub whole_read : (x : Key) (k : ℕ) (y : Key) → In k (own.wholes d x) → In y (whole_rows d k) → In y (reads.reads d x)
  whole_read x k y i h = (parts x y).1 (inr (k, i, h))

-- No act reads a place that is not ready: that of an input or a constant, one that delays keep, or one that an act before it
-- writes, whether or not that act was done.
use Rattle.std.specs.Prelude.{◌≡◌, refl, ℕ, Bool as Truth, true, false, List, [], ◌∷◌, ◌++◌, map, if◌then◌else◌, ◌⊎◌}
use Rattle.std.specs.List.{flat_map}
use Rattle.std.proofs.Common.{ap, sym, ◌∙◌, subst, inl, inr}
use Rattle.ls_value.specs.declared.leaf.Leaf.{Leaf}
use Rattle.ls_value.specs.declared.leaf.Leaf.TheVariants.{Nil, Int, Bool, Char, Text, Enum, Unit as Nothing}
use Rattle.core_lang.specs.declared.equations.CoreEq.{CoreEq}
use Rattle.core_lang.specs.declared.equations.CoreRight.{CoreRight}
use Rattle.core_lang.specs.declared.equations.CoreRight.TheVariants.{Const, Copy, Op, Pre, Fby, Init, Sample, Choose}
use Rattle.compile_rules.specs.declared.places.Place.{Place}
use Rattle.compile_rules.specs.declared.places.Place.TheVariants.{Value as value, Memory as memory, First as first, Guard as guard, Present as present, Emitted as emitted}
use Rattle.compile_rules.specs.declared.places.Act.{Act}
use Rattle.compile_rules.specs.declared.places.Act.TheVariants.{Put as put, Copy as copy, Operate as operate, Test as test}
use Rattle.compile_rules.specs.Scheme.{Guarded, guard_of, path, Plan, only, tests, restart_acts, right_acts, remembers, equation_acts, kept, update_acts, clear_acts, step_acts, dest, keeps_leaf, leads}
use Rattle.core_lang.specs.Orders.{AllOf, Has}
use Rattle.compile_rules.specs.Plans.{Agrees, AreBranches, AreOperands, ArePlanned, AreRestarts, HasLeaf, IsAsked, IsClock, IsKept, IsOrderedCore, IsPlanned, grown}

abbrev pub sources : Act → List Place
sources (put d leaf) = []
sources (copy d a) = a ∷ []
sources (operate d op args) = args
sources (test d a leaf) = a ∷ []

module _ (Ready : Place → Type 0) where
  -- the place is ready from the start, or has been written
  abbrev pub IsReady : List Place → Place → Type 0
  IsReady [] p = Ready p
  IsReady (d ∷ done) p = (d ≡ p) ⊎ IsReady done p

  abbrev pub AreReady : List Place → List Place → Type 0
  AreReady done [] = Unit {0}
  AreReady done (p ∷ ps) = IsReady done p × AreReady done ps

  -- each act reads what is ready, its guards among it
  abbrev pub ActsReady : List Place → List Guarded → Type 0
  ActsReady done [] = Unit {0}
  ActsReady done (act ∷ rest) = AreReady done act.0 × AreReady done (sources act.1) × ActsReady (dest act.1 ∷ done) rest

  -- what has been written after acts
  abbrev pub wrote : List Place → List Guarded → List Place
  wrote done [] = done
  wrote done (act ∷ rest) = wrote (dest act.1 ∷ done) rest

  pub stays_ready : (acts : List Guarded) (done : List Place) (p : Place) → IsReady done p → IsReady (wrote done acts) p
  stays_ready [] done p h = h
  stays_ready (act ∷ rest) done p h = stays_ready rest (dest act.1 ∷ done) p (inr h)

  pub ready_append : (xs ys : List Guarded) (done : List Place) → ActsReady done xs → ActsReady (wrote done xs) ys → ActsReady done (xs ++ ys)
  ready_append [] ys done h k = k
  ready_append (x ∷ xs) ys done h k = (h.0, h.1, ready_append xs ys (dest x.1 ∷ done) h.2 k)

  pub wrote_append : (xs ys : List Guarded) (done : List Place) → wrote done (xs ++ ys) ≡ wrote (wrote done xs) ys
  wrote_append [] ys done = refl
  wrote_append (x ∷ xs) ys done = wrote_append xs ys (dest x.1 ∷ done)

  pub all_more : (done : List Place) (d : Place) (ps : List Place) → AreReady done ps → AreReady (d ∷ done) ps
  all_more done d [] h = tt
  all_more done d (p ∷ ps) h = (inr h.0, all_more done d ps h.1)

  pub all_append : (done ps qs : List Place) → AreReady done ps → AreReady done qs → AreReady done (ps ++ qs)
  all_append done [] qs h k = k
  all_append done (p ∷ ps) qs h k = (h.0, all_append done ps qs h.1 k)

  module _ (plan : Plan) where
    -- what is known is ready: its leaf, and its guards
    pub record KnownReady (known : List ℕ) (done : List Place) : Type 0 where
      pub leaf : (v : ℕ) → Has known v → IsReady done (value v)
      pub guards : (v : ℕ) (l : Leaf) → Has known v → HasLeaf (plan.leaves v) l → IsReady done (guard v l)

    pub known_later : (known : List ℕ) (done : List Place) (acts : List Guarded) → KnownReady known done → KnownReady known (wrote done acts)
    known_later known done acts k = record {
      leaf = λ v h. stays_ready acts done (value v) (k.leaf v h);
      guards = λ v l h m. stays_ready acts done (guard v l) (k.guards v l h m);
    }

    known_more : (known : List ℕ) (done : List Place) (d : Place) → KnownReady known done → KnownReady known (d ∷ done)
    known_more known done d k = record { leaf = λ v h. inr (k.leaf v h); guards = λ v l h m. inr (k.guards v l h m) }

    guard_ready : (known : List ℕ) (done : List Place) → KnownReady known done → (m : ℕ) (l : Leaf) → Has known m → IsAsked plan m l → IsReady done (guard_of m l)
    guard_ready known done k m (Bool true) h a = k.leaf m h
    guard_ready known done k m (Bool false) h a = k.guards m (Bool false) h a
    guard_ready known done k m Nil h a = k.guards m Nil h a
    guard_ready known done k m (Int n) h a = k.guards m (Int n) h a
    guard_ready known done k m (Char c) h a = k.guards m (Char c) h a
    guard_ready known done k m (Text t) h a = k.guards m (Text t) h a
    guard_ready known done k m (Enum t p) h a = k.guards m (Enum t p) h a
    guard_ready known done k m Nothing h a = k.guards m Nothing h a

    path_ready : (known : List ℕ) (done : List Place) → KnownReady known done → (prefix clock : List (ℕ × Leaf)) → IsClock plan known prefix clock → AreReady done (path clock)
    path_ready known done k prefix [] h = tt
    path_ready known done k prefix (asked ∷ rest) h = (guard_ready known done k asked.0 asked.1 h.0 h.2, path_ready known done k (prefix ++ asked ∷ []) rest h.3)

    -- ---- the acts of an equation

    restarts_ready : (known : List ℕ) (v : ℕ) (rs : List ℕ) → AreRestarts plan known rs → (done : List Place) → KnownReady known done → ActsReady done (restart_acts plan v rs)
    restarts_ready known v [] h done k = tt
    restarts_ready known v (r ∷ rs) h done k = (
      all_append done (path (plan.clock r)) (value r ∷ []) (path_ready known done k [] (plan.clock r) h.0.1) (k.leaf r h.0.0, tt),
      tt,
      restarts_ready known v rs h.1 (first v ∷ done) (known_more known done (first v) k),
    )

    args_ready : (known : List ℕ) (clock : List (ℕ × Leaf)) (args : List ℕ) → AreOperands plan known clock args → (done : List Place) → KnownReady known done → AreReady done (map value args)
    args_ready known clock [] h done k = tt
    args_ready known clock (a ∷ rest) h done k = (k.leaf a h.0.0, args_ready known clock rest h.1 done k)

    branches_ready : (known : List ℕ) (v c : ℕ) (clock : List (ℕ × Leaf)) → IsClock plan known [] clock → Has known c → (branches : List (Leaf × ℕ)) → AreBranches plan known clock c branches
        → (done : List Place) → KnownReady known done → ActsReady done (map (λ branch. (path clock ++ guard_of c branch.0 ∷ [], copy (value v) (value branch.1))) branches)
    branches_ready known v c clock ck hc [] h done k = tt
    branches_ready known v c clock ck hc (branch ∷ rest) h done k = (
      all_append done (path clock) (guard_of c branch.0 ∷ []) (path_ready known done k [] clock ck) (guard_ready known done k c branch.0 hc h.1, tt),
      (k.leaf branch.1 h.0.0, tt),
      branches_ready known v c clock ck hc rest h.2 (value v ∷ done) (known_more known done (value v) k),
    )

    right_ready : (known : List ℕ) (v : ℕ) (clock : List (ℕ × Leaf)) → IsClock plan known [] clock → (right : CoreRight) → Agrees plan known clock right
        → (done : List Place) → KnownReady known done → (keeps_leaf plan right ≡ true → IsReady done (memory v)) → (remembers plan right ≡ true → IsReady done (first (plan.lead v))) → ActsReady done (right_acts plan v (path clock) right)
    right_ready known v clock c (Const leaf) h done k mm m = tt
    right_ready known v clock c (Copy a) h done k mm m = (path_ready known done k [] clock c, (k.leaf a h.0, tt), tt)
    right_ready known v clock c (Op op args) h done k mm m = (path_ready known done k [] clock c, args_ready known clock args h done k, tt)
    right_ready known v clock c (Pre a) h done k mm m = (
      path_ready known done k [] clock c,
      (mm refl, tt),
      (all_append (value v ∷ done) (path clock) (first (plan.lead v) ∷ []) (all_more done (value v) (path clock) (path_ready known done k [] clock c)) (inr (m refl), tt), tt, tt),
    )
    right_ready known v clock c (Fby a b) h done k mm m = (
      path_ready known done k [] clock c,
      (mm refl, tt),
      (all_append (value v ∷ done) (path clock) (first (plan.lead v) ∷ []) (all_more done (value v) (path clock) (path_ready known done k [] clock c)) (inr (m refl), tt), (inr (k.leaf a h.0), tt), tt),
    )
    right_ready known v clock c (Init a b) h done k mm m = (
      path_ready known done k [] clock c,
      (k.leaf b h.1.0, tt),
      (all_append (value v ∷ done) (path clock) (first (plan.lead v) ∷ []) (all_more done (value v) (path clock) (path_ready known done k [] clock c)) (inr (m refl), tt), (inr (k.leaf a h.0.0), tt), tt),
    )
    right_ready known v clock c (Sample a) h done k mm m = (path_ready known done k [] clock c, (k.leaf a h.0, tt), tt)
    right_ready known v clock c (Choose x branches) h done k mm m =
        (path_ready known done k [] clock c, tt, branches_ready known v x clock c h.0.0 branches h.1 (value v ∷ done) (known_more known done (value v) k))

    -- the acts of a right side write its slot, but for a constant, which is ready from the start
    branches_write : (v c : ℕ) (on : List Place) (branches : List (Leaf × ℕ)) (done : List Place) → IsReady done (value v) → IsReady (wrote done (map (λ branch. (on ++ guard_of c branch.0 ∷ [], copy (value v) (value branch.1))) branches)) (value v)
    branches_write v c on branches done h = stays_ready (map (λ branch. (on ++ guard_of c branch.0 ∷ [], copy (value v) (value branch.1))) branches) done (value v) h

    right_writes : (v : ℕ) (on : List Place) (right : CoreRight) (done : List Place) → ((l : Leaf) → right ≡ Const l → IsReady done (value v)) → IsReady (wrote done (right_acts plan v on right)) (value v)
    right_writes v on (Const leaf) done h = h leaf refl
    right_writes v on (Copy a) done h = inl refl
    right_writes v on (Op op args) done h = inl refl
    right_writes v on (Pre a) done h = inl refl
    right_writes v on (Fby a b) done h = inl refl
    right_writes v on (Init a b) done h = inl refl
    right_writes v on (Sample a) done h = inl refl
    right_writes v on (Choose c branches) done h = branches_write v c on branches (value v ∷ done) (inl refl)

    abbrev tests_of : List Place → ℕ → List Leaf → List Guarded
    tests_of on v leaves = map (λ leaf. (on, test (guard v leaf) (value v) leaf)) leaves

    tests_ready : (on : List Place) (v : ℕ) (leaves : List Leaf) (done : List Place) → AreReady done on → IsReady done (value v) → ActsReady done (tests_of on v leaves)
    tests_ready on v [] done h k = tt
    tests_ready on v (leaf ∷ leaves) done h k = (h, (k, tt), tests_ready on v leaves (guard v leaf ∷ done) (all_more done (guard v leaf) on h) (inr k))

    tests_write : (on : List Place) (v : ℕ) (leaves : List Leaf) (done : List Place) (l : Leaf) → HasLeaf leaves l → IsReady (wrote done (tests_of on v leaves)) (guard v l)
    tests_write on v [] done l h = absurd h
    tests_write on v (leaf ∷ leaves) done l (inl e) = stays_ready (tests_of on v leaves) (guard v leaf ∷ done) (guard v l) (inl (ap (guard v) e))
    tests_write on v (leaf ∷ leaves) done l (inr h) = tests_write on v leaves (guard v leaf ∷ done) l h

    only_ready : (t : Truth) (act : Guarded) (done : List Place) → AreReady done act.0 → AreReady done (sources act.1) → ActsReady done (only t act)
    only_ready true act done h k = (h, k, tt)
    only_ready false act done h k = tt

    -- ---- an equation

    module _ (known : List ℕ) (e : CoreEq) (planned : IsPlanned plan known e) (done : List Place) (k : KnownReady known done)
        (own : (keeps_leaf plan e.right ≡ true → IsReady done (memory e.var)) × (remembers plan e.right ≡ true → IsReady done (first (plan.lead e.var))) × ((l : Leaf) → e.right ≡ Const l → IsReady done (value e.var))) where
      abbrev p : List Place
      p = path e.clock

      abbrev a1 : List Guarded
      a1 = if leads plan e then restart_acts plan e.var e.restarts else []

      abbrev a2 : List Guarded
      a2 = right_acts plan e.var (path e.clock) e.right

      abbrev a3 : List Guarded
      a3 = tests_of (path e.clock) e.var (plan.leaves e.var)

      abbrev a4 : List Guarded
      a4 = only (plan.shows e.var) (path e.clock, put (present e.var) (Bool true))

      abbrev a5 : List Guarded
      a5 = only (plan.tells e.var) (path e.clock, copy (emitted e.var) (value e.var))

      abbrev d1 : List Place
      d1 = wrote done a1

      abbrev d2 : List Place
      d2 = wrote d1 a2

      abbrev d3 : List Place
      d3 = wrote d2 a3

      abbrev d4 : List Place
      d4 = wrote d3 a4

      k1 : KnownReady known d1
      k1 = known_later known done a1 k

      k2 : KnownReady known d2
      k2 = known_later known d1 a2 k1

      k3 : KnownReady known d3
      k3 = known_later known d2 a3 k2

      k4 : KnownReady known d4
      k4 = known_later known d3 a4 k3

      value2 : IsReady d2 (value e.var)
      value2 = right_writes e.var (path e.clock) e.right d1 (λ l r. stays_ready a1 done (value e.var) (own.2 l r))

      r1 : ActsReady done a1
      r1 = by_truth (leads plan e)
        where
          by_truth : (t : Truth) → ActsReady done (if t then restart_acts plan e.var e.restarts else [])
          by_truth true = restarts_ready known e.var e.restarts planned.are_restarts done k
          by_truth false = tt

      pub equation_ready : ActsReady done (equation_acts plan e)
      equation_ready =
          ready_append a1 (a2 ++ (a3 ++ (a4 ++ a5))) done r1
          (ready_append a2 (a3 ++ (a4 ++ a5)) d1
          (right_ready known e.var e.clock planned.is_clock e.right planned.agrees d1 k1 (λ t. stays_ready a1 done (memory e.var) (own.0 t)) (λ t. stays_ready a1 done (first (plan.lead e.var)) (own.1 t)))
          (ready_append a3 (a4 ++ a5) d2 (tests_ready (path e.clock) e.var (plan.leaves e.var) d2 (path_ready known d2 k2 [] e.clock planned.is_clock) value2)
          (ready_append a4 a5 d3 (only_ready (plan.shows e.var) (path e.clock, put (present e.var) (Bool true)) d3 (path_ready known d3 k3 [] e.clock planned.is_clock) tt)
          (only_ready (plan.tells e.var) (path e.clock, copy (emitted e.var) (value e.var)) d4 (path_ready known d4 k4 [] e.clock planned.is_clock)
          (stays_ready a4 d3 (value e.var) (stays_ready a3 d2 (value e.var) value2), tt)))))

      in_parts : wrote done (equation_acts plan e) ≡ wrote d4 a5
      in_parts = wrote_append a1 (a2 ++ (a3 ++ (a4 ++ a5))) done ∙ wrote_append a2 (a3 ++ (a4 ++ a5)) d1 ∙ wrote_append a3 (a4 ++ a5) d2 ∙ wrote_append a4 a5 d3

      pub equation_known : KnownReady (e.var ∷ known) (wrote done (equation_acts plan e))
      equation_known = subst (λ d. KnownReady (e.var ∷ known) d) (sym in_parts) (record { leaf = λ v h. by_leaf v h; guards = λ v l h m. by_guard v l h m })
        where
          k5 : KnownReady known (wrote d4 a5)
          k5 = known_later known d4 a5 k4

          by_leaf : (v : ℕ) → Has (e.var ∷ known) v → IsReady (wrote d4 a5) (value v)
          by_leaf v (inl same) = subst (λ u. IsReady (wrote d4 a5) (value u)) same (stays_ready a5 d4 (value e.var) (stays_ready a4 d3 (value e.var) (stays_ready a3 d2 (value e.var) value2)))
          by_leaf v (inr h) = k5.leaf v h

          by_guard : (v : ℕ) (l : Leaf) → Has (e.var ∷ known) v → HasLeaf (plan.leaves v) l → IsReady (wrote d4 a5) (guard v l)
          by_guard v l (inl same) m = subst (λ u. HasLeaf (plan.leaves u) l → IsReady (wrote d4 a5) (guard u l)) same
              (λ m'. stays_ready a5 d4 (guard e.var l) (stays_ready a4 d3 (guard e.var l) (tests_write (path e.clock) e.var (plan.leaves e.var) d2 l m'))) m
          by_guard v l (inr h) m = k5.guards v l h m

    -- ---- a step

    abbrev pub Own : List Place → CoreEq → Type 0
    Own done e = (keeps_leaf plan e.right ≡ true → IsReady done (memory e.var)) × (remembers plan e.right ≡ true → IsReady done (first (plan.lead e.var))) × ((l : Leaf) → e.right ≡ Const l → IsReady done (value e.var))

    own_later : (acts : List Guarded) (done : List Place) (list : List CoreEq) → AllOf (Own done) list → AllOf (Own (wrote done acts)) list
    own_later acts done [] h = tt
    own_later acts done (e ∷ rest) h =
        (((λ t. stays_ready acts done (memory e.var) (h.0.0 t)), (λ t. stays_ready acts done (first (plan.lead e.var)) (h.0.1 t)), (λ l r. stays_ready acts done (value e.var) (h.0.2 l r))), own_later acts done rest h.1)

    equations_ready : (known : List ℕ) (eqs : List CoreEq) → ArePlanned plan known eqs → (done : List Place) → KnownReady known done → AllOf (Own done) eqs
        → ActsReady done (flat_map (equation_acts plan) eqs) × KnownReady (grown known eqs) (wrote done (flat_map (equation_acts plan) eqs))
    equations_ready known [] h done k own = (tt, k)
    equations_ready known (e ∷ rest) h done k own =
        let done' : List Place = wrote done (equation_acts plan e) in
        let more = equations_ready (e.var ∷ known) rest h.1 done' (equation_known known e h.0 done k own.0) (own_later (equation_acts plan e) done rest own.1) in (
          ready_append (equation_acts plan e) (flat_map (equation_acts plan) rest) done (equation_ready known e h.0 done k own.0) more.0,
          subst (λ d. KnownReady (grown (e.var ∷ known) rest) d) (sym (wrote_append (equation_acts plan e) (flat_map (equation_acts plan) rest) done)) more.1,
        )

    kept_ready : (known : List ℕ) (v : ℕ) (clock : List (ℕ × Leaf)) (right : CoreRight) → IsClock plan known [] clock → IsKept plan known clock right → (done : List Place) → KnownReady known done → ActsReady done (kept plan v (path clock) right)
    kept_ready known v clock (Const leaf) c h done k = tt
    kept_ready known v clock (Copy a) c h done k = tt
    kept_ready known v clock (Op op args) c h done k = tt
    kept_ready known v clock (Pre a) c h done k = (path_ready known done k [] clock c, (k.leaf a h.0, tt), tt)
    kept_ready known v clock (Fby a b) c h done k = (path_ready known done k [] clock c, (k.leaf b h.0, tt), tt)
    kept_ready known v clock (Init a b) c h done k = tt
    kept_ready known v clock (Sample a) c h done k = tt
    kept_ready known v clock (Choose x branches) c h done k = tt

    updates_ready : (known : List ℕ) (eqs : List CoreEq) → AllOf (λ e. IsClock plan known [] e.clock × IsKept plan known e.clock e.right) eqs → (done : List Place) → KnownReady known done → ActsReady done (flat_map (update_acts plan) eqs)
    updates_ready known [] h done k = tt
    updates_ready known (e ∷ rest) h done k =
        ready_append (update_acts plan e) (flat_map (update_acts plan) rest) done
        (ready_append (kept plan e.var (path e.clock) e.right) (only (leads plan e) (path e.clock, put (first e.var) (Bool false))) done
        (kept_ready known e.var e.clock e.right h.0.0 h.0.1 done k)
        (only_ready (leads plan e) (path e.clock, put (first e.var) (Bool false)) (wrote done (kept plan e.var (path e.clock) e.right))
        (path_ready known (wrote done (kept plan e.var (path e.clock) e.right)) (known_later known done (kept plan e.var (path e.clock) e.right) k) [] e.clock h.0.0) tt))
        (updates_ready known rest h.1 (wrote done (update_acts plan e)) (known_later known done (update_acts plan e) k))

    clears_ready : (eqs : List CoreEq) (done : List Place) → ActsReady done (flat_map (clear_acts plan) eqs)
    clears_ready [] done = tt
    clears_ready (e ∷ rest) done =
        ready_append (clear_acts plan e) (flat_map (clear_acts plan) rest) done
        (ready_append (only (plan.shows e.var) ([], put (present e.var) (Bool false))) (only (plan.tells e.var) ([], put (emitted e.var) (Bool false))) done
        (only_ready (plan.shows e.var) ([], put (present e.var) (Bool false)) done tt tt)
        (only_ready (plan.tells e.var) ([], put (emitted e.var) (Bool false)) (wrote done (only (plan.shows e.var) ([], put (present e.var) (Bool false)))) tt tt))
        (clears_ready rest (wrote done (clear_acts plan e)))

    inputs_ready : (inputs : List ℕ) (done : List Place) → ((v : ℕ) → Has inputs v → IsReady done (value v)) → ActsReady done (flat_map (tests plan []) inputs)
    inputs_ready [] done h = tt
    inputs_ready (v ∷ rest) done h =
        ready_append (tests plan [] v) (flat_map (tests plan []) rest) done (tests_ready [] v (plan.leaves v) done tt (h v (inl refl)))
        (inputs_ready rest (wrote done (tests plan [] v)) (λ w k. stays_ready (tests plan [] v) done (value w) (h w (inr k))))

    inputs_write : (inputs : List ℕ) (done : List Place) (v : ℕ) (l : Leaf) → Has inputs v → HasLeaf (plan.leaves v) l → IsReady (wrote done (flat_map (tests plan []) inputs)) (guard v l)
    inputs_write [] done v l h m = absurd h
    inputs_write (w ∷ rest) done v l (inl e) m =
        subst (λ d. IsReady d (guard v l)) (sym (wrote_append (tests plan [] w) (flat_map (tests plan []) rest) done))
        (stays_ready (flat_map (tests plan []) rest) (wrote done (tests plan [] w)) (guard v l)
        (subst (λ u. HasLeaf (plan.leaves u) l → IsReady (wrote done (tests plan [] w)) (guard u l)) e (λ m'. tests_write [] w (plan.leaves w) done l m') m))
    inputs_write (w ∷ rest) done v l (inr h) m =
        subst (λ d. IsReady d (guard v l)) (sym (wrote_append (tests plan [] w) (flat_map (tests plan []) rest) done)) (inputs_write rest (wrote done (tests plan [] w)) v l h m)

    -- a step of a core reads only what is ready
    pub step_ready : (inputs : List ℕ) (eqs : List CoreEq) → IsOrderedCore plan inputs eqs → ((v : ℕ) → Has inputs v → Ready (value v)) → AllOf (Own []) eqs → ActsReady [] (step_acts plan inputs eqs)
    step_ready inputs eqs promised given own =
        let c : List Guarded = flat_map (clear_acts plan) eqs in
        let i : List Guarded = flat_map (tests plan []) inputs in
        let e : List Guarded = flat_map (equation_acts plan) eqs in
        let u : List Guarded = flat_map (update_acts plan) eqs in
        let d : List Place = wrote [] c in
        let at_inputs : (v : ℕ) → Has inputs v → IsReady d (value v) = λ v h. stays_ready c [] (value v) (given v h) in
        let k : KnownReady inputs (wrote d i) = record { leaf = λ v h. stays_ready i d (value v) (at_inputs v h); guards = λ v l h m. inputs_write inputs d v l h m } in
        let both = equations_ready inputs eqs promised.planned (wrote d i) k (own_later i d eqs (own_later c [] eqs own)) in
        ready_append c (i ++ (e ++ u)) [] (clears_ready eqs [])
        (ready_append i (e ++ u) d (inputs_ready inputs d at_inputs)
        (ready_append e u (wrote d i) both.0 (updates_ready (grown inputs eqs) eqs promised.whole (wrote (wrote d i) e) both.1)))

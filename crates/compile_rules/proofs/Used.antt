-- The acts of a step use only places of the core: of known variables their leaves and guards, and what equations keep and show.
use Rattle.std.specs.Prelude.{◌≡◌, refl, ℕ, Bool as Truth, true, false, List, [], ◌∷◌, ◌++◌, map, if◌then◌else◌}
use Rattle.std.specs.List.{flat_map}
use Rattle.std.proofs.Common.{inl, inr}
use Rattle.ls_value.specs.declared.leaf.Leaf.{Leaf}
use Rattle.ls_value.specs.declared.leaf.Leaf.TheVariants.{Nil, Int, Bool, Char, Text, Enum, Unit as Nothing}
use Rattle.core_lang.specs.declared.equations.CoreEq.{CoreEq}
use Rattle.core_lang.specs.declared.equations.CoreRight.{CoreRight}
use Rattle.core_lang.specs.declared.equations.CoreRight.TheVariants.{Const, Copy, Op, Pre, Fby, Init, Sample, Choose}
use Rattle.compile_rules.specs.declared.places.Place.{Place}
use Rattle.compile_rules.specs.declared.places.Place.TheVariants.{Value as value, Memory as memory, First as first, Guard as guard, Present as present, Emitted as emitted}
use Rattle.compile_rules.specs.declared.places.Act.TheVariants.{Put as put, Copy as copy, Test as test}
use Rattle.compile_rules.specs.Scheme.{Guarded, guard_of, path, Plan, only, tests, restart_acts, right_acts, remembers, equation_acts, kept, update_acts, clear_acts, step_acts, keeps_leaf, leads}
use Rattle.compile_rules.proofs.OneStep.{grown_has}
use Rattle.step_code.specs.Steps.{BodyStep}
use Rattle.compile_rules.proofs.Numbered.{AllUsed, AreFew, IsUsedAct, AreUsed}
use Rattle.core_lang.specs.Orders.{AllOf, Has}
use Rattle.compile_rules.specs.Plans.{Agrees, AreBranches, AreOperands, ArePlanned, AreRestarts, HasLeaf, IsAsked, IsClock, IsKept, IsOrderedCore, IsPlanned, grown}

module _ (bodies : List BodyStep) (number_of : Place → ℕ) (IsUsed : Place → Type 0) (size : ℕ) (plan : Plan) where
  abbrev All : List Place → Type 0
  All = AllUsed bodies number_of IsUsed size

  abbrev Acts : List Guarded → Type 0
  Acts = AreUsed bodies number_of IsUsed size

  acts_append : (xs ys : List Guarded) → Acts xs → Acts ys → Acts (xs ++ ys)
  acts_append [] ys h k = k
  acts_append (x ∷ xs) ys h k = (h.0, acts_append xs ys h.1 k)

  all_append : (ps qs : List Place) → All ps → All qs → All (ps ++ qs)
  all_append [] qs h k = k
  all_append (p ∷ ps) qs h k = (h.0, all_append ps qs h.1 k)

  -- an operator has one to three operands
  abbrev pub IsFew : CoreRight → Type 0
  IsFew (Op op args) = AreFew bodies number_of IsUsed size (map value args)
  IsFew _ = Unit {0}

  -- the places of a core are in use
  pub record InUse (known : List ℕ) : Type 0 where
    pub leaf : (v : ℕ) → Has known v → IsUsed (value v)
    pub guards : (v : ℕ) (l : Leaf) → Has known v → HasLeaf (plan.leaves v) l → IsUsed (guard v l)

  pub record OwnInUse (e : CoreEq) : Type 0 where
    pub memories : keeps_leaf plan e.right ≡ true → IsUsed (memory e.var)
    pub firsts : remembers plan e.right ≡ true → IsUsed (first (plan.lead e.var))
    pub own_first : leads plan e ≡ true → IsUsed (first e.var)
    pub shown : plan.shows e.var ≡ true → IsUsed (present e.var)
    pub told : plan.tells e.var ≡ true → IsUsed (emitted e.var)
    pub few : IsFew e.right

  guard_used : (known : List ℕ) → InUse known → (m : ℕ) (l : Leaf) → Has known m → IsAsked plan m l → IsUsed (guard_of m l)
  guard_used known k m (Bool true) h a = k.leaf m h
  guard_used known k m (Bool false) h a = k.guards m (Bool false) h a
  guard_used known k m Nil h a = k.guards m Nil h a
  guard_used known k m (Int n) h a = k.guards m (Int n) h a
  guard_used known k m (Char c) h a = k.guards m (Char c) h a
  guard_used known k m (Text t) h a = k.guards m (Text t) h a
  guard_used known k m (Enum t p) h a = k.guards m (Enum t p) h a
  guard_used known k m Nothing h a = k.guards m Nothing h a

  path_used : (known : List ℕ) → InUse known → (prefix clock : List (ℕ × Leaf)) → IsClock plan known prefix clock → All (path clock)
  path_used known k prefix [] h = tt
  path_used known k prefix (asked ∷ rest) h = (guard_used known k asked.0 asked.1 h.0 h.2, path_used known k (prefix ++ asked ∷ []) rest h.3)

  restarts_used : (known : List ℕ) → InUse known → (v : ℕ) → IsUsed (first v) → (rs : List ℕ) → AreRestarts plan known rs → Acts (restart_acts plan v rs)
  restarts_used known k v u [] h = tt
  restarts_used known k v u (r ∷ rs) h =
      ((all_append (path (plan.clock r)) (value r ∷ []) (path_used known k [] (plan.clock r) h.0.1) (k.leaf r h.0.0, tt), u), restarts_used known k v u rs h.1)

  args_used : (known : List ℕ) → InUse known → (clock : List (ℕ × Leaf)) (args : List ℕ) → AreOperands plan known clock args → All (map value args)
  args_used known k clock [] h = tt
  args_used known k clock (a ∷ rest) h = (k.leaf a h.0.0, args_used known k clock rest h.1)

  branches_used : (known : List ℕ) → InUse known → (v c : ℕ) (clock : List (ℕ × Leaf)) → IsUsed (value v) → IsClock plan known [] clock → Has known c → (branches : List (Leaf × ℕ)) → AreBranches plan known clock c branches
      → Acts (map (λ branch. (path clock ++ guard_of c branch.0 ∷ [], copy (value v) (value branch.1))) branches)
  branches_used known k v c clock u ck hc [] h = tt
  branches_used known k v c clock u ck hc (branch ∷ rest) h = (
    (all_append (path clock) (guard_of c branch.0 ∷ []) (path_used known k [] clock ck) (guard_used known k c branch.0 hc h.1, tt), (u, k.leaf branch.1 h.0.0)),
    branches_used known k v c clock u ck hc rest h.2,
  )

  right_used : (known : List ℕ) → InUse known → (v : ℕ) (clock : List (ℕ × Leaf)) → IsUsed (value v) → IsClock plan known [] clock → (right : CoreRight) → Agrees plan known clock right → IsFew right
      → (keeps_leaf plan right ≡ true → IsUsed (memory v)) → (remembers plan right ≡ true → IsUsed (first (plan.lead v))) → Acts (right_acts plan v (path clock) right)
  right_used known k v clock u c (Const leaf) h few mm m = tt
  right_used known k v clock u c (Copy a) h few mm m = ((path_used known k [] clock c, (u, k.leaf a h.0)), tt)
  right_used known k v clock u c (Op op args) h few mm m = ((path_used known k [] clock c, (u, args_used known k clock args h, few)), tt)
  right_used known k v clock u c (Pre a) h few mm m =
      ((path_used known k [] clock c, (u, mm refl)), ((all_append (path clock) (first (plan.lead v) ∷ []) (path_used known k [] clock c) (m refl, tt), u), tt))
  right_used known k v clock u c (Fby a b) h few mm m =
      ((path_used known k [] clock c, (u, mm refl)), ((all_append (path clock) (first (plan.lead v) ∷ []) (path_used known k [] clock c) (m refl, tt), (u, k.leaf a h.0)), tt))
  right_used known k v clock u c (Init a b) h few mm m =
      ((path_used known k [] clock c, (u, k.leaf b h.1.0)), ((all_append (path clock) (first (plan.lead v) ∷ []) (path_used known k [] clock c) (m refl, tt), (u, k.leaf a h.0.0)), tt))
  right_used known k v clock u c (Sample a) h few mm m = ((path_used known k [] clock c, (u, k.leaf a h.0)), tt)
  right_used known k v clock u c (Choose x branches) h few mm m = ((path_used known k [] clock c, u), branches_used known k v x clock u c h.0.0 branches h.1)

  tests_used : (on : List Place) → All on → (v : ℕ) → IsUsed (value v) → (leaves : List Leaf) → ((l : Leaf) → HasLeaf leaves l → IsUsed (guard v l)) → Acts (map (λ leaf. (on, test (guard v leaf) (value v) leaf)) leaves)
  tests_used on h v u [] f = tt
  tests_used on h v u (leaf ∷ leaves) f = ((h, (f leaf (inl refl), u)), tests_used on h v u leaves (λ l m. f l (inr m)))

  only_used : (t : Truth) (act : Guarded) → (t ≡ true → All act.0 × IsUsedAct bodies number_of IsUsed size act.1) → Acts (only t act)
  only_used true act f = (f refl, tt)
  only_used false act f = tt

  equation_used : (known all : List ℕ) → ((v : ℕ) → Has known v → Has all v) → InUse all → (e : CoreEq) → Has all e.var → IsPlanned plan known e → InUse known → OwnInUse e → Acts (equation_acts plan e)
  equation_used known all f k' e own planned k o =
      let p = path_used known k [] e.clock planned.is_clock in
      let u = k'.leaf e.var own in
      acts_append (if leads plan e then restart_acts plan e.var e.restarts else [])
      (right_acts plan e.var (path e.clock) e.right ++ (tests plan (path e.clock) e.var
      ++ (only (plan.shows e.var) (path e.clock, put (present e.var) (Bool true)) ++ only (plan.tells e.var) (path e.clock, copy (emitted e.var) (value e.var)))))
      (by_truth (leads plan e) refl)
      (acts_append (right_acts plan e.var (path e.clock) e.right) (tests plan (path e.clock) e.var ++ (only (plan.shows e.var) (path e.clock, put (present e.var) (Bool true)) ++ only (plan.tells e.var) (path e.clock, copy (emitted e.var) (value e.var))))
      (right_used known k e.var e.clock u planned.is_clock e.right planned.agrees o.few o.memories o.firsts)
      (acts_append (tests plan (path e.clock) e.var) (only (plan.shows e.var) (path e.clock, put (present e.var) (Bool true)) ++ only (plan.tells e.var) (path e.clock, copy (emitted e.var) (value e.var)))
      (tests_used (path e.clock) p e.var u (plan.leaves e.var) (λ l m. k'.guards e.var l own m))
      (acts_append (only (plan.shows e.var) (path e.clock, put (present e.var) (Bool true))) (only (plan.tells e.var) (path e.clock, copy (emitted e.var) (value e.var)))
      (only_used (plan.shows e.var) (path e.clock, put (present e.var) (Bool true)) (λ t. (p, o.shown t)))
      (only_used (plan.tells e.var) (path e.clock, copy (emitted e.var) (value e.var)) (λ t. (p, (o.told t, u)))))))
    where
      by_truth : (t : Truth) → leads plan e ≡ t → Acts (if t then restart_acts plan e.var e.restarts else [])
      by_truth true is = restarts_used known k e.var (o.own_first is) e.restarts planned.are_restarts
      by_truth false is = tt

  in_use_less : (known all : List ℕ) → ((v : ℕ) → Has known v → Has all v) → InUse all → InUse known
  in_use_less known all f k = record { leaf = λ v h. k.leaf v (f v h); guards = λ v l h m. k.guards v l (f v h) m }

  equations_used : (known : List ℕ) (eqs : List CoreEq) (all : List ℕ) → ((v : ℕ) → Has (grown known eqs) v → Has all v) → InUse all → ArePlanned plan known eqs → AllOf OwnInUse eqs → Acts (flat_map (equation_acts plan) eqs)
  equations_used known [] all f k h o = tt
  equations_used known (e ∷ rest) all f k h o =
      let g : (v : ℕ) → Has (e.var ∷ known) v → Has all v = λ v m. f v (grown_has (e.var ∷ known) rest v m) in
      acts_append (equation_acts plan e) (flat_map (equation_acts plan) rest)
      (equation_used known all (λ v m. g v (inr m)) k e (g e.var (inl refl)) h.0 (in_use_less known all (λ v m. g v (inr m)) k) o.0)
      (equations_used (e.var ∷ known) rest all f k h.1 o.1)

  kept_used : (known : List ℕ) → InUse known → (v : ℕ) (clock : List (ℕ × Leaf)) → IsClock plan known [] clock → (right : CoreRight) → IsKept plan known clock right
      → (keeps_leaf plan right ≡ true → IsUsed (memory v)) → Acts (kept plan v (path clock) right)
  kept_used known k v clock c (Const leaf) h m = tt
  kept_used known k v clock c (Copy a) h m = tt
  kept_used known k v clock c (Op op args) h m = tt
  kept_used known k v clock c (Pre a) h m = ((path_used known k [] clock c, (m refl, k.leaf a h.0)), tt)
  kept_used known k v clock c (Fby a b) h m = ((path_used known k [] clock c, (m refl, k.leaf b h.0)), tt)
  kept_used known k v clock c (Init a b) h m = tt
  kept_used known k v clock c (Sample a) h m = tt
  kept_used known k v clock c (Choose x branches) h m = tt

  updates_used : (known : List ℕ) → InUse known → (eqs : List CoreEq) → AllOf (λ e. IsClock plan known [] e.clock × IsKept plan known e.clock e.right) eqs → AllOf OwnInUse eqs → Acts (flat_map (update_acts plan) eqs)
  updates_used known k [] h o = tt
  updates_used known k (e ∷ rest) h o =
      acts_append (update_acts plan e) (flat_map (update_acts plan) rest)
      (acts_append (kept plan e.var (path e.clock) e.right) (only (leads plan e) (path e.clock, put (first e.var) (Bool false)))
      (kept_used known k e.var e.clock h.0.0 e.right h.0.1 o.0.memories)
      (only_used (leads plan e) (path e.clock, put (first e.var) (Bool false)) (λ t. (path_used known k [] e.clock h.0.0, o.0.own_first t))))
      (updates_used known k rest h.1 o.1)

  clears_used : (eqs : List CoreEq) → AllOf OwnInUse eqs → Acts (flat_map (clear_acts plan) eqs)
  clears_used [] o = tt
  clears_used (e ∷ rest) o =
      acts_append (clear_acts plan e) (flat_map (clear_acts plan) rest)
      (acts_append (only (plan.shows e.var) ([], put (present e.var) (Bool false))) (only (plan.tells e.var) ([], put (emitted e.var) (Bool false)))
      (only_used (plan.shows e.var) ([], put (present e.var) (Bool false)) (λ t. (tt, o.0.shown t))) (only_used (plan.tells e.var) ([], put (emitted e.var) (Bool false)) (λ t. (tt, o.0.told t))))
      (clears_used rest o.1)

  inputs_used : (inputs all : List ℕ) → ((v : ℕ) → Has inputs v → Has all v) → InUse all → Acts (flat_map (tests plan []) inputs)
  inputs_used [] all f k = tt
  inputs_used (v ∷ rest) all f k =
      acts_append (tests plan [] v) (flat_map (tests plan []) rest)
      (tests_used [] tt v (k.leaf v (f v (inl refl))) (plan.leaves v) (λ l m. k.guards v l (f v (inl refl)) m)) (inputs_used rest all (λ w m. f w (inr m)) k)

  pub step_used : (inputs : List ℕ) (eqs : List CoreEq) → IsOrderedCore plan inputs eqs → InUse (grown inputs eqs) → AllOf OwnInUse eqs → AreUsed bodies number_of IsUsed size (step_acts plan inputs eqs)
  step_used inputs eqs promised k o =
      acts_append (flat_map (clear_acts plan) eqs) (flat_map (tests plan []) inputs ++ (flat_map (equation_acts plan) eqs ++ flat_map (update_acts plan) eqs)) (clears_used eqs o)
      (acts_append (flat_map (tests plan []) inputs) (flat_map (equation_acts plan) eqs ++ flat_map (update_acts plan) eqs) (inputs_used inputs (grown inputs eqs) (λ v h. grown_has inputs eqs v h) k)
      (acts_append (flat_map (equation_acts plan) eqs) (flat_map (update_acts plan) eqs) (equations_used inputs eqs (grown inputs eqs) (λ v h. h) k promised.planned o)
      (updates_used (grown inputs eqs) k eqs promised.whole o)))

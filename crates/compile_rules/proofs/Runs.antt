-- The scheme's theorem: the rows that the slots take, step by step, are a full solution of the core, outputs are shown where
-- they are present, and a step divides by zero exactly where an instant is alarmed.
use Rattle.std.specs.Prelude.{◌≡◌, refl, ℕ, Bool as Truth, true, false, List, [], ◌∷◌, ◌++◌, Some, if◌then◌else◌}
use Rattle.std.specs.List.{flat_map}
use Rattle.std.proofs.Common.{ap, ap₂, sym, ◌∙◌, subst, inl, inr}
use Rattle.ls_value.specs.declared.leaf.Leaf.{Leaf}
use Rattle.ls_value.specs.declared.leaf.Leaf.TheVariants.{Nil, Bool}
use Rattle.core_lang.specs.declared.equations.CoreEq.{CoreEq}
use Rattle.core_lang.specs.declared.equations.CoreRight.TheVariants.{Const}
use Rattle.step_code.specs.Leaves.{tested, is_true}
use Rattle.core_lang.specs.Leaves.{is_held}
use Rattle.core_lang.specs.Equations.{Cells, is_on}
use Rattle.core_lang.proofs.Instants.{Memory}
use Rattle.compile_rules.specs.declared.places.Place.{Place}
use Rattle.compile_rules.specs.declared.places.Place.TheVariants.{Value as value, Memory as memory, First as first, Guard as guard, Present as present, Emitted as emitted}
use Rattle.compile_rules.specs.declared.places.Act.TheVariants.{Put as put, Test as test}
use Rattle.compile_rules.specs.Scheme.{same_place, Guarded, Slots, do_act, act_on, after_acts, Plan, only, tests, equation_acts, update_acts, clear_acts, step_acts, dest, keeps_leaf, leads}
use Rattle.compile_rules.proofs.Frames.{owner, put_there, Spares, acts_else, after_append, place_same}
use Rattle.compile_rules.proofs.Agreeing.{Knows}
use Rattle.compile_rules.proofs.OneEquation.{tests_of, tests_guard}
use Rattle.compile_rules.proofs.OneStep.{all_of, Before, After}
use Rattle.compile_rules.proofs.WholeStep.{AreAlike, IsSolved, IsWhole, Next, equations_know, updates_next, updates_know, updates_flags}
use Rattle.core_lang.specs.Orders.{AllOf, Has}
use Rattle.compile_rules.specs.Plans.{AreLed, ArePlanned, HasLeaf, grown, is_some}

-- ---- outputs are hidden

module _ (plan : Plan) where
  spares_only : (t : Truth) (act : Guarded) (p : Place) → same_place (dest act.1) p ≡ false → Spares p (only t act)
  spares_only true act p e = (e, tt)
  spares_only false act p e = tt

  spares_append : (xs ys : List Guarded) (p : Place) → Spares p xs → Spares p ys → Spares p (xs ++ ys)
  spares_append [] ys p h k = k
  spares_append (x ∷ xs) ys p h k = (h.0, spares_append xs ys p h.1 k)

  clear_else : (eqs : List CoreEq) (s : Slots) (q : Place) → ((v : ℕ) → same_place (present v) q ≡ false) → ((v : ℕ) → same_place (emitted v) q ≡ false) → after_acts (flat_map (clear_acts plan) eqs) s q ≡ s q
  clear_else [] s q a b = refl
  clear_else (e ∷ rest) s q a b =
      ap (λ (r : Slots). r q) (after_append (clear_acts plan e) (flat_map (clear_acts plan) rest) s)
      ∙ clear_else rest (after_acts (clear_acts plan e) s) q a b
      ∙ acts_else (clear_acts plan e) s q (spares_append (only (plan.shows e.var) ([], put (present e.var) (Bool false))) (only (plan.tells e.var) ([], put (emitted e.var) (Bool false))) q
      (spares_only (plan.shows e.var) ([], put (present e.var) (Bool false)) q (a e.var)) (spares_only (plan.tells e.var) ([], put (emitted e.var) (Bool false)) q (b e.var)))

  -- what is false stays false while outputs are hidden
  stays_false : (act : Guarded) (d q : Place) (s : Slots) → act ≡ ([], put d (Bool false)) → s q ≡ Bool false → act_on act s q ≡ Bool false
  stays_false act d q s is e = ap (λ (a : Guarded). act_on a s q) is ∙ by_place (same_place d q)
    where
      by_place : (t : Truth) → (if t then Bool false else s q) ≡ Bool false
      by_place true = refl
      by_place false = e

  only_false : (t : Truth) (d q : Place) (s : Slots) → s q ≡ Bool false → after_acts (only t ([], put d (Bool false))) s q ≡ Bool false
  only_false true d q s e = stays_false ([], put d (Bool false)) d q s refl e
  only_false false d q s e = e

  clear_false : (eqs : List CoreEq) (s : Slots) (q : Place) → s q ≡ Bool false → after_acts (flat_map (clear_acts plan) eqs) s q ≡ Bool false
  clear_false [] s q e = e
  clear_false (x ∷ rest) s q e =
      ap (λ (r : Slots). r q) (after_append (clear_acts plan x) (flat_map (clear_acts plan) rest) s)
      ∙ clear_false rest (after_acts (clear_acts plan x) s) q
      (ap (λ (r : Slots). r q) (after_append (only (plan.shows x.var) ([], put (present x.var) (Bool false))) (only (plan.tells x.var) ([], put (emitted x.var) (Bool false))) s)
      ∙ only_false (plan.tells x.var) (emitted x.var) q (after_acts (only (plan.shows x.var) ([], put (present x.var) (Bool false))) s)
      (only_false (plan.shows x.var) (present x.var) q s e))

  pub Hidden : Slots → CoreEq → Type 0
  Hidden s e = (plan.shows e.var ≡ true → s (present e.var) ≡ Bool false) × (plan.tells e.var ≡ true → s (emitted e.var) ≡ Bool false)

  hidden_more : (x : CoreEq) (s : Slots) → (plan.shows x.var ≡ true → after_acts (clear_acts plan x) s (present x.var) ≡ Bool false) × (plan.tells x.var ≡ true → after_acts (clear_acts plan x) s (emitted x.var) ≡ Bool false)
  hidden_more x s = (
    (λ t. ap (λ (r : Slots). r (present x.var)) whole ∙ only_false (plan.tells x.var) (emitted x.var) (present x.var) s1
        (ap (λ u. after_acts (only u ([], put (present x.var) (Bool false))) s (present x.var)) t ∙ put_there s (present x.var) (Bool false))),
    (λ t. ap (λ (r : Slots). r (emitted x.var)) whole ∙ ap (λ u. after_acts (only u ([], put (emitted x.var) (Bool false))) s1 (emitted x.var)) t ∙ put_there s1 (emitted x.var) (Bool false)),
  )
    where
      s1 : Slots
      s1 = after_acts (only (plan.shows x.var) ([], put (present x.var) (Bool false))) s

      whole : after_acts (clear_acts plan x) s ≡ after_acts (only (plan.tells x.var) ([], put (emitted x.var) (Bool false))) s1
      whole = after_append (only (plan.shows x.var) ([], put (present x.var) (Bool false))) (only (plan.tells x.var) ([], put (emitted x.var) (Bool false))) s

  pub all_hidden : (eqs : List CoreEq) (s : Slots) → AllOf (Hidden (after_acts (flat_map (clear_acts plan) eqs) s)) eqs
  unfolding Hidden
  all_hidden [] s = tt
  all_hidden (x ∷ rest) s =
      let s' : Slots = after_acts (clear_acts plan x) s in
      let whole : after_acts (flat_map (clear_acts plan) (x ∷ rest)) s ≡ after_acts (flat_map (clear_acts plan) rest) s' = after_append (clear_acts plan x) (flat_map (clear_acts plan) rest) s in (
        subst (λ r. Hidden r x) (sym whole)
            ((λ t. clear_false rest s' (present x.var) ((hidden_more x s).0 t)), (λ t. clear_false rest s' (emitted x.var) ((hidden_more x s).1 t))),
        subst (λ r. AllOf (Hidden r) rest) (sym whole) (all_hidden rest s'),
      )

  -- ---- the guards of inputs

  guard_leaf : Place → Leaf
  guard_leaf (guard v l) = l
  guard_leaf _ = Nil

  module _ (cells : Cells) where
    stays_right : (w : ℕ) (l : Leaf) (v : ℕ) (leaves : List Leaf) (s : Slots) → s (guard w l) ≡ tested (s (value w)) l → after_acts (tests_of plan cells [] v leaves) s (guard w l) ≡ tested (s (value w)) l
    unfolding guard_leaf
    stays_right w l v [] s e = e
    stays_right w l v (k ∷ leaves) s e = stays_right w l v leaves (do_act (test (guard v k) (value v) k) s) (by_place (same_place (guard v k) (guard w l)) refl)
      where
        by_place : (t : Truth) → same_place (guard v k) (guard w l) ≡ t → (if t then tested (s (value v)) k else s (guard w l)) ≡ tested (s (value w)) l
        by_place true t = ap₂ (λ u m. tested (s (value u)) m) (ap owner (place_same (guard v k) (guard w l) t)) (ap guard_leaf (place_same (guard v k) (guard w l) t))
        by_place false t = e

    inputs_stay : (w : ℕ) (l : Leaf) (inputs : List ℕ) (s : Slots) → s (guard w l) ≡ tested (s (value w)) l → after_acts (flat_map (tests plan []) inputs) s (guard w l) ≡ tested (s (value w)) l
    inputs_stay w l [] s e = e
    inputs_stay w l (v ∷ inputs) s e =
        ap (λ (r : Slots). r (guard w l)) (after_append (tests plan [] v) (flat_map (tests plan []) inputs) s)
        ∙ inputs_stay w l inputs s' (stays_right w l v (plan.leaves v) s e ∙ ap (λ x. tested x l) (sym there)) ∙ ap (λ x. tested x l) there
      where
        s' : Slots
        s' = after_acts (tests plan [] v) s

        there : s' (value w) ≡ s (value w)
        there = acts_else (tests plan [] v) s (value w) (spares (plan.leaves v))
          where
            spares : (leaves : List Leaf) → Spares (value w) (tests_of plan cells [] v leaves)
            spares [] = tt
            spares (k ∷ leaves) = (refl, spares leaves)

    inputs_else : (inputs : List ℕ) (s : Slots) (q : Place) → ((v : ℕ) (l : Leaf) → same_place (guard v l) q ≡ false) → after_acts (flat_map (tests plan []) inputs) s q ≡ s q
    inputs_else [] s q a = refl
    inputs_else (v ∷ inputs) s q a =
        ap (λ (r : Slots). r q) (after_append (tests plan [] v) (flat_map (tests plan []) inputs) s)
        ∙ inputs_else inputs (after_acts (tests plan [] v) s) q a ∙ acts_else (tests plan [] v) s q (spares (plan.leaves v))
      where
        spares : (leaves : List Leaf) → Spares q (tests_of plan cells [] v leaves)
        spares [] = tt
        spares (k ∷ leaves) = (a v k, spares leaves)

    inputs_guard : (inputs : List ℕ) (w : ℕ) (l : Leaf) → Has inputs w → HasLeaf (plan.leaves w) l → (s : Slots) → after_acts (flat_map (tests plan []) inputs) s (guard w l) ≡ tested (s (value w)) l
    inputs_guard [] w l h m s = absurd h
    inputs_guard (v ∷ inputs) w l (inl e) m s =
        ap (λ (r : Slots). r (guard w l)) (after_append (tests plan [] v) (flat_map (tests plan []) inputs) s)
        ∙ inputs_stay w l inputs (after_acts (tests plan [] v) s)
        (subst (λ u. HasLeaf (plan.leaves u) l → after_acts (tests plan [] v) s (guard u l) ≡ tested (s (value u)) l) e (λ m'. tests_guard plan cells [] v (λ h. h) [] tt l (plan.leaves v) m' s refl) m
        ∙ ap (λ x. tested x l) (sym there)) ∙ ap (λ x. tested x l) there
      where
        there : after_acts (tests plan [] v) s (value w) ≡ s (value w)
        there = acts_else (tests plan [] v) s (value w) (spares (plan.leaves v))
          where
            spares : (leaves : List Leaf) → Spares (value w) (tests_of plan cells [] v leaves)
            spares [] = tt
            spares (k ∷ leaves) = (refl, spares leaves)
    inputs_guard (v ∷ inputs) w l (inr h) m s =
        ap (λ (r : Slots). r (guard w l)) (after_append (tests plan [] v) (flat_map (tests plan []) inputs) s)
        ∙ inputs_guard inputs w l h m (after_acts (tests plan [] v) s) ∙ ap (λ x. tested x l) there
      where
        there : after_acts (tests plan [] v) s (value w) ≡ s (value w)
        there = acts_else (tests plan [] v) s (value w) (spares (plan.leaves v))
          where
            spares : (leaves : List Leaf) → Spares (value w) (tests_of plan cells [] v leaves)
            spares [] = tt
            spares (k ∷ leaves) = (refl, spares leaves)

-- ---- a step

module _ (plan : Plan) (inputs : List ℕ) (eqs : List CoreEq) (planned : ArePlanned plan inputs eqs) (led : AreLed plan [] eqs) where
  -- what an equation keeps from step to step: a delay its memory, one that leads whether the next instant is a first one, and a
  -- constant its leaf
  pub record HasKept (old : Memory) (s : Slots) (e : CoreEq) : Type 0 where
    pub memories : keeps_leaf plan e.right ≡ true → s (memory e.var) ≡ (old e).memory
    pub firsts : leads plan e ≡ true → s (first e.var) ≡ Bool (old e).first
    pub constants : (l : Leaf) → e.right ≡ Const l → s (value e.var) ≡ l

  -- the slots of the inputs are set, and delays keep what they are to keep
  pub record Ready (cells : Cells) (old : Memory) (s : Slots) : Type 0 where
    pub leaf : (v : ℕ) (x : Leaf) → Has inputs v → cells v ≡ Some x → s (value v) ≡ x
    pub here : (v : ℕ) → Has inputs v → is_some (cells v) ≡ is_on cells (plan.clock v)
    pub kept : AllOf (HasKept old s) eqs

  -- outputs are shown exactly where they are present
  pub record IsShown (cells : Cells) (s : Slots) (e : CoreEq) : Type 0 where
    pub shown : plan.shows e.var ≡ true → s (present e.var) ≡ Bool (is_on cells e.clock)
    pub told : plan.tells e.var ≡ true → is_true (s (emitted e.var)) ≡ is_held (cells e.var) (Bool true)

  module _ (cells : Cells) (old : Memory) (is_solved : AllOf (IsSolved plan cells old) eqs) (is_whole : AllOf (IsWhole plan cells old (grown inputs eqs)) eqs) (alike : AreAlike plan cells old) (s : Slots) (ready : Ready cells old s) where
    abbrev cleared : Slots
    cleared = after_acts (flat_map (clear_acts plan) eqs) s

    abbrev fed : Slots
    fed = after_acts (flat_map (tests plan []) inputs) cleared

    abbrev pub done : Slots
    done = after_acts (flat_map (equation_acts plan) eqs) fed

    abbrev stepped : Slots
    stepped = after_acts (flat_map (update_acts plan) eqs) done

    pub in_phases : after_acts (step_acts plan inputs eqs) s ≡ stepped
    in_phases = after_append (flat_map (clear_acts plan) eqs) (flat_map (tests plan []) inputs ++ (flat_map (equation_acts plan) eqs ++ flat_map (update_acts plan) eqs)) s
        ∙ after_append (flat_map (tests plan []) inputs) (flat_map (equation_acts plan) eqs ++ flat_map (update_acts plan) eqs) cleared
        ∙ after_append (flat_map (equation_acts plan) eqs) (flat_map (update_acts plan) eqs) fed

    fed_value : (v : ℕ) → fed (value v) ≡ s (value v)
    fed_value v = inputs_else plan cells inputs cleared (value v) (λ w l. refl) ∙ clear_else plan eqs s (value v) (λ w. refl) (λ w. refl)

    pub fed_knows : Knows plan cells inputs fed
    fed_knows = record {
      leaf = λ v x h e. fed_value v ∙ ready.leaf v x h e;
      holds = λ v l x h m e. inputs_guard plan cells inputs v l h m cleared
          ∙ ap (λ y. tested y l) (clear_else plan eqs s (value v) (λ w. refl) (λ w. refl) ∙ ready.leaf v x h e);
      here = ready.here;
    }

    to_before : (list : List CoreEq) → AllOf (HasKept old s) list → AllOf (Hidden plan cleared) list → AllOf (Before plan cells old fed) list
    unfolding Hidden
    to_before [] k h = tt
    to_before (e ∷ rest) k h = (
      record {
        is_kept = λ t. inputs_else plan cells inputs cleared (memory e.var) (λ w l. refl) ∙ clear_else plan eqs s (memory e.var) (λ w. refl) (λ w. refl) ∙ k.0.memories t;
        may_be_first = λ t. inputs_else plan cells inputs cleared (first e.var) (λ w l. refl) ∙ clear_else plan eqs s (first e.var) (λ w. refl) (λ w. refl) ∙ k.0.firsts t;
        is_constant = λ l r. fed_value e.var ∙ k.0.constants l r;
        is_hidden = λ t. inputs_else plan cells inputs cleared (present e.var) (λ w l. refl) ∙ h.0.0 t;
        is_silent = λ t. inputs_else plan cells inputs cleared (emitted e.var) (λ w l. refl) ∙ h.0.1 t;
      },
      to_before rest k.1 h.1,
    )

    pub fed_before : AllOf (Before plan cells old fed) eqs
    fed_before = to_before eqs ready.kept (all_hidden plan eqs s)

    both : Knows plan cells (grown inputs eqs) done × AllOf (After plan cells old done) eqs
    both = equations_know plan cells old alike [] inputs eqs led tt planned is_solved fed tt fed_knows fed_before

    -- the slot of each variable has its leaf
    pub step_knows : Knows plan cells (grown inputs eqs) (after_acts (step_acts plan inputs eqs) s)
    step_knows = subst (λ r. Knows plan cells (grown inputs eqs) r) (sym in_phases) (updates_know plan cells old (grown inputs eqs) eqs done both.0)

    -- and each delay keeps what it is to keep
    pub step_keeps : AllOf (Next plan cells old (after_acts (step_acts plan inputs eqs) s)) eqs
    step_keeps = subst (λ r. AllOf (Next plan cells old r) eqs) (sym in_phases) (updates_next plan cells old inputs (grown inputs eqs) eqs planned is_whole done both.0 both.1)

    pub step_shows : AllOf (IsShown cells (after_acts (step_acts plan inputs eqs) s)) eqs
    step_shows = all_of (After plan cells old done) (IsShown cells (after_acts (step_acts plan inputs eqs) s)) (λ e a. record {
      shown = λ t. ap (λ (r : Slots). r (present e.var)) in_phases ∙ updates_flags plan cells old eqs done (present e.var) (λ v. refl) (λ v. refl) ∙ a.is_shown t;
      told = λ t. ap is_true (ap (λ (r : Slots). r (emitted e.var)) in_phases ∙ updates_flags plan cells old eqs done (emitted e.var) (λ v. refl) (λ v. refl)) ∙ a.is_told t;
    }) eqs both.1

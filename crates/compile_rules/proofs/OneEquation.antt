-- What the acts of one equation do: its slot has its cell's leaf, its guards, first flag and output flags are right.
use Rattle.std.specs.Prelude.{◌≡◌, refl, ℕ, ◌&&◌, ◌||◌, Bool as Truth, true, false, List, [], ◌∷◌, ◌++◌, Option, None, Some, map, if◌then◌else◌}
use Rattle.std.specs.Option.{option_map}
use Rattle.std.proofs.Common.{ap, ap₂, sym, ◌∙◌, subst, inl, inr}
use Rattle.std.proofs.lemmas.Bool.{false≢true}
use Rattle.ls_value.specs.declared.leaf.Leaf.{Leaf}
use Rattle.ls_value.specs.declared.leaf.Leaf.TheVariants.{Nil, Bool}
use Rattle.ls_ops.specs.Values.{value_of}
use Rattle.core_lang.specs.declared.equations.CoreRight.{CoreRight}
use Rattle.core_lang.specs.declared.equations.CoreRight.TheVariants.{Const, Copy, Op, Pre, Fby, Init, Sample, Choose}
use Rattle.step_code.specs.Leaves.{tested, is_true}
use Rattle.core_lang.specs.Leaves.{leaf_of, is_held}
use Rattle.core_lang.specs.Equations.{Cells, is_on, restarts, right_leaf, first_or, chosen}
use Rattle.core_lang.proofs.Instants.{Kept, is_first, past_of}
use Rattle.compile_rules.specs.declared.places.Place.{Place}
use Rattle.compile_rules.specs.declared.places.Place.TheVariants.{Value as value, Memory as memory, First as first, Guard as guard}
use Rattle.compile_rules.specs.declared.places.Act.{Act}
use Rattle.compile_rules.specs.declared.places.Act.TheVariants.{Put as put, Copy as copy, Operate as operate, Test as test}
use Rattle.step_code.specs.Leaves.{leaf_eq}
use Rattle.compile_rules.specs.Scheme.{same_place, Guarded, Slots, place_put, do_act, all_true, act_on, after_acts, guard_of, path, Plan, only, restart_acts, right_acts, remembers, dest, keeps_leaf}
use Rattle.compile_rules.proofs.Frames.{owner, put_there, other_place, act_else, Spares, acts_else, OwnedBy, owned_spares, all_true_append, acts, eqb_refl, leaf_same}
use Rattle.compile_rules.proofs.Agreeing.{present_leaf, Knows, knows_else, guard_true, on_front, on_with, path_on, leaf_at, restart_on, path_else}
use Rattle.core_lang.specs.Orders.{Has}
use Rattle.compile_rules.specs.Plans.{Agrees, AreBranches, AreOperands, AreRestarts, HasLeaf, IsClock, IsOperand, is_some}

pub some_leaf : (t : Truth) (r x : Leaf) → (if t then Some r else None) ≡ Some x → (t ≡ true) × (r ≡ x)
some_leaf true r x e = (refl, ap leaf_of e)
some_leaf false r x e = absurd (false≢true (ap is_some e))

pub some_if : (t : Truth) (r : Leaf) → is_some (if t then Some r else None) ≡ t
some_if true r = refl
some_if false r = refl

module _ (plan : Plan) (cells : Cells) where
  -- ---- acts that write places of a variable that is not known

  pub known_else : (known : List ℕ) (v : ℕ) → ¬ Has known v → (as' : List Guarded) → OwnedBy v as' → (s : Slots) (p : Place) → Has known (owner p) → after_acts as' s p ≡ s p
  known_else known v new as' o s p h = acts_else as' s p (owned_spares v as' p o (λ e. new (subst (λ w. Has known w) e h)))

  pub path_kept : (known : List ℕ) (v : ℕ) → ¬ Has known v → (as' : List Guarded) → OwnedBy v as' → (s : Slots) (clock : List (ℕ × Leaf)) → IsClock plan known [] clock
      → all_true (after_acts as' s) (path clock) ≡ all_true s (path clock)
  path_kept known v new as' o s clock c =
      path_else plan known s (after_acts as' s) (λ w h. known_else known v new as' o s (value w) h) (λ w l h. known_else known v new as' o s (guard w l) h) [] clock c

  pub knows_kept : (known : List ℕ) (v : ℕ) → ¬ Has known v → (as' : List Guarded) → OwnedBy v as' → (s : Slots) → Knows plan cells known s → Knows plan cells known (after_acts as' s)
  knows_kept known v new as' o s k =
      knows_else plan cells known s (after_acts as' s) k (λ w h. known_else known v new as' o s (value w) h) (λ w l h. known_else known v new as' o s (guard w l) h)

  pub owned_restarts : (v : ℕ) (rs : List ℕ) → OwnedBy v (restart_acts plan v rs)
  owned_restarts v [] = tt
  owned_restarts v (r ∷ rs) = (refl, owned_restarts v rs)

  owned_branches : (v c : ℕ) (on : List Place) (branches : List (Leaf × ℕ)) → OwnedBy v (map (λ branch. (on ++ guard_of c branch.0 ∷ [], copy (value v) (value branch.1))) branches)
  owned_branches v c on [] = tt
  owned_branches v c on (branch ∷ rest) = (refl, owned_branches v c on rest)

  pub owned_right : (v : ℕ) (on : List Place) (right : CoreRight) → OwnedBy v (right_acts plan v on right)
  owned_right v on (Const leaf) = tt
  owned_right v on (Copy a) = (refl, tt)
  owned_right v on (Op op args) = (refl, tt)
  owned_right v on (Pre a) = (refl, (refl, tt))
  owned_right v on (Fby a b) = (refl, (refl, tt))
  owned_right v on (Init a b) = (refl, (refl, tt))
  owned_right v on (Sample a) = (refl, tt)
  owned_right v on (Choose c branches) = (refl, owned_branches v c on branches)

  abbrev pub tests_of : List Place → ℕ → List Leaf → List Guarded
  tests_of on v leaves = map (λ leaf. (on, test (guard v leaf) (value v) leaf)) leaves

  pub owned_tests : (on : List Place) (v : ℕ) (leaves : List Leaf) → OwnedBy v (tests_of on v leaves)
  owned_tests on v [] = tt
  owned_tests on v (leaf ∷ leaves) = (refl, owned_tests on v leaves)

  pub owned_only : (v : ℕ) (t : Truth) (act : Guarded) → owner (dest act.1) ≡ v → OwnedBy v (only t act)
  owned_only v true act e = (e, tt)
  owned_only v false act e = tt

  -- ---- what else the acts leave

  pub spares_restarts : (v : ℕ) (rs : List ℕ) (p : Place) → same_place (first v) p ≡ false → Spares p (restart_acts plan v rs)
  spares_restarts v [] p e = tt
  spares_restarts v (r ∷ rs) p e = (e, spares_restarts v rs p e)

  spares_branches : (v c : ℕ) (on : List Place) (branches : List (Leaf × ℕ)) (p : Place) → same_place (value v) p ≡ false → Spares p (map (λ branch. (on ++ guard_of c branch.0 ∷ [], copy (value v) (value branch.1))) branches)
  spares_branches v c on [] p e = tt
  spares_branches v c on (branch ∷ rest) p e = (e, spares_branches v c on rest p e)

  pub spares_right : (v : ℕ) (on : List Place) (right : CoreRight) (p : Place) → same_place (value v) p ≡ false → Spares p (right_acts plan v on right)
  spares_right v on (Const leaf) p e = tt
  spares_right v on (Copy a) p e = (e, tt)
  spares_right v on (Op op args) p e = (e, tt)
  spares_right v on (Pre a) p e = (e, (e, tt))
  spares_right v on (Fby a b) p e = (e, (e, tt))
  spares_right v on (Init a b) p e = (e, (e, tt))
  spares_right v on (Sample a) p e = (e, tt)
  spares_right v on (Choose c branches) p e = (e, spares_branches v c on branches p e)

  pub spares_tests : (on : List Place) (v : ℕ) (leaves : List Leaf) (p : Place) → ((l : Leaf) → same_place (guard v l) p ≡ false) → Spares p (tests_of on v leaves)
  spares_tests on v [] p e = tt
  spares_tests on v (leaf ∷ leaves) p e = (e leaf, spares_tests on v leaves p e)

  pub spares_only : (t : Truth) (act : Guarded) (p : Place) → same_place (dest act.1) p ≡ false → Spares p (only t act)
  spares_only true act p e = (e, tt)
  spares_only false act p e = tt

  -- ---- restarts

  or_first : (a b f : Truth) → (if b then true else (if a then true else f)) ≡ (if a || b then true else f)
  or_first true true f = refl
  or_first true false f = refl
  or_first false b f = refl

  pub restarts_first : (known : List ℕ) (v : ℕ) (rs : List ℕ) → AreRestarts plan known rs → (s : Slots) (f : Truth) → Knows plan cells known s → s (first v) ≡ Bool f
      → after_acts (restart_acts plan v rs) s (first v) ≡ Bool (if restarts cells rs then true else f)
  restarts_first known v [] h s f k is = is
  restarts_first known v (r ∷ rs) h s f k is =
      restarts_first known v rs h.1 (act_on act s) (if is_held (cells r) (Bool true) then true else f)
      (knows_else plan cells known s (act_on act s) k (λ w _. act_else act s (value w) refl) (λ w l _. act_else act s (guard w l) refl))
      (set (all_true s act.0) ∙ ap (λ t. Bool (if t then true else f)) (restart_on plan cells known s k r h.0.0 h.0.1))
      ∙ ap Bool (or_first (is_held (cells r) (Bool true)) (restarts cells rs) f)
    where
      act : Guarded
      act = (path (plan.clock r) ++ value r ∷ [], put (first v) (Bool true))

      set : (t : Truth) → (if t then place_put s (first v) (Bool true) else s) (first v) ≡ Bool (if t then true else f)
      set true = put_there s (first v) (Bool true)
      set false = is

  -- ---- the leaf

  not_same : (known : List ℕ) (v a : ℕ) → ¬ Has known v → Has known a → same_place (value v) (value a) ≡ false
  not_same known v a new h = other_place (value v) (value a) (λ e. new (subst (λ w. Has known w) e h))

  pub args_leaves : (known : List ℕ) (s : Slots) → Knows plan cells known s → (clock : List (ℕ × Leaf)) → is_on cells clock ≡ true → (args : List ℕ) → AreOperands plan known clock args
      → map s (map value args) ≡ map (λ a. leaf_of (cells a)) args
  args_leaves known s k clock on [] h = refl
  args_leaves known s k clock on (a ∷ rest) h =
      ap₂ (λ x xs. x ∷ xs) (leaf_at plan cells known s k a h.0.0 (ap (is_on cells) h.0.1 ∙ on)) (args_leaves known s k clock on rest h.1)

  -- two acts, of which the second is done at a first instant
  two_acts : (known : List ℕ) (v g : ℕ) → ¬ Has known v → (clock : List (ℕ × Leaf)) → IsClock plan known [] clock → (s : Slots) (f : Truth) → all_true s (path clock) ≡ true → s (first g) ≡ Bool f
      → (x y : Leaf) (one two : Act) → do_act one s ≡ place_put s (value v) x → do_act two (place_put s (value v) x) ≡ place_put (place_put s (value v) x) (value v) y
      → after_acts ((path clock, one) ∷ (path clock ++ first g ∷ [], two) ∷ []) s (value v) ≡ (if f then y else x)
  two_acts known v g new clock c s f on is x y one two e e' =
      ap (λ (r : Slots). act_on (path clock ++ first g ∷ [], two) r (value v)) (acts s (path clock) one on ∙ e)
      ∙ ap (λ t. (if t then do_act two q else q) (value v)) (all_true_append q (path clock) (first g ∷ [])
      ∙ ap₂ (λ t leaf. if t then (if is_true leaf then true else false) else false) (path_else plan known s q (λ w h. ap (λ t. if t then x else s (value w)) (not_same known v w new h)) (λ w l h. refl) [] clock c ∙ on) is)
      ∙ by_first f
    where
      q : Slots
      q = place_put s (value v) x

      by_first : (t : Truth) → (if (if t then true else false) then do_act two q else q) (value v) ≡ (if t then y else x)
      by_first true = ap (λ (r : Slots). r (value v)) e' ∙ put_there q (value v) y
      by_first false = put_there s (value v) x

  pre_leaf : (f : Truth) (m : Leaf) (a : ℕ) → (if f then Nil else m) ≡ first_or (option_map (λ (old : Cells). leaf_of (old a)) (if f then None else Some (λ _. Some m))) Nil
  pre_leaf true m a = refl
  pre_leaf false m a = refl

  fby_leaf : (f : Truth) (m x : Leaf) (b : ℕ) → (if f then x else m) ≡ first_or (option_map (λ (old : Cells). leaf_of (old b)) (if f then None else Some (λ _. Some m))) x
  fby_leaf true m x b = refl
  fby_leaf false m x b = refl

  init_leaf : (f : Truth) (m x y : Leaf) → (if f then x else y) ≡ first_or (option_map (λ (old : Cells). y) (if f then None else Some (λ _. Some m))) x
  init_leaf true m x y = refl
  init_leaf false m x y = refl

  branches_leaf : (known : List ℕ) (v : ℕ) → ¬ Has known v → (clock : List (ℕ × Leaf)) → IsClock plan known [] clock → is_on cells clock ≡ true → (c : ℕ) → IsOperand plan known clock c → (x : Leaf) → cells c ≡ Some x
      → (branches : List (Leaf × ℕ)) → AreBranches plan known clock c branches → (s : Slots) (so_far : Leaf) → Knows plan cells known s → s (value v) ≡ so_far
      → after_acts (map (λ branch. (path clock ++ guard_of c branch.0 ∷ [], copy (value v) (value branch.1))) branches) s (value v) ≡ chosen cells so_far x branches
  branches_leaf known v new clock ck on c oc x is [] h s so_far k e = e
  branches_leaf known v new clock ck on c oc x is (branch ∷ rest) h s so_far k e =
      branches_leaf known v new clock ck on c oc x is rest h.2 (act_on act s) (if is_true (tested x branch.0) then leaf_of (cells branch.1) else so_far)
      (knows_kept known v new (act ∷ []) (refl, tt) s k)
      (ap (λ t. (if t then place_put s (value v) (s (value branch.1)) else s) (value v))
      (all_true_append s (path clock) (guard_of c branch.0 ∷ [])
      ∙ ap₂ (λ t u. if t then (if u then true else false) else false) (path_on plan cells known s k clock ck ∙ on) (guard_true plan cells known s k c branch.0 x oc.0 h.1 is))
      ∙ by_test (is_true (tested x branch.0)) refl)
    where
      act : Guarded
      act = (path clock ++ guard_of c branch.0 ∷ [], copy (value v) (value branch.1))

      held : is_true (tested x branch.0) ≡ true → is_held (cells c) branch.0 ≡ true
      held t = ap (λ (o : Option Leaf). is_held o branch.0) is ∙ t

      by_test : (t : Truth) → is_true (tested x branch.0) ≡ t → (if (if t then true else false) then place_put s (value v) (s (value branch.1)) else s) (value v) ≡ (if t then leaf_of (cells branch.1) else so_far)
      by_test true t = put_there s (value v) (s (value branch.1))
          ∙ leaf_at plan cells known s k branch.1 h.0.0 (ap (is_on cells) h.0.1 ∙ on_with plan cells clock (c, branch.0) on (held t))
      by_test false t = e

  pub right_value : (known : List ℕ) (v : ℕ) → ¬ Has known v → (clock : List (ℕ × Leaf)) → IsClock plan known [] clock → (right : CoreRight) → Agrees plan known clock right → is_on cells clock ≡ true
      → (s : Slots) (kept : Kept) (again : Truth) → Knows plan cells known s → (keeps_leaf plan right ≡ true → s (memory v) ≡ kept.memory) → (remembers plan right ≡ true → s (first (plan.lead v)) ≡ Bool (is_first kept again)) → ((l : Leaf) → right ≡ Const l → s (value v) ≡ l)
      → after_acts (right_acts plan v (path clock) right) s (value v) ≡ right_leaf right cells (past_of kept again)
  right_value known v new clock c (Const leaf) h on s kept again k mm m held = held leaf refl
  right_value known v new clock c (Copy a) h on s kept again k mm m held =
      ap (λ (r : Slots). r (value v)) (acts s (path clock) (copy (value v) (value a)) (path_on plan cells known s k clock c ∙ on)) ∙ put_there s (value v) (s (value a))
      ∙ leaf_at plan cells known s k a h.0 (ap (is_on cells) h.1 ∙ on)
  right_value known v new clock c (Op op args) h on s kept again k mm m held =
      ap (λ (r : Slots). r (value v)) (acts s (path clock) (operate (value v) op (map value args)) (path_on plan cells known s k clock c ∙ on)) ∙ put_there s (value v) (value_of op (map s (map value args)))
      ∙ ap (value_of op) (args_leaves known s k clock on args h)
  right_value known v new clock c (Pre a) h on s kept again k mm m held =
      two_acts known v (plan.lead v) new clock c s (is_first kept again) (path_on plan cells known s k clock c ∙ on) (m refl) (s (memory v)) Nil (copy (value v) (memory v)) (put (value v) Nil) refl refl
      ∙ ap (λ x. if is_first kept again then Nil else x) (mm refl) ∙ pre_leaf (is_first kept again) kept.memory a
  right_value known v new clock c (Fby a b) h on s kept again k mm m held =
      two_acts known v (plan.lead v) new clock c s (is_first kept again) (path_on plan cells known s k clock c ∙ on) (m refl) (s (memory v)) (place_put s (value v) (s (memory v)) (value a))
      (copy (value v) (memory v)) (copy (value v) (value a)) refl refl
      ∙ ap₂ (λ x y. if is_first kept again then y else x) (mm refl)
      (ap (λ t. if t then s (memory v) else s (value a)) (not_same known v a new h.0) ∙ leaf_at plan cells known s k a h.0 (ap (is_on cells) h.1 ∙ on))
      ∙ fby_leaf (is_first kept again) kept.memory (leaf_of (cells a)) b
  right_value known v new clock c (Init a b) h on s kept again k mm m held =
      two_acts known v (plan.lead v) new clock c s (is_first kept again) (path_on plan cells known s k clock c ∙ on) (m refl) (s (value b)) (place_put s (value v) (s (value b)) (value a))
      (copy (value v) (value b)) (copy (value v) (value a)) refl refl
      ∙ ap₂ (λ x y. if is_first kept again then y else x) (leaf_at plan cells known s k b h.1.0 (ap (is_on cells) h.1.1 ∙ on))
      (ap (λ t. if t then s (value b) else s (value a)) (not_same known v a new h.0.0) ∙ leaf_at plan cells known s k a h.0.0 (ap (is_on cells) h.0.1 ∙ on))
      ∙ init_leaf (is_first kept again) kept.memory (leaf_of (cells a)) (leaf_of (cells b))
  right_value known v new clock c (Sample a) h on s kept again k mm m held =
      ap (λ (r : Slots). r (value v)) (acts s (path clock) (copy (value v) (value a)) (path_on plan cells known s k clock c ∙ on)) ∙ put_there s (value v) (s (value a))
      ∙ leaf_at plan cells known s k a h.0 (on_front plan cells (plan.clock a) h.1.0 (sym (ap (is_on cells) h.1.1) ∙ on))
  right_value known v new clock c (Choose x branches) h on s kept again k mm m held =
      let w = present_leaf (cells x) (k.here x h.0.0 ∙ ap (is_on cells) h.0.1 ∙ on) in
      ap (λ (r : Slots). after_acts (map (λ branch. (path clock ++ guard_of x branch.0 ∷ [], copy (value v) (value branch.1))) branches) r (value v))
      (acts s (path clock) (put (value v) Nil) (path_on plan cells known s k clock c ∙ on))
      ∙ branches_leaf known v new clock c on x h.0 w.0 w.1 branches h.1 (place_put s (value v) Nil) Nil
      (knows_else plan cells known s (place_put s (value v) Nil) k (λ u hu. ap (λ t. if t then Nil else s (value u)) (not_same known v u new hu)) (λ u l hu. refl))
      (put_there s (value v) Nil)
      ∙ ap (λ (o : Option Leaf). chosen cells Nil (leaf_of o) branches) (sym w.1)

  -- ---- guards

  stays_tested : (v : ℕ) (on : List Place) (l : Leaf) (leaves : List Leaf) (s : Slots) → s (guard v l) ≡ tested (s (value v)) l
      → after_acts (tests_of on v leaves) s (guard v l) ≡ tested (s (value v)) l
  stays_tested v on l [] s e = e
  stays_tested v on l (k ∷ leaves) s e =
      stays_tested v on l leaves (act_on act s) (set (all_true s on) ∙ ap (λ x. tested x l) (sym there)) ∙ ap (λ x. tested x l) there
    where
      act : Guarded
      act = (on, test (guard v k) (value v) k)

      there : act_on act s (value v) ≡ s (value v)
      there = act_else act s (value v) refl

      by_leaf : (t : Truth) → leaf_eq k l ≡ t → (if t then tested (s (value v)) k else s (guard v l)) ≡ tested (s (value v)) l
      by_leaf true t = ap (λ y. tested (s (value v)) y) (leaf_same k l t)
      by_leaf false t = e

      set : (t : Truth) → (if t then do_act (test (guard v k) (value v) k) s else s) (guard v l) ≡ tested (s (value v)) l
      set true = ap (λ t. if t && leaf_eq k l then tested (s (value v)) k else s (guard v l)) (eqb_refl v) ∙ by_leaf (leaf_eq k l) refl
      set false = e

  pub tests_guard : (known : List ℕ) (v : ℕ) → ¬ Has known v → (clock : List (ℕ × Leaf)) → IsClock plan known [] clock → (l : Leaf) (leaves : List Leaf) → HasLeaf leaves l → (s : Slots) → all_true s (path clock) ≡ true
      → after_acts (tests_of (path clock) v leaves) s (guard v l) ≡ tested (s (value v)) l
  tests_guard known v new clock c l [] h s on = absurd h
  tests_guard known v new clock c l (k ∷ leaves) (inl e) s on =
      stays_tested v (path clock) l leaves (act_on act s)
      (ap (λ (r : Slots). r (guard v l)) (acts s (path clock) (test (guard v k) (value v) k) on)
      ∙ subst (λ y. place_put s (guard v k) (tested (s (value v)) k) (guard v y) ≡ tested (s (value v)) y) e (put_there s (guard v k) (tested (s (value v)) k))
      ∙ ap (λ x. tested x l) (sym there)) ∙ ap (λ x. tested x l) there
    where
      act : Guarded
      act = (path clock, test (guard v k) (value v) k)

      there : act_on act s (value v) ≡ s (value v)
      there = act_else act s (value v) refl
  tests_guard known v new clock c l (k ∷ leaves) (inr h) s on =
      tests_guard known v new clock c l leaves h (act_on (path clock, test (guard v k) (value v) k) s)
      (path_kept known v new ((path clock, test (guard v k) (value v) k) ∷ []) (refl, tt) s clock c ∙ on)
      ∙ ap (λ x. tested x l) (act_else (path clock, test (guard v k) (value v) k) s (value v) refl)

-- What a step does to the slots of a core: each variable's slot has its cell's leaf, each delay keeps what it is to keep, and
-- outputs are shown where they are present.
use Rattle.std.specs.Prelude.{◌≡◌, refl, ℕ, ◌==◌, ◌&&◌, Bool as Truth, true, false, List, [], ◌∷◌, ◌++◌, Option, None, Some, if◌then◌else◌}
use Rattle.std.proofs.Common.{ap, sym, ◌∙◌, subst, inl, inr}
use Rattle.ls_value.specs.declared.leaf.Leaf.{Leaf}
use Rattle.ls_value.specs.declared.leaf.Leaf.TheVariants.{Nil, Int, Bool, Char, Text, Enum, Unit as Nothing}
use Rattle.core_lang.specs.declared.equations.CoreEq.{CoreEq}
use Rattle.core_lang.specs.declared.equations.CoreRight.TheVariants.{Const}
use Rattle.step_code.specs.Leaves.{tested, is_true}
use Rattle.core_lang.specs.Leaves.{is_held}
use Rattle.core_lang.specs.Equations.{Cells, is_on, restarts, right_leaf}
use Rattle.core_lang.proofs.Instants.{Memory, is_first, past_of, cell_now}
use Rattle.compile_rules.specs.declared.places.Place.{Place}
use Rattle.compile_rules.specs.declared.places.Place.TheVariants.{Value as value, Memory as memory, First as first, Guard as guard, Present as present, Emitted as emitted}
use Rattle.compile_rules.specs.declared.places.Act.TheVariants.{Put as put, Copy as copy}
use Rattle.compile_rules.specs.Scheme.{same_place, Guarded, Slots, place_put, all_true, after_acts, path, Plan, only, restart_acts, right_acts, remembers, equation_acts, keeps_leaf, leads}
use Rattle.compile_rules.proofs.Frames.{eqb_same, put_there, Spares, acts_else, OwnedBy, owned_append, after_append}
use Rattle.compile_rules.proofs.Agreeing.{Knows, path_on}
use Rattle.compile_rules.proofs.OneEquation.{some_leaf, some_if, knows_kept, owned_restarts, owned_right, tests_of, owned_tests, owned_only, spares_restarts, spares_right, spares_tests, spares_only, restarts_first, right_value, tests_guard}
use Rattle.core_lang.specs.Orders.{AllOf, Has}
use Rattle.compile_rules.specs.Plans.{ArePlanned, HasLeaf, IsPlanned, grown, is_some}

pub all_of : (P Q : CoreEq → Type 0) → ((e : CoreEq) → P e → Q e) → (eqs : List CoreEq) → AllOf P eqs → AllOf Q eqs
all_of P Q f [] h = tt
all_of P Q f (e ∷ rest) h = (f e h.0, all_of P Q f rest h.1)

pub grown_has : (known : List ℕ) (eqs : List CoreEq) (v : ℕ) → Has known v → Has (grown known eqs) v
grown_has known [] v h = h
grown_has known (e ∷ rest) v h = grown_has (e.var ∷ known) rest v (inr h)

-- a variable that is known is none of the equations'
pub others : (plan : Plan) (known : List ℕ) (eqs : List CoreEq) (v : ℕ) → ArePlanned plan known eqs → Has known v → AllOf (λ e. ¬ (v ≡ e.var)) eqs
others plan known [] v h k = tt
others plan known (e ∷ rest) v h k = (λ same. h.0.is_new (subst (λ w. Has known w) same k), others plan (e.var ∷ known) rest v h.1 (inr k))

module _ (plan : Plan) (cells : Cells) (old : Memory) where
  -- what the slots of an equation have before its acts, and after them
  pub record Before (s : Slots) (e : CoreEq) : Type 0 where
    pub is_kept : keeps_leaf plan e.right ≡ true → s (memory e.var) ≡ (old e).memory
    pub may_be_first : leads plan e ≡ true → s (first e.var) ≡ Bool (old e).first
    pub is_constant : (l : Leaf) → e.right ≡ Const l → s (value e.var) ≡ l
    pub is_hidden : plan.shows e.var ≡ true → s (present e.var) ≡ Bool false
    pub is_silent : plan.tells e.var ≡ true → s (emitted e.var) ≡ Bool false

  pub record After (s : Slots) (e : CoreEq) : Type 0 where
    pub is_kept : keeps_leaf plan e.right ≡ true → s (memory e.var) ≡ (old e).memory
    pub may_be_first : leads plan e ≡ true → s (first e.var) ≡ Bool (is_first (old e) (restarts cells e.restarts))
    pub is_constant : (l : Leaf) → e.right ≡ Const l → s (value e.var) ≡ l
    pub is_shown : plan.shows e.var ≡ true → s (present e.var) ≡ Bool (is_on cells e.clock)
    pub is_told : plan.tells e.var ≡ true → is_true (s (emitted e.var)) ≡ is_held (cells e.var) (Bool true)

  own_true : (x : Leaf) → is_true x ≡ is_true (tested x (Bool true))
  own_true Nil = refl
  own_true (Int n) = refl
  own_true (Bool true) = refl
  own_true (Bool false) = refl
  own_true (Char c) = refl
  own_true (Text t) = refl
  own_true (Enum t a) = refl
  own_true Nothing = refl

  -- the flag of its group, where another equation leads this and is done
  abbrev pub Led : Slots → CoreEq → Type 0
  Led s x = remembers plan x.right ≡ true → leads plan x ≡ false → s (first (plan.lead x.var)) ≡ Bool (is_first (old x) (restarts cells x.restarts))

  -- ---- one equation

  module _ (known : List ℕ) (e : CoreEq) (planned : IsPlanned plan known e) (cell : cells e.var ≡ cell_now old e cells) where
    v : ℕ
    v = e.var

    abbrev p : List Place
    p = path e.clock

    abbrev acts1 : List Guarded
    acts1 = if leads plan e then restart_acts plan e.var e.restarts else []

    abbrev acts2 : List Guarded
    acts2 = right_acts plan e.var (path e.clock) e.right

    abbrev acts3 : List Guarded
    acts3 = tests_of plan cells (path e.clock) e.var (plan.leaves e.var)

    abbrev acts4 : List Guarded
    acts4 = only (plan.shows e.var) (path e.clock, put (present e.var) (Bool true))

    abbrev acts5 : List Guarded
    acts5 = only (plan.tells e.var) (path e.clock, copy (emitted e.var) (value e.var))

    owned1 : OwnedBy e.var acts1
    owned1 = by_truth (leads plan e)
      where
        by_truth : (t : Truth) → OwnedBy e.var (if t then restart_acts plan e.var e.restarts else [])
        by_truth true = owned_restarts plan cells e.var e.restarts
        by_truth false = tt

    owned2 : OwnedBy e.var acts2
    owned2 = owned_right plan cells e.var (path e.clock) e.right

    owned3 : OwnedBy e.var acts3
    owned3 = owned_tests plan cells (path e.clock) e.var (plan.leaves e.var)

    owned4 : OwnedBy e.var acts4
    owned4 = owned_only plan cells e.var (plan.shows e.var) (path e.clock, put (present e.var) (Bool true)) refl

    owned5 : OwnedBy e.var acts5
    owned5 = owned_only plan cells e.var (plan.tells e.var) (path e.clock, copy (emitted e.var) (value e.var)) refl

    pub owned_equation : OwnedBy e.var (equation_acts plan e)
    owned_equation = owned_append e.var acts1 (acts2 ++ (acts3 ++ (acts4 ++ acts5))) owned1 (owned_append e.var acts2 (acts3 ++ (acts4 ++ acts5)) owned2
        (owned_append e.var acts3 (acts4 ++ acts5) owned3 (owned_append e.var acts4 acts5 owned4 owned5)))

    module _ (s : Slots) (knows : Knows plan cells known s) (before : Before s e) (led : Led s e) where
      abbrev s1 : Slots
      s1 = after_acts acts1 s

      abbrev s2 : Slots
      s2 = after_acts acts2 s1

      abbrev s3 : Slots
      s3 = after_acts acts3 s2

      abbrev s4 : Slots
      s4 = after_acts acts4 s3

      abbrev s5 : Slots
      s5 = after_acts acts5 s4

      pub in_parts : after_acts (equation_acts plan e) s ≡ s5
      in_parts = after_append acts1 (acts2 ++ (acts3 ++ (acts4 ++ acts5))) s ∙ after_append acts2 (acts3 ++ (acts4 ++ acts5)) s1
          ∙ after_append acts3 (acts4 ++ acts5) s2 ∙ after_append acts4 acts5 s3

      knows1 : Knows plan cells known s1
      knows1 = knows_kept plan cells known e.var planned.is_new acts1 owned1 s knows

      knows2 : Knows plan cells known s2
      knows2 = knows_kept plan cells known e.var planned.is_new acts2 owned2 s1 knows1

      knows3 : Knows plan cells known s3
      knows3 = knows_kept plan cells known e.var planned.is_new acts3 owned3 s2 knows2

      knows4 : Knows plan cells known s4
      knows4 = knows_kept plan cells known e.var planned.is_new acts4 owned4 s3 knows3

      knows5 : Knows plan cells known s5
      knows5 = knows_kept plan cells known e.var planned.is_new acts5 owned5 s4 knows4

      -- from a place that an act of the first kind alone may write to the end
      rest2 : (q : Place) → same_place (value e.var) q ≡ false → ((l : Leaf) → same_place (guard e.var l) q ≡ false) → same_place (present e.var) q ≡ false → same_place (emitted e.var) q ≡ false → s5 q ≡ s1 q
      rest2 q a b c d = acts_else acts5 s4 q (spares_only plan cells (plan.tells e.var) (path e.clock, copy (emitted e.var) (value e.var)) q d)
          ∙ acts_else acts4 s3 q (spares_only plan cells (plan.shows e.var) (path e.clock, put (present e.var) (Bool true)) q c)
          ∙ acts_else acts3 s2 q (spares_tests plan cells (path e.clock) e.var (plan.leaves e.var) q b)
          ∙ acts_else acts2 s1 q (spares_right plan cells e.var (path e.clock) e.right q a)

      spares1 : (q : Place) → same_place (first e.var) q ≡ false → Spares q acts1
      spares1 q a = by_truth (leads plan e)
        where
          by_truth : (t : Truth) → Spares q (if t then restart_acts plan e.var e.restarts else [])
          by_truth true = spares_restarts plan cells e.var e.restarts q a
          by_truth false = tt

      memory1 : s1 (memory e.var) ≡ s (memory e.var)
      memory1 = acts_else acts1 s (memory e.var) (spares1 (memory e.var) refl)

      first1 : leads plan e ≡ true → s1 (first e.var) ≡ Bool (is_first (old e) (restarts cells e.restarts))
      first1 yes' = ap (λ t. after_acts (if t then restart_acts plan e.var e.restarts else []) s (first e.var)) yes'
          ∙ restarts_first plan cells known e.var e.restarts planned.are_restarts s (old e).first knows (before.may_be_first yes')

      lead_same : remembers plan e.right ≡ true → leads plan e ≡ true → plan.lead e.var ≡ e.var
      lead_same yes' is = eqb_same (plan.lead e.var) e.var (sym (ap (λ t. t && (plan.lead e.var == e.var)) yes') ∙ is)

      flag1 : remembers plan e.right ≡ true → (t : Truth) → leads plan e ≡ t → s1 (first (plan.lead e.var)) ≡ Bool (is_first (old e) (restarts cells e.restarts))
      flag1 yes' true is = subst (λ g. s1 (first g) ≡ Bool (is_first (old e) (restarts cells e.restarts))) (sym (lead_same yes' is)) (first1 is)
      flag1 yes' false is = ap (λ u. after_acts (if u then restart_acts plan e.var e.restarts else []) s (first (plan.lead e.var))) is ∙ led yes' is

      value2 : is_on cells e.clock ≡ true → s2 (value e.var) ≡ right_leaf e.right cells (past_of (old e) (restarts cells e.restarts))
      value2 on = right_value plan cells known e.var planned.is_new e.clock planned.is_clock e.right planned.agrees on s1 (old e) (restarts cells e.restarts) knows1
          (λ yes'. memory1 ∙ before.is_kept yes') (λ yes'. flag1 yes' (leads plan e) refl) (λ l r. acts_else acts1 s (value e.var) (spares1 (value e.var) refl) ∙ before.is_constant l r)

      on3 : is_on cells e.clock ≡ true → all_true s2 (path e.clock) ≡ true
      on3 on = path_on plan cells known s2 knows2 e.clock planned.is_clock ∙ on

      value3 : s3 (value e.var) ≡ s2 (value e.var)
      value3 = acts_else acts3 s2 (value e.var) (spares_tests plan cells (path e.clock) e.var (plan.leaves e.var) (value e.var) (λ l. refl))

      value4 : s4 (value e.var) ≡ s2 (value e.var)
      value4 = acts_else acts4 s3 (value e.var) (spares_only plan cells (plan.shows e.var) (path e.clock, put (present e.var) (Bool true)) (value e.var) refl) ∙ value3

      value5 : s5 (value e.var) ≡ s2 (value e.var)
      value5 = acts_else acts5 s4 (value e.var) (spares_only plan cells (plan.tells e.var) (path e.clock, copy (emitted e.var) (value e.var)) (value e.var) refl) ∙ value4

      is_leaf : (x : Leaf) → cells e.var ≡ Some x → (is_on cells e.clock ≡ true) × (s2 (value e.var) ≡ x)
      is_leaf x h =
          let w = some_leaf (is_on cells e.clock) (right_leaf e.right cells (past_of (old e) (restarts cells e.restarts))) x (sym cell ∙ h) in
          (w.0, value2 w.0 ∙ w.1)

      guard5 : (l x : Leaf) → HasLeaf (plan.leaves e.var) l → cells e.var ≡ Some x → s5 (guard e.var l) ≡ tested x l
      guard5 l x m h =
          acts_else acts5 s4 (guard e.var l) (spares_only plan cells (plan.tells e.var) (path e.clock, copy (emitted e.var) (value e.var)) (guard e.var l) refl)
          ∙ acts_else acts4 s3 (guard e.var l) (spares_only plan cells (plan.shows e.var) (path e.clock, put (present e.var) (Bool true)) (guard e.var l) refl)
          ∙ tests_guard plan cells known e.var planned.is_new e.clock planned.is_clock l (plan.leaves e.var) m s2 (on3 (is_leaf x h).0)
          ∙ ap (λ y. tested y l) (is_leaf x h).1

      knows_more : Knows plan cells (e.var ∷ known) s5
      knows_more = record {
        leaf = λ w x h is. by_leaf w x h is;
        holds = λ w l x h m is. by_guard w l x h m is;
        here = λ w h. by_here w h;
      }
        where
          by_leaf : (w : ℕ) (x : Leaf) → Has (e.var ∷ known) w → cells w ≡ Some x → s5 (value w) ≡ x
          by_leaf w x (inl same) is = subst (λ u. cells u ≡ Some x → s5 (value u) ≡ x) same (λ is'. value5 ∙ (is_leaf x is').1) is
          by_leaf w x (inr h) is = knows5.leaf w x h is

          by_guard : (w : ℕ) (l x : Leaf) → Has (e.var ∷ known) w → HasLeaf (plan.leaves w) l → cells w ≡ Some x → s5 (guard w l) ≡ tested x l
          by_guard w l x (inl same) m is = subst (λ u. HasLeaf (plan.leaves u) l → cells u ≡ Some x → s5 (guard u l) ≡ tested x l) same (λ m' is'. guard5 l x m' is') m is
          by_guard w l x (inr h) m is = knows5.holds w l x h m is

          by_here : (w : ℕ) → Has (e.var ∷ known) w → is_some (cells w) ≡ is_on cells (plan.clock w)
          by_here w (inl same) = subst (λ u. is_some (cells u) ≡ is_on cells (plan.clock u)) same
              (ap is_some cell ∙ some_if (is_on cells e.clock) (right_leaf e.right cells (past_of (old e) (restarts cells e.restarts))) ∙ sym (ap (is_on cells) planned.own))
          by_here w (inr h) = knows5.here w h

      to3 : (q : Place) → same_place (first e.var) q ≡ false → same_place (value e.var) q ≡ false → ((l : Leaf) → same_place (guard e.var l) q ≡ false) → s3 q ≡ s q
      to3 q a b c = acts_else acts3 s2 q (spares_tests plan cells (path e.clock) e.var (plan.leaves e.var) q c)
          ∙ acts_else acts2 s1 q (spares_right plan cells e.var (path e.clock) e.right q b) ∙ acts_else acts1 s q (spares1 q a)

      shown5 : plan.shows e.var ≡ true → s5 (present e.var) ≡ Bool (is_on cells e.clock)
      shown5 yes' =
          acts_else acts5 s4 (present e.var) (spares_only plan cells (plan.tells e.var) (path e.clock, copy (emitted e.var) (value e.var)) (present e.var) refl)
          ∙ ap (λ t. after_acts (only t (path e.clock, put (present e.var) (Bool true))) s3 (present e.var)) yes'
          ∙ ap (λ t. (if t then place_put s3 (present e.var) (Bool true) else s3) (present e.var)) (path_on plan cells known s3 knows3 e.clock planned.is_clock)
          ∙ by_truth (is_on cells e.clock)
        where
          by_truth : (t : Truth) → (if t then place_put s3 (present e.var) (Bool true) else s3) (present e.var) ≡ Bool t
          by_truth true = put_there s3 (present e.var) (Bool true)
          by_truth false = to3 (present e.var) refl refl (λ l. refl) ∙ before.is_hidden yes'

      told5 : plan.tells e.var ≡ true → is_true (s5 (emitted e.var)) ≡ is_held (cells e.var) (Bool true)
      told5 yes' =
          ap is_true (ap (λ t. after_acts (only t (path e.clock, copy (emitted e.var) (value e.var))) s4 (emitted e.var)) yes'
          ∙ ap (λ t. (if t then place_put s4 (emitted e.var) (s4 (value e.var)) else s4) (emitted e.var)) (path_on plan cells known s4 knows4 e.clock planned.is_clock))
          ∙ by_truth (is_on cells e.clock) refl
        where
          emitted4 : s4 (emitted e.var) ≡ Bool false
          emitted4 = acts_else acts4 s3 (emitted e.var) (spares_only plan cells (plan.shows e.var) (path e.clock, put (present e.var) (Bool true)) (emitted e.var) refl)
              ∙ to3 (emitted e.var) refl refl (λ l. refl) ∙ before.is_silent yes'

          by_truth : (t : Truth) → is_on cells e.clock ≡ t → is_true ((if t then place_put s4 (emitted e.var) (s4 (value e.var)) else s4) (emitted e.var)) ≡ is_held (cells e.var) (Bool true)
          by_truth true on = ap is_true (put_there s4 (emitted e.var) (s4 (value e.var)) ∙ value4 ∙ value2 on)
              ∙ own_true (right_leaf e.right cells (past_of (old e) (restarts cells e.restarts)))
              ∙ sym (ap (λ (c : Option Leaf). is_held c (Bool true)) (cell ∙ ap (λ t. if t then Some (right_leaf e.right cells (past_of (old e) (restarts cells e.restarts))) else None) on))
          by_truth false off = ap is_true emitted4
              ∙ sym (ap (λ (c : Option Leaf). is_held c (Bool true)) (cell ∙ ap (λ t. if t then Some (right_leaf e.right cells (past_of (old e) (restarts cells e.restarts))) else None) off))

      after5 : After s5 e
      after5 = record {
        is_kept = λ yes'. rest2 (memory e.var) refl (λ l. refl) refl refl ∙ memory1 ∙ before.is_kept yes';
        may_be_first = λ yes'. rest2 (first e.var) refl (λ l. refl) refl refl ∙ first1 yes';
        is_constant = λ l r. value5 ∙ ap (λ x. after_acts (right_acts plan e.var (path e.clock) x) s1 (value e.var)) r ∙ acts_else acts1 s (value e.var) (spares1 (value e.var) refl) ∙ before.is_constant l r;
        is_shown = shown5;
        is_told = told5;
      }

      pub equation_knows : Knows plan cells (e.var ∷ known) (after_acts (equation_acts plan e) s)
      equation_knows = subst (λ r. Knows plan cells (e.var ∷ known) r) (sym in_parts) knows_more

      pub equation_after : After (after_acts (equation_acts plan e) s) e
      equation_after = subst (λ r. After r e) (sym in_parts) after5

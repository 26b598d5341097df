-- A step divides by zero exactly where an operator that is present does.
use Rattle.std.specs.Prelude.{◌≡◌, refl, ℕ, ◌==◌, ◌&&◌, ◌||◌, Bool as Truth, true, false, List, [], ◌∷◌, ◌++◌, map, if◌then◌else◌}
use Rattle.std.specs.List.{flat_map}
use Rattle.std.proofs.Common.{ap, ap₂, sym, ◌∙◌, inl}
use Rattle.ls_value.specs.declared.leaf.Leaf.{Leaf}
use Rattle.ls_value.specs.declared.leaf.Leaf.TheVariants.{Bool}
use Rattle.ls_ops.specs.declared.kinds.Op.{Op as Operator}
use Rattle.ls_ops.specs.Values.{alarm_of}
use Rattle.core_lang.specs.declared.equations.CoreEq.{CoreEq}
use Rattle.core_lang.specs.declared.equations.CoreRight.{CoreRight}
use Rattle.core_lang.specs.declared.equations.CoreRight.TheVariants.{Const, Copy, Op, Pre, Fby, Init, Sample, Choose}
use Rattle.core_lang.specs.Leaves.{leaf_of}
use Rattle.core_lang.specs.Equations
use Rattle.core_lang.specs.Equations.{Cells, is_on, is_alarmed}
use Rattle.core_lang.proofs.Instants.{Memory}
use Rattle.compile_rules.specs.declared.places.Place.{Place}
use Rattle.compile_rules.specs.declared.places.Place.TheVariants.{Value as value, First as first, Present as present, Emitted as emitted}
use Rattle.compile_rules.specs.declared.places.Act.TheVariants.{Put as put, Copy as copy, Operate as operate}
use Rattle.compile_rules.specs.Scheme.{Guarded, Slots, all_true, act_on, after_acts, acts_divide, divides, path, Plan, only, tests, restart_acts, right_acts, remembers, equation_acts, kept, update_acts, clear_acts, guard_of, leads}
use Rattle.compile_rules.proofs.Agreeing.{Knows, path_on}
use Rattle.compile_rules.proofs.OneEquation.{tests_of, args_leaves}
use Rattle.compile_rules.proofs.OneStep.{Before, equation_knows, equation_after, owned_equation, others}
use Rattle.compile_rules.proofs.WholeStep.{IsSolved, AreAlike, Flagged, is_led, flagged_else, has_more, all_before_else}
use Rattle.core_lang.specs.Orders.{AllOf, Has}
use Rattle.compile_rules.specs.Plans.{Agrees, AreLed, ArePlanned, IsPlanned}

-- no operator is among the acts
abbrev pub Quiet : List Guarded → Type 0
Quiet [] = Unit {0}
Quiet (act ∷ rest) = ((s : Slots) → divides act.1 s ≡ false) × Quiet rest

and_false : (t : Truth) → (t && false) ≡ false
and_false true = refl
and_false false = refl

or_false : (t : Truth) → (t || false) ≡ t
or_false true = refl
or_false false = refl

or_assoc : (a b c : Truth) → ((a || b) || c) ≡ (a || (b || c))
or_assoc true b c = refl
or_assoc false b c = refl

pub quiet_divides : (as' : List Guarded) → Quiet as' → (s : Slots) → acts_divide as' s ≡ false
quiet_divides [] q s = refl
quiet_divides (act ∷ rest) q s = ap₂ (λ a b. a || b) (ap (λ t. all_true s act.0 && t) (q.0 s) ∙ and_false (all_true s act.0)) (quiet_divides rest q.1 (act_on act s))

quiet_append : (xs ys : List Guarded) → Quiet xs → Quiet ys → Quiet (xs ++ ys)
quiet_append [] ys h k = k
quiet_append (x ∷ xs) ys h k = (h.0, quiet_append xs ys h.1 k)

pub divide_append : (xs ys : List Guarded) (s : Slots) → acts_divide (xs ++ ys) s ≡ (acts_divide xs s || acts_divide ys (after_acts xs s))
divide_append [] ys s = refl
divide_append (x ∷ xs) ys s = ap (λ t. (all_true s x.0 && divides x.1 s) || t) (divide_append xs ys (act_on x s))
    ∙ sym (or_assoc (all_true s x.0 && divides x.1 s) (acts_divide xs (act_on x s)) (acts_divide ys (after_acts xs (act_on x s))))

module _ (plan : Plan) (cells : Cells) (old : Memory) where
  quiet_only : (t : Truth) (act : Guarded) → ((s : Slots) → divides act.1 s ≡ false) → Quiet (only t act)
  quiet_only true act h = (h, tt)
  quiet_only false act h = tt

  quiet_tests : (on : List Place) (v : ℕ) (leaves : List Leaf) → Quiet (tests_of plan cells on v leaves)
  quiet_tests on v [] = tt
  quiet_tests on v (leaf ∷ leaves) = ((λ s. refl), quiet_tests on v leaves)

  quiet_restarts : (v : ℕ) (rs : List ℕ) → Quiet (restart_acts plan v rs)
  quiet_restarts v [] = tt
  quiet_restarts v (r ∷ rs) = ((λ s. refl), quiet_restarts v rs)

  quiet_branches : (v c : ℕ) (on : List Place) (branches : List (Leaf × ℕ)) → Quiet (map (λ branch. (on ++ guard_of c branch.0 ∷ [], copy (value v) (value branch.1))) branches)
  quiet_branches v c on [] = tt
  quiet_branches v c on (branch ∷ rest) = ((λ s. refl), quiet_branches v c on rest)

  quiet_kept : (v : ℕ) (on : List Place) (right : CoreRight) → Quiet (kept plan v on right)
  quiet_kept v on (Const leaf) = tt
  quiet_kept v on (Copy a) = tt
  quiet_kept v on (Op op args) = tt
  quiet_kept v on (Pre a) = ((λ s. refl), tt)
  quiet_kept v on (Fby a b) = ((λ s. refl), tt)
  quiet_kept v on (Init a b) = tt
  quiet_kept v on (Sample a) = tt
  quiet_kept v on (Choose c branches) = tt

  pub quiet_clears : (eqs : List CoreEq) → Quiet (flat_map (clear_acts plan) eqs)
  quiet_clears [] = tt
  quiet_clears (e ∷ rest) = quiet_append (clear_acts plan e) (flat_map (clear_acts plan) rest)
      (quiet_append (only (plan.shows e.var) ([], put (present e.var) (Bool false))) (only (plan.tells e.var) ([], put (emitted e.var) (Bool false)))
      (quiet_only (plan.shows e.var) ([], put (present e.var) (Bool false)) (λ s. refl)) (quiet_only (plan.tells e.var) ([], put (emitted e.var) (Bool false)) (λ s. refl)))
      (quiet_clears rest)

  pub quiet_inputs : (inputs : List ℕ) → Quiet (flat_map (tests plan []) inputs)
  quiet_inputs [] = tt
  quiet_inputs (v ∷ rest) = quiet_append (tests plan [] v) (flat_map (tests plan []) rest) (quiet_tests [] v (plan.leaves v)) (quiet_inputs rest)

  pub quiet_updates : (eqs : List CoreEq) → Quiet (flat_map (update_acts plan) eqs)
  quiet_updates [] = tt
  quiet_updates (e ∷ rest) = quiet_append (update_acts plan e) (flat_map (update_acts plan) rest) (quiet_append (kept plan e.var (path e.clock) e.right) (only (leads plan e) (path e.clock, put (first e.var) (Bool false)))
      (quiet_kept e.var (path e.clock) e.right) (quiet_only (leads plan e) (path e.clock, put (first e.var) (Bool false)) (λ s. refl)))
      (quiet_updates rest)

  -- ---- one equation

  abbrev tail_acts : CoreEq → List Guarded
  tail_acts e = tests plan (path e.clock) e.var
      ++ (only (plan.shows e.var) (path e.clock, put (present e.var) (Bool true)) ++ only (plan.tells e.var) (path e.clock, copy (emitted e.var) (value e.var)))

  quiet_tail : (e : CoreEq) → Quiet (tail_acts e)
  quiet_tail e = quiet_append (tests plan (path e.clock) e.var) (only (plan.shows e.var) (path e.clock, put (present e.var) (Bool true)) ++ only (plan.tells e.var) (path e.clock, copy (emitted e.var) (value e.var)))
      (quiet_tests (path e.clock) e.var (plan.leaves e.var))
      (quiet_append (only (plan.shows e.var) (path e.clock, put (present e.var) (Bool true))) (only (plan.tells e.var) (path e.clock, copy (emitted e.var) (value e.var)))
      (quiet_only (plan.shows e.var) (path e.clock, put (present e.var) (Bool true)) (λ s. refl)) (quiet_only (plan.tells e.var) (path e.clock, copy (emitted e.var) (value e.var)) (λ s. refl)))

  silent : (as' : List Guarded) (s : Slots) (t : Truth) → Quiet as' → acts_divide as' s ≡ (t && false)
  silent as' s t q = quiet_divides as' q s ∙ sym (and_false t)

  equation_divides : (known : List ℕ) (e : CoreEq) → IsPlanned plan known e → (s : Slots) → Knows plan cells known s
      → acts_divide (equation_acts plan e) s ≡ (is_on cells e.clock && Equations.divides cells e.right)
  equation_divides known e h s k = by_right e.right h.agrees
    where
      on : Truth
      on = is_on cells e.clock

      acts_with : CoreRight → List Guarded
      acts_with r = (if remembers plan r && (plan.lead e.var == e.var) then restart_acts plan e.var e.restarts else []) ++ (right_acts plan e.var (path e.clock) r ++ tail_acts e)

      quiet_led : (t : Truth) → Quiet (if t then restart_acts plan e.var e.restarts else [])
      quiet_led true = quiet_restarts e.var e.restarts
      quiet_led false = tt

      by_on : (t : Truth) (op : Operator) (args : List ℕ) → is_on cells e.clock ≡ t → Agrees plan known e.clock (Op op args) → (t && alarm_of op (map s (map value args))) ≡ (t && alarm_of op (map (λ a. leaf_of (cells a)) args))
      by_on true op args is a = ap (alarm_of op) (args_leaves plan cells known s k e.clock is args a)
      by_on false op args is a = refl

      by_right : (r : CoreRight) → Agrees plan known e.clock r → acts_divide (acts_with r) s ≡ (on && Equations.divides cells r)
      by_right (Const leaf) a = silent (acts_with (Const leaf)) s on (quiet_tail e)
      by_right (Copy x) a = silent (acts_with (Copy x)) s on ((λ s'. refl), quiet_tail e)
      by_right (Op op args) a =
          ap (λ t. (all_true s (path e.clock) && alarm_of op (map s (map value args))) || t) (quiet_divides (tail_acts e) (quiet_tail e) (act_on (path e.clock, operate (value e.var) op (map value args)) s))
          ∙ or_false (all_true s (path e.clock) && alarm_of op (map s (map value args)))
          ∙ ap (λ t. t && alarm_of op (map s (map value args))) (path_on plan cells known s k e.clock h.is_clock)
          ∙ by_on (is_on cells e.clock) op args refl a
      by_right (Pre x) a = silent (acts_with (Pre x)) s on (quiet_append (if plan.lead e.var == e.var then restart_acts plan e.var e.restarts else []) (right_acts plan e.var (path e.clock) (Pre x) ++ tail_acts e) (quiet_led (plan.lead e.var == e.var)) ((λ s'. refl), ((λ s'. refl), quiet_tail e)))
      by_right (Fby x y) a = silent (acts_with (Fby x y)) s on (quiet_append (if plan.lead e.var == e.var then restart_acts plan e.var e.restarts else []) (right_acts plan e.var (path e.clock) (Fby x y) ++ tail_acts e) (quiet_led (plan.lead e.var == e.var)) ((λ s'. refl), ((λ s'. refl), quiet_tail e)))
      by_right (Init x y) a = silent (acts_with (Init x y)) s on (quiet_append (if plan.lead e.var == e.var then restart_acts plan e.var e.restarts else []) (right_acts plan e.var (path e.clock) (Init x y) ++ tail_acts e) (quiet_led (plan.lead e.var == e.var)) ((λ s'. refl), ((λ s'. refl), quiet_tail e)))
      by_right (Sample x) a = silent (acts_with (Sample x)) s on ((λ s'. refl), quiet_tail e)
      by_right (Choose x branches) a = silent (acts_with (Choose x branches)) s on ((λ s'. refl), quiet_append (map (λ branch. (path e.clock ++ guard_of x branch.0 ∷ [], copy (value e.var) (value branch.1))) branches) (tail_acts e) (quiet_branches e.var x (path e.clock) branches) (quiet_tail e))

  -- ---- the equations in order

  pub equations_divide : AreAlike plan cells old → (done : List CoreEq) (known : List ℕ) (eqs : List CoreEq) → AreLed plan done eqs → AllOf (λ x. Has known x.var) done → ArePlanned plan known eqs → AllOf (IsSolved plan cells old) eqs
      → (s : Slots) → AllOf (Flagged plan cells old s) done → Knows plan cells known s → AllOf (Before plan cells old s) eqs
      → acts_divide (flat_map (equation_acts plan) eqs) s ≡ is_alarmed cells eqs
  equations_divide alike done known [] l hd h c s f k b = refl
  equations_divide alike done known (e ∷ rest) l hd h c s f k b =
      let led = is_led plan cells old alike done s f e l.0 in
      divide_append (equation_acts plan e) (flat_map (equation_acts plan) rest) s
      ∙ ap₂ (λ t u. t || u) (equation_divides known e h.0 s k)
      (equations_divide alike (e ∷ done) (e.var ∷ known) rest l.1 (inl refl, has_more plan cells old known e.var done hd) h.1 c.1 (after_acts (equation_acts plan e) s)
      ((λ t. (equation_after plan cells old known e h.0 c.0 s k b.0 led).may_be_first t), flagged_else plan cells old e.var (equation_acts plan e) (owned_equation plan cells old known e h.0 c.0) s known h.0.is_new done hd f)
      (equation_knows plan cells old known e h.0 c.0 s k b.0 led)
      (all_before_else plan cells old e.var (equation_acts plan e) (owned_equation plan cells old known e h.0 c.0) s rest (others plan (e.var ∷ known) rest e.var h.1 (inl refl)) b.1))

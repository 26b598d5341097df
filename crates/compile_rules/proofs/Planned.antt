-- A core in order keeps what a plan has to promise.
use Rattle.std.specs.Prelude.{◌≡◌, refl, ℕ, ◌==◌, ◌+◌, ◌<◌, ◌≤◌, ◌⊎◌, List, [], ◌∷◌, ◌++◌, length, map, Any}
use Rattle.std.proofs.Common.{ap, sym, ◌∙◌, subst, inl, inr, arith, append_assoc}
use Rattle.ls_value.specs.declared.leaf.Leaf.{Leaf}
use Rattle.ls_value.specs.declared.leaf.Shape.{Shape}
use Rattle.core_lang.specs.declared.cores.Core.{Core}
use Rattle.core_lang.specs.declared.equations.CoreEq.{CoreEq}
use Rattle.core_lang.specs.declared.equations.CoreRight.{CoreRight}
use Rattle.core_lang.specs.declared.equations.CoreRight.TheVariants.{Const, Copy, Op, Pre, Fby, Init, Sample, Choose}
use Rattle.core_lang.specs.Reads.{asked_vars, operands}
use Rattle.core_lang.specs.Orders.{Has, HasAll, IsOf, AllOf, IsOrdered, input_vars}
use Rattle.core_lang.specs.Cores
use Rattle.core_lang.specs.Cores.{input_count, IsEquation, IsCore, RanksRise}
use Rattle.core_lang.proofs.Solved.{has_left, has_right}
use Rattle.core_lang.proofs.Ordering.{all_of_all, is_of_at, has_range, in_range, ordered}
use Rattle.compile_rules.specs.Scheme.{Plan}
use Rattle.compile_rules.specs.Plans.{IsPlanOf, IsAsked, IsClock, IsOperand, AreOperands, AreBranches, Agrees, AreRestarts, IsKept, ArePlanned, AreLed, grown, IsOrderedCore}
use Rattle.compile_rules.proofs.OneStep.{grown_has}

module _ (core : Core) (agrees : IsCore core.eqs core.inputs core.outputs) (plan : Plan) (is : IsPlanOf core agrees plan) where
  abbrev inputs : ℕ
  inputs = input_count core.inputs

  abbrev size : ℕ
  size = input_count core.inputs + length core.eqs

  abbrev Is : CoreEq → Type 0
  Is = IsEquation core.inputs.cases agrees.told (input_count core.inputs + length core.eqs) (input_count core.inputs)

  -- ---- clocks

  asked_below : (n : ℕ) (known : List ℕ) → ((v : ℕ) → v < n → Has known v) → (front clock : List (ℕ × Leaf)) → Cores.IsClock core.inputs.cases agrees.told n front clock → HasAll known (asked_vars clock)
  asked_below n known f front [] h = tt
  asked_below n known f front (one ∷ more) h = (f one.0 h.0, asked_below n known f (front ++ one ∷ []) more h.3)

  clock_from : (n : ℕ) → n ≤ size → (known : List ℕ) (v : ℕ) → v < size → (front clock : List (ℕ × Leaf)) → agrees.told.clock v ≡ front ++ clock
      → Cores.IsClock core.inputs.cases agrees.told n front clock → HasAll known (asked_vars clock) → IsClock plan known front clock
  clock_from n few known v below front [] e h k = tt
  clock_from n few known v below front (one ∷ more) e h k = (
    k.0,
    is.clock one.0 (let b : one.0 < n = h.0 in omega (arith, few, b)) ∙ h.1,
    is.asked v below front more one e,
    clock_from n few known v below (front ++ one ∷ []) more (e ∙ sym (append_assoc front (one ∷ []) more)) h.3 k.1,
  )

  clock_more : (known : List ℕ) (x : ℕ) (front clock : List (ℕ × Leaf)) → IsClock plan known front clock → IsClock plan (x ∷ known) front clock
  clock_more known x front [] h = tt
  clock_more known x front (one ∷ more) h = (inr h.0, h.1, h.2, clock_more known x (front ++ one ∷ []) more h.3)

  equation_clock : (known : List ℕ) (e : CoreEq) → Is e → HasAll known (asked_vars e.clock) → IsClock plan known [] e.clock
  equation_clock known e h k = clock_from size (omega arith) known e.var h.below [] e.clock h.clock h.is_clock k

  own_clock : (e : CoreEq) → Is e → plan.clock e.var ≡ e.clock
  own_clock e h = is.clock e.var h.below ∙ h.clock

  -- what is known has clocks of what is known
  abbrev Closed : List ℕ → Type 0
  Closed known = (v : ℕ) → Has known v → IsClock plan known [] (plan.clock v)

  inputs_first : inputs ≤ size
  inputs_first = omega arith

  fields_first : length core.inputs.fields ≤ inputs
  fields_first = omega arith

  input_asked : (v : ℕ) → v < inputs → HasAll (input_vars core.inputs) (asked_vars (agrees.told.clock v))
  input_asked v below = asked_below (length core.inputs.fields) (input_vars core.inputs)
      (λ w less. has_range 0 inputs w (omega arith) (omega (arith, less, fields_first))) [] (agrees.told.clock v) (agrees.each_input v below).is_clock

  input_below : (v : ℕ) → Has (input_vars core.inputs) v → v < inputs
  input_below v h = let r = in_range 0 inputs v h in let b : v < 0 + inputs = r.1 in omega (arith, b)

  inputs_closed : Closed (input_vars core.inputs)
  inputs_closed v h =
      let below : v < inputs = input_below v h in
      let less : v < size = omega (arith, below) in
      subst (IsClock plan (input_vars core.inputs) []) (sym (is.clock v less))
      (clock_from (length core.inputs.fields) (omega (arith, fields_first, inputs_first)) (input_vars core.inputs) v less [] (agrees.told.clock v) refl (agrees.each_input v below).is_clock (input_asked v below))

  closed_more : (known : List ℕ) (e : CoreEq) → Closed known → IsClock plan known [] e.clock → plan.clock e.var ≡ e.clock → Closed (e.var ∷ known)
  closed_more known e c h own v (inl same) =
      subst (λ w. IsClock plan (e.var ∷ known) [] (plan.clock w)) same (subst (IsClock plan (e.var ∷ known) []) (sym own) (clock_more known e.var [] e.clock h))
  closed_more known e c h own v (inr m) = clock_more known e.var [] (plan.clock v) (c v m)

  -- ---- operands

  operand : (known : List ℕ) (clock : List (ℕ × Leaf)) (a : ℕ) → Has known a → Cores.IsOn core.inputs.cases agrees.told size clock a → IsOperand plan known clock a
  operand known clock a k h = (k, is.clock a h.0 ∙ h.1)

  args : (known : List ℕ) (clock : List (ℕ × Leaf)) (xs : List ℕ) → HasAll known xs → Cores.AllOn core.inputs.cases agrees.told size clock xs → AreOperands plan known clock xs
  args known clock [] k h = tt
  args known clock (a ∷ xs) k h = (operand known clock a k.0 h.0, args known clock xs k.1 h.1)

  branches : (known : List ℕ) (clock : List (ℕ × Leaf)) (s : Shape) (c : ℕ) (bs : List (Leaf × ℕ)) → HasAll known (map (λ branch. branch.1) bs) → Cores.AreBranches core.inputs.cases agrees.told size clock s c bs → AreBranches plan known clock c bs
  branches known clock s c [] k h = tt
  branches known clock s c (b ∷ bs) k h =
      (operand known (clock ++ (c, b.0) ∷ []) b.1 k.0 h.0.0, is.asked b.1 h.0.0.0 clock [] (c, b.0) h.0.0.1, branches known clock s c bs k.1 h.2)

  right : (known : List ℕ) (clock : List (ℕ × Leaf)) (s : Shape) (r : CoreRight) → HasAll known (operands r) → Cores.Agrees core.inputs.cases agrees.told size clock s r → Agrees plan known clock r
  right known clock s (Const l) k h = tt
  right known clock s (Copy a) k h = operand known clock a k.0 h.0
  right known clock s (Op op xs) k h = args known clock xs k h.0
  right known clock s (Pre a) k h = tt
  right known clock s (Fby a b) k h = operand known clock a k.0 h.0.0
  right known clock s (Init a b) k h = (operand known clock a k.0 h.0.0, operand known clock b k.1.0 h.1.0)
  right known clock s (Sample a) k h = (k.0, (h.2.0, h.2.1 ∙ ap (λ c. c ++ h.2.0 ∷ []) (sym (is.clock a h.0))))
  right known clock s (Choose c bs) k h = (operand known clock c k.0 h.0, branches known clock s c bs k.1 h.1)

  restarts : (known : List ℕ) → Closed known → (rs : List ℕ) → HasAll known rs → AreRestarts plan known rs
  restarts known c [] k = tt
  restarts known c (r ∷ rs) k = ((k.0, c r k.0), restarts known c rs k.1)

  -- ---- the equations in order

  planned : (known : List ℕ) (rest : List CoreEq) → IsOrdered known rest → AllOf Is rest → Closed known → ArePlanned plan known rest
  planned known [] o h c = tt
  planned known (e ∷ rest) o h c =
      let of_clock = has_left (asked_vars e.clock) (e.restarts ++ operands e.right) known o.0 in
      let of_rest = has_right (asked_vars e.clock) (e.restarts ++ operands e.right) known o.0 in
      let clocked : IsClock plan known [] e.clock = equation_clock known e h.0 of_clock in (
        record {
          own = own_clock e h.0;
          is_clock = clocked;
          is_new = o.1;
          are_restarts = restarts known c e.restarts (has_left e.restarts (operands e.right) known of_rest);
          agrees = right known e.clock e.shape e.right (has_right e.restarts (operands e.right) known of_rest) h.0.agrees;
        },
        planned (e.var ∷ known) rest o.2 h.1 (closed_more known e c clocked (own_clock e h.0)),
      )

  -- ---- what is known at the end

  abbrev all : List ℕ
  all = grown (input_vars core.inputs) core.eqs

  grown_var : (known : List ℕ) (rest : List CoreEq) (e : CoreEq) → IsOf rest e → Has (grown known rest) e.var
  grown_var known [] e h = absurd h
  grown_var known (x ∷ rest) e (inl same) = subst (λ y. Has (grown known (x ∷ rest)) y.var) same (grown_has (x.var ∷ known) rest x.var (inl refl))
  grown_var known (x ∷ rest) e (inr more) = grown_var (x.var ∷ known) rest e more

  below_or : (a b : ℕ) → (a < b) ⊎ (b ≤ a)
  below_or a b = grind (arith)

  has_all : (v : ℕ) → v < size → Has all v
  has_all v below = by_order (below_or v inputs)
    where
      found : Any (λ (e : CoreEq). e.var ≡ v) core.eqs → Has all v
      found (k, x, less, at_k, same) = subst (λ w. Has all w) same (grown_var (input_vars core.inputs) core.eqs x (subst (IsOf core.eqs) at_k (is_of_at core.eqs k x less)))

      by_order : (v < inputs) ⊎ (inputs ≤ v) → Has all v
      by_order (inl less) = grown_has (input_vars core.inputs) core.eqs v (has_range 0 inputs v (omega arith) (omega (arith, less)))
      by_order (inr least) = found (agrees.all v least below)

  kept : (clock : List (ℕ × Leaf)) (s : Shape) (r : CoreRight) → Cores.Agrees core.inputs.cases agrees.told size clock s r → IsKept plan all clock r
  kept clock s (Const l) h = tt
  kept clock s (Copy a) h = tt
  kept clock s (Op op xs) h = tt
  kept clock s (Pre a) h = operand all clock a (has_all a h.0.0) h.0
  kept clock s (Fby a b) h = operand all clock b (has_all b h.1.0.0) h.1.0
  kept clock s (Init a b) h = tt
  kept clock s (Sample a) h = tt
  kept clock s (Choose c bs) h = tt

  whole : (rest : List CoreEq) → AllOf Is rest → AllOf (λ e. IsClock plan all [] e.clock × IsKept plan all e.clock e.right) rest
  whole [] h = tt
  whole (e ∷ rest) h =
      ((equation_clock all e h.0 (asked_below size all has_all [] e.clock h.0.is_clock), kept e.clock e.shape e.right h.0.agrees), whole rest h.1)

  pub ordered_core : RanksRise core.eqs → IsOrderedCore plan (input_vars core.inputs) core.eqs
  ordered_core rising = record {
    planned = planned (input_vars core.inputs) core.eqs (ordered core agrees rising) (all_of_all Is core.eqs agrees.each) inputs_closed;
    whole = whole core.eqs (all_of_all Is core.eqs agrees.each);
    led = is.led;
    clocks = λ v h. let below : v < inputs = input_below v h in
        subst (λ c. HasAll (input_vars core.inputs) (asked_vars c)) (sym (is.clock v (omega (arith, below)))) (input_asked v below);
  }

-- A core in order has one full solution.
use Rattle.std.specs.Prelude.{◌≡◌, refl, ℕ, zero, suc, ◌+◌, ◌<◌, ◌≤◌, ◌⊎◌, Bool as Truth, true, false, List, [], ◌∷◌, ◌++◌, Option, None, Some, length, Any, if◌then◌else◌}
use Rattle.std.specs.Option.{option_map}
use Rattle.std.proofs.Common.{ap, ap₂, sym, ◌∙◌, subst, inl, inr, arith}
use Rattle.std.proofs.lemmas.Bool.{false≢true}
use Rattle.ls_value.specs.declared.leaf.Leaf.{Leaf}
use Rattle.ls_value.specs.declared.leaf.Leaf.TheVariants.{Nil}
use Rattle.ls_value.specs.declared.leaf.Shape.{Shape}
use Rattle.ls_ops.specs.Values.{value_of}
use Rattle.line_io.specs.declared.form.Cell.{Cell}
use Rattle.core_lang.specs.declared.cores.Core.{Core}
use Rattle.core_lang.specs.declared.equations.CoreEq.{CoreEq}
use Rattle.core_lang.specs.declared.equations.CoreRight.{CoreRight}
use Rattle.core_lang.specs.declared.equations.CoreRight.TheVariants.{Const, Copy, Op, Pre, Fby, Init, Sample, Choose}
use Rattle.core_lang.specs.Leaves.{leaf_of}
use Rattle.core_lang.specs.Reads.{reads, operands, asked_vars}
use Rattle.core_lang.specs.Cores.{input_count, RanksRise, IsCore, IsEquation, IsClock, AreRestarts, Agrees}
use Rattle.core_lang.specs.Orders.{HasAll, IsOf, AllOf, IsOrdered, range, input_vars}
use Rattle.core_lang.specs.Equations.{Table, is_on, restarts, right_leaf, chosen, at, cell, before, previous_of, IsSolution}
use Rattle.core_lang.proofs.Solved.{Agree, has_left, has_right, on_same, restarts_same, args_same, chosen_same}
use Rattle.core_lang.proofs.Ordering.{all_of_all, at_is, is_of_at, has_range, in_range, ordered}

-- ---- the instant before

is_there : Option ℕ → Truth
is_there None = false
is_there (Some x) = true

held_or : ℕ → Option ℕ → ℕ
held_or d None = d
held_or d (Some x) = x

before_same : (on on' again again' : ℕ → Truth) (i : ℕ) → ((j : ℕ) → j < i → (on j ≡ on' j) × (again j ≡ again' j)) → before on again i ≡ before on' again' i
before_same on on' again again' zero f = refl
before_same on on' again again' (suc i) f =
    let here = f i (omega arith) in
    let more : before on again i ≡ before on' again' i = before_same on on' again again' i (λ j less. f j (omega (arith, less))) in
    ap₂ (λ t p. if t then Some i else p) here.0 (ap₂ (λ r p. if r then None else p) here.1 more)

before_less : (on again : ℕ → Truth) (i j : ℕ) → before on again i ≡ Some j → j < i
unfolding is_there held_or
before_less on again zero j e = absurd (false≢true (ap is_there e))
before_less on again (suc i) j e = by_on (on i) (again i) e (λ e'. before_less on again i j e')
  where
    by_on : (t r : Truth) → (if t then Some i else (if r then None else before on again i)) ≡ Some j → (before on again i ≡ Some j → j < i) → j < suc i
    by_on true r e' f = let same : i ≡ j = ap (held_or 0) e' in omega (arith, same)
    by_on false true e' f = absurd (false≢true (ap is_there e'))
    by_on false false e' f = let less : j < i = f e' in omega (arith, less)

from_or : (a b : ℕ) → a < suc b → (a < b) ⊎ (a ≡ b)
from_or a b h = grind (arith, h)

module _ (core : Core) (agrees : IsCore core.eqs core.inputs core.outputs) (rising : RanksRise core.eqs) (line : ℕ → List Cell) (n : ℕ) (T U : Table)
    (t : IsSolution core n line T) (u : IsSolution core n line U) where
  abbrev size : ℕ
  size = input_count core.inputs + length core.eqs

  abbrev Is : CoreEq → Type 0
  Is = IsEquation core.inputs.cases agrees.told (input_count core.inputs + length core.eqs) (input_count core.inputs)

  -- the two have the same cells at an instant
  abbrev Same : ℕ → Type 0
  Same i = (v : ℕ) → v < size → T v i ≡ U v i

  abbrev every : List ℕ
  every = range 0 size

  asked_every : (front clock : List (ℕ × Leaf)) → IsClock core.inputs.cases agrees.told size front clock → HasAll every (asked_vars clock)
  asked_every front [] h = tt
  asked_every front (one ∷ more) h = (has_range 0 size one.0 (omega arith) (let b : one.0 < size = h.0 in omega (arith, b)), asked_every (front ++ one ∷ []) more h.3)

  restarts_every : (rs : List ℕ) → AreRestarts core.inputs.cases agrees.told size rs → HasAll every rs
  restarts_every [] h = tt
  restarts_every (r ∷ rs) h = (has_range 0 size r (omega arith) (let b : r < size = h.0.0 in omega (arith, b)), restarts_every rs h.1)

  agree_every : (j : ℕ) → Same j → Agree every (at T j) (at U j)
  agree_every j s v h = s v (let r = in_range 0 size v h in let b : v < 0 + size = r.1 in omega (arith, b))

  module _ (i : ℕ) (earlier : (j : ℕ) → j < i → Same j) where
    right_both : (known : List ℕ) → Agree known (at T i) (at U i) → (clock : List (ℕ × Leaf)) (s : Shape) (r : CoreRight) → HasAll known (operands r) → Agrees core.inputs.cases agrees.told size clock s r
        → (p : Option ℕ) → ((j : ℕ) → p ≡ Some j → Same j) → right_leaf r (at T i) (option_map (at T) p) ≡ right_leaf r (at U i) (option_map (at U) p)
    right_both known agree clock s (Const leaf) k h p f = refl
    right_both known agree clock s (Copy a) k h p f = ap leaf_of (agree a k.0)
    right_both known agree clock s (Op op args) k h p f = ap (value_of op) (args_same known (at T i) (at U i) agree args k)
    right_both known agree clock s (Pre a) k h None f = refl
    right_both known agree clock s (Pre a) k h (Some j) f = ap leaf_of (f j refl a h.0.0)
    right_both known agree clock s (Fby a b) k h None f = ap leaf_of (agree a k.0)
    right_both known agree clock s (Fby a b) k h (Some j) f = ap leaf_of (f j refl b h.1.0.0)
    right_both known agree clock s (Init a b) k h None f = ap leaf_of (agree a k.0)
    right_both known agree clock s (Init a b) k h (Some j) f = ap leaf_of (agree b k.1.0)
    right_both known agree clock s (Sample a) k h p f = ap leaf_of (agree a k.0)
    right_both known agree clock s (Choose c branches) k h p f =
        ap (λ (l : Option Leaf). chosen (at T i) Nil (leaf_of l) branches) (agree c k.0) ∙ chosen_same known (at T i) (at U i) agree branches Nil Nil (leaf_of (U c i)) refl k.1

    past_less : (e : CoreEq) (j : ℕ) → previous_of U e i ≡ Some j → j < i
    unfolding is_there
    past_less e j is = by_again (restarts (at U i) e.restarts) is
      where
        by_again : (r : Truth) → (if r then None else before (λ k. is_on (at U k) e.clock) (λ k. restarts (at U k) e.restarts) i) ≡ Some j → j < i
        by_again true e' = absurd (false≢true (ap is_there e'))
        by_again false e' = before_less (λ k. is_on (at U k) e.clock) (λ k. restarts (at U k) e.restarts) i j e'

    cell_both : (known : List ℕ) → Agree known (at T i) (at U i) → (e : CoreEq) → HasAll known (reads e) → Is e → cell T e i ≡ cell U e i
    cell_both known agree e k h =
        let of_clock = has_left (asked_vars e.clock) (e.restarts ++ operands e.right) known k in
        let of_rest = has_right (asked_vars e.clock) (e.restarts ++ operands e.right) known k in
        let again = restarts_same known (at T i) (at U i) agree e.restarts (has_left e.restarts (operands e.right) known of_rest) in
        let past : previous_of T e i ≡ previous_of U e i =
        ap₂ (λ r p. if r then None else p) again
        (before_same (λ j. is_on (at T j) e.clock) (λ j. is_on (at U j) e.clock) (λ j. restarts (at T j) e.restarts) (λ j. restarts (at U j) e.restarts) i
        (λ j less. (
          on_same every (at T j) (at U j) (agree_every j (earlier j less)) e.clock (asked_every [] e.clock h.is_clock),
          restarts_same every (at T j) (at U j) (agree_every j (earlier j less)) e.restarts (restarts_every e.restarts h.restarts),
        ))) in
        ap₂ (λ t' (leaf : Leaf). if t' then Some leaf else None) (on_same known (at T i) (at U i) agree e.clock of_clock)
        (ap (λ p. right_leaf e.right (at T i) (option_map (at T) p)) past
        ∙ right_both known agree e.clock e.shape e.right (has_right e.restarts (operands e.right) known of_rest) h.agrees (previous_of U e i) (λ j is. earlier j (past_less e j is)))

    module _ (few : i < n) where
      agree_more : (known : List ℕ) (v : ℕ) → Agree known (at T i) (at U i) → T v i ≡ U v i → Agree (v ∷ known) (at T i) (at U i)
      agree_more known v a e w (inl same) = subst (λ x. T x i ≡ U x i) same e
      agree_more known v a e w (inr h) = a w h

      -- the equations in order have the same cells
      same_all : (known : List ℕ) (rest : List CoreEq) → IsOrdered known rest → AllOf Is rest → AllOf (λ e. T e.var i ≡ cell T e i) rest → AllOf (λ e. U e.var i ≡ cell U e i) rest
          → Agree known (at T i) (at U i) → AllOf (λ e. T e.var i ≡ U e.var i) rest
      same_all known [] o h a b agree = tt
      same_all known (e ∷ rest) o h a b agree =
          let one : T e.var i ≡ U e.var i = a.0 ∙ cell_both known agree e o.0 h.0 ∙ sym b.0 in
          (one, same_all (e.var ∷ known) rest o.2 h.1 a.1 b.1 (agree_more known e.var agree one))

      input_agree : Agree (input_vars core.inputs) (at T i) (at U i)
      input_agree v h =
          let r = in_range 0 (input_count core.inputs) v h in
          let below : v < input_count core.inputs = (let b : v < 0 + input_count core.inputs = r.1 in omega (arith, b)) in
          t.is_given v i below few ∙ sym (u.is_given v i below few)

      all_same : AllOf (λ e. T e.var i ≡ U e.var i) core.eqs
      all_same = same_all (input_vars core.inputs) core.eqs (ordered core agrees rising) (all_of_all Is core.eqs agrees.each)
          (all_of_all (λ e. T e.var i ≡ cell T e i) core.eqs (t.is_cell i few)) (all_of_all (λ e. U e.var i ≡ cell U e i) core.eqs (u.is_cell i few)) input_agree

      same_here : Same i
      same_here v below = by_order (below_or v (input_count core.inputs)) (λ least. agrees.all v least below)
        where
          below_or : (a b : ℕ) → (a < b) ⊎ (b ≤ a)
          below_or a b = grind (arith)

          by_order : (v < input_count core.inputs) ⊎ (input_count core.inputs ≤ v) → (input_count core.inputs ≤ v → Any (λ (e : CoreEq). e.var ≡ v) core.eqs) → T v i ≡ U v i
          by_order (inl less) f = input_agree v (has_range 0 (input_count core.inputs) v (omega arith) (omega (arith, less)))
          by_order (inr least) f =
              let w = f least in
              subst (λ x. T x i ≡ U x i) w.4
              (at_is (λ e. T e.var i ≡ U e.var i) core.eqs w.1 all_same (subst (λ y. IsOf core.eqs y) w.3 (is_of_at core.eqs w.0 w.1 w.2)))

  same_below : (m j : ℕ) → j < m → j < n → Same j
  same_below zero j less few = absurd (omega (arith, less))
  same_below (suc m) j less few = by_order (from_or j m less) (λ k l. same_below m k l)
    where
      by_order : (j < m) ⊎ (j ≡ m) → ((k : ℕ) → k < m → k < n → Same k) → Same j
      by_order (inl l) f = f j l few
      by_order (inr e) f = same_here j (λ k l. f k (omega (arith, l, e)) (omega (arith, l, few))) few

  pub only : (v i : ℕ) → v < size → i < n → T v i ≡ U v i
  only v i below few = same_below n i few few v below

-- A core whose ranks rise is in order: each equation reads at once inputs and variables of earlier equations.
use Rattle.std.specs.Prelude.{◌≡◌, refl, ℕ, zero, suc, ◌==◌, ◌+◌, ◌<◌, ◌≤◌, ◌⊎◌, true, false, List, [], ◌∷◌, length, slice_index_or, All, AllPairs, Any}
use Rattle.std.specs.List.{AllByRecursion, IsDistinct}
use Rattle.std.proofs.lemmas.Bool.{false≢true}
use Rattle.std.proofs.lemmas.Bool.Decides.{nat_tests}
use Rattle.std.proofs.Common.{ap, sym, ◌∙◌, subst, inl, inr, arith}
use Rattle.core_lang.specs.declared.cores.Core.{Core}
use Rattle.core_lang.specs.declared.equations.CoreEq.{CoreEq}
use Rattle.core_lang.specs.Reads.{reads}
use Rattle.core_lang.specs.Cores.{input_count, IsEquation, AreBefore, IsCore, RanksRise}
use Rattle.core_lang.specs.Orders.{Has, HasAll, IsOf, AllOf, IsOrdered, range, input_vars}

-- ---- lists by index and by recursion

pub all_of_all : {X : Type 0} (P : X → Type 0) (xs : List X) → All P xs → AllOf P xs
all_of_all P [] h = tt
all_of_all P (x ∷ rest) h = (h 0 x (omega arith), all_of_all P rest (λ k d below. h (suc k) d (omega (arith, below))))

pub all_of_pairs : {X : Type 0} (R : X → X → Type 0) (x : X) (rest : List X) → AllPairs R (x ∷ rest) → AllOf (R x) rest
all_of_pairs R x rest h = all_of_all (R x) rest (λ k d below. h 0 (suc k) d (omega arith) (omega (arith, below)))

pub pairs_rest : {X : Type 0} (R : X → X → Type 0) (x : X) (rest : List X) → AllPairs R (x ∷ rest) → AllPairs R rest
pairs_rest R x rest h = λ i j d less below. h (suc i) (suc j) d (omega (arith, less)) (omega (arith, below))

pub at_of : {X : Type 0} (P : X → Type 0) (xs : List X) (x : X) → AllOf P xs → (k : ℕ) → k < length xs → slice_index_or xs k x ≡ x → P x
at_of P [] x h k below is = absurd (omega (arith, below))
at_of P (y ∷ rest) x h zero below is = subst P is h.0
at_of P (y ∷ rest) x h (suc k) below is = at_of P rest x h.1 k (omega (arith, below)) is

pub is_of_at : (xs : List CoreEq) (k : ℕ) (d : CoreEq) → k < length xs → IsOf xs (slice_index_or xs k d)
is_of_at [] k d below = absurd (omega (arith, below))
is_of_at (x ∷ rest) zero d below = inl refl
is_of_at (x ∷ rest) (suc k) d below = inr (is_of_at rest k d (omega (arith, below)))

pub all_by : (P : CoreEq → Type 0) (xs : List CoreEq) → ((e : CoreEq) → IsOf xs e → P e) → All P xs
all_by P xs f = λ k d below. f (slice_index_or xs k d) (is_of_at xs k d below)

pub at_is : (P : CoreEq → Type 0) (xs : List CoreEq) (e : CoreEq) → AllOf P xs → IsOf xs e → P e
at_is P [] e h is = absurd is
at_is P (x ∷ rest) e h (inl same) = subst P same h.0
at_is P (x ∷ rest) e h (inr more) = at_is P rest e h.1 more

-- ---- the first variables

from_or : (a b : ℕ) → a ≤ b → (a ≡ b) ⊎ (a < b)
from_or a b h = grind (arith, h)

pub has_range : (from n v : ℕ) → from ≤ v → v < from + n → Has (range from n) v
has_range from zero v least below = absurd (omega (arith, least, below))
has_range from (suc n) v least below = by_order (from_or from v least) (λ more. has_range (from + 1) n v (omega (arith, more)) (omega (arith, below)))
  where
    by_order : (from ≡ v) ⊎ (from < v) → (from < v → Has (range (from + 1) n) v) → Has (range from (suc n)) v
    by_order (inl same) f = inl same
    by_order (inr more) f = inr (f more)

pub in_range : (from n v : ℕ) → Has (range from n) v → (from ≤ v) × (v < from + n)
in_range from zero v h = absurd h
in_range from (suc n) v (inl same) = (omega (arith, same), omega (arith, same))
in_range from (suc n) v (inr h) = let r = in_range (from + 1) n v h in (omega (arith, r.0), omega (arith, r.1))

-- ---- order by rank

not_equal : (x y : ℕ) → (x == y) ≡ false → x ≡ y → ⊥
not_equal x y e same = absurd (false≢true (sym e ∙ ap (λ z. x == z) (sym same) ∙ equal x))
  where
    equal : (z : ℕ) → (z == z) ≡ true
    equal z = grind (arith, nat_tests)

module _ (core : Core) (agrees : IsCore core.eqs core.inputs core.outputs) where
  abbrev inputs : ℕ
  inputs = input_count core.inputs

  abbrev size : ℕ
  size = input_count core.inputs + length core.eqs

  abbrev Is : CoreEq → Type 0
  Is = IsEquation core.inputs.cases agrees.told size inputs

  -- the variable is known, or an equation that is left defines it
  abbrev Found : List ℕ → List CoreEq → ℕ → Type 0
  Found known rest v = Has known v ⊎ ((x : CoreEq) × IsOf rest x × (x.var ≡ v))

  read_before : (known : List ℕ) (e : CoreEq) (rest : List CoreEq) → ((v : ℕ) → v < inputs → Has known v) → ((v : ℕ) → inputs ≤ v → v < size → Found known (e ∷ rest) v)
      → AllOf Is (e ∷ rest) → AllOf (λ x. e.rank ≤ x.rank) rest → (vs : List ℕ) → AreBefore core.inputs.cases agrees.told size inputs e.rank vs → HasAll known vs
  read_before known e rest known_inputs found each rising [] h = tt
  read_before known e rest known_inputs found each rising (v ∷ vs) h = (one h.0, read_before known e rest known_inputs found each rising vs h.1)
    where
      late : (x : CoreEq) → IsOf (e ∷ rest) x → e.rank ≤ x.rank
      late x (inl same) = subst (λ y. e.rank ≤ y.rank) same (omega arith)
      late x (inr more) = at_is (λ y. e.rank ≤ y.rank) rest x rising more

      found_early : agrees.told.rank v < e.rank → Found known (e ∷ rest) v → Has known v
      found_early less (inl h') = h'
      found_early less (inr w) =
          absurd (let own : agrees.told.rank w.0.var ≡ w.0.rank = (at_is Is (e ∷ rest) w.0 each w.1).rank in
          let same : agrees.told.rank v ≡ w.0.rank = subst (λ u. agrees.told.rank u ≡ w.0.rank) w.2 own in
          let least : e.rank ≤ w.0.rank = late w.0 w.1 in
          omega (arith, less, same, least))

      one : (v < inputs) ⊎ ((inputs ≤ v) × (v < size) × (agrees.told.rank v < e.rank)) → Has known v
      one (inl below) = known_inputs v below
      one (inr w) = found_early w.2 (found v w.0 w.1)

  new_more : (known : List ℕ) (e : CoreEq) (rest : List CoreEq) → AllByRecursion (λ x. (e.var == x.var) ≡ false) rest → AllOf (λ x. ¬ Has known x.var) rest → AllOf (λ x. ¬ Has (e.var ∷ known) x.var) rest
  new_more known e [] apart new = tt
  new_more known e (x ∷ rest) apart new = (go, new_more known e rest apart.1 new.1)
    where
      go : ¬ Has (e.var ∷ known) x.var
      go (inl same) = not_equal e.var x.var apart.0 same
      go (inr h) = new.0 h

  in_order : (known : List ℕ) (rest : List CoreEq) → ((v : ℕ) → v < inputs → Has known v) → ((v : ℕ) → inputs ≤ v → v < size → Found known rest v)
      → AllOf Is rest → AllPairs (λ a b. a.rank ≤ b.rank) rest → IsDistinct (λ a b. a.var == b.var) rest → AllOf (λ x. ¬ Has known x.var) rest → IsOrdered known rest
  unfolding IsDistinct
  in_order known [] known_inputs found each rising apart new = tt
  in_order known (e ∷ rest) known_inputs found each rising apart new = (
    read_before known e rest known_inputs found each (all_of_pairs (λ a b. a.rank ≤ b.rank) e rest rising) (reads e) each.0.before,
    new.0,
    in_order (e.var ∷ known) rest (λ v below. inr (known_inputs v below)) (λ v least below. shift v (found v least below)) each.1
        (pairs_rest (λ a b. a.rank ≤ b.rank) e rest rising) apart.1 (new_more known e rest apart.0 new.1),
  )
    where
      shift : (v : ℕ) → Found known (e ∷ rest) v → Found (e.var ∷ known) rest v
      shift v (inl h) = inl (inr h)
      shift v (inr (x, inl same, is)) = inl (inl (subst (λ y. y.var ≡ v) (sym same) is))
      shift v (inr (x, inr more, is)) = inr (x, more, is)

  pub ordered : RanksRise core.eqs → IsOrdered (input_vars core.inputs) core.eqs
  ordered rising = in_order (input_vars core.inputs) core.eqs (λ v below. has_range 0 inputs v (omega arith) (omega (arith, below)))
      (λ v least below. found (agrees.all v least below)) each (λ i j d less below. rising i j d (omega (arith, less)) below) agrees.apart new
    where
      each : AllOf Is core.eqs
      each = all_of_all Is core.eqs agrees.each

      found : {v : ℕ} → Any (λ (e : CoreEq). e.var ≡ v) core.eqs → Found (input_vars core.inputs) core.eqs v
      found (k, x, below, is, same) = inr (x, subst (λ y. IsOf core.eqs y) is (is_of_at core.eqs k x below), same)

      new_each : (xs : List CoreEq) → AllOf Is xs → AllOf (λ x. ¬ Has (input_vars core.inputs) x.var) xs
      new_each [] h = tt
      new_each (x ∷ rest) h = ((λ m. absurd (let r = in_range 0 inputs x.var m in let least : inputs ≤ x.var = h.0.from in let b : x.var < 0 + inputs = r.1 in omega (arith, least, b))), new_each rest h.1)

      new : AllOf (λ x. ¬ Has (input_vars core.inputs) x.var) core.eqs
      new = new_each core.eqs each

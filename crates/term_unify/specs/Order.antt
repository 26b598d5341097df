use Rattle.std.specs.Prelude.{◌≡◌, ℕ, zero, suc, ◌+◌, ◌<◌, ◌≤◌, Bool, true, List, length, slice_get, slice_index, Option, Some}
use Rattle.term_unify.specs.Graph.{value, taken, Respects, IsAllowed}
use Rattle.term_unify.specs.declared.laws.Term.{Ghosts}

-- the sum of a function of the numbers below
abbrev pub sum_below : (ℕ → ℕ) → ℕ → ℕ
sum_below f zero = 0
sum_below f (suc n) = sum_below f n + f n

-- an order of classes in which those of the parts come first, and the sizes of their values: a class
-- whose size is 0 is not in the order yet
pub record IsWalk {T : Type 0} (A : Ghosts T) (ts : List T) (first cls sizes order : List ℕ) : Type 0 where
  pub sized : length sizes ≡ length ts
  pub seen : (r : ℕ) → 0 < slice_index sizes r → (p : ℕ) × (slice_get order p ≡ Some r)
  pub known : (p r : ℕ) → slice_get order p ≡ Some r → (0 < slice_index sizes r) × (r < length ts) × (slice_index cls r ≡ r)
  pub once : (p q r : ℕ) → slice_get order p ≡ Some r → slice_get order q ≡ Some r → p ≡ q
  pub size : (p r : ℕ) (t : T) → slice_get order p ≡ Some r → slice_get ts r ≡ Some t →
      slice_index sizes r ≡ 1 + sum_below (λ n. slice_index sizes (slice_index cls (slice_index first r + n))) (length (A.kids t))
  pub parts : (p r n : ℕ) (t : T) → slice_get order p ≡ Some r → slice_get ts r ≡ Some t → n < length (A.kids t) →
      (q : ℕ) × (q < p) × (slice_get order q ≡ Some (slice_index cls (slice_index first r + n)))
  pub low : (by : ℕ → Option T) → Respects A ts cls by → (r : ℕ) (v : T) → value A ts by r ≡ Some v → slice_index sizes r ≤ A.size v

-- the order has the class of each variable, with a value that is let stand and is small enough
pub record IsOrder {T : Type 0} (A : Ghosts T) (ts : List T) (first cls : List ℕ) (free : Bool) (limit : ℕ) (order : List ℕ) : Type 0 where
  pub sizes : List ℕ
  pub walk : IsWalk A ts first cls sizes order
  pub small : (r : ℕ) → slice_index sizes r ≤ limit
  pub all : (i x : ℕ) (t : T) → slice_get ts i ≡ Some t → A.var_of t ≡ Some x → (p : ℕ) × (slice_get order p ≡ Some (slice_index cls i))
  pub stands : (i x : ℕ) (t s : T) → slice_get ts i ≡ Some t → A.var_of t ≡ Some x → slice_get ts (slice_index cls i) ≡ Some s → taken A free s ≡ true

-- sizes that are known stay
abbrev pub KeepsSizes : List ℕ → List ℕ → Type 0
KeepsSizes old new = (r : ℕ) → 0 < slice_index old r → slice_index new r ≡ slice_index old r

-- sizes that are not known of classes that are entered stay so
abbrev pub KeepsEntered : List Bool → List ℕ → List ℕ → Type 0
KeepsEntered entered old new = (r : ℕ) → slice_get entered r ≡ Some true → slice_index old r ≡ 0 → slice_index new r ≡ 0

-- sizes stay below each bound from a limit on
abbrev pub StaySmall : ℕ → List ℕ → List ℕ → Type 0
StaySmall limit old new = (most : ℕ) → limit ≤ most → ((r : ℕ) → slice_index old r ≤ most) → (r : ℕ) → slice_index new r ≤ most

-- no value of a class is so small, where it is smaller than those of the classes that are entered
abbrev pub NoneIsSmall : {T : Type 0} → Ghosts T → List T → List ℕ → List Bool → ℕ → ℕ → Type 0
NoneIsSmall {T} A ts cls entered root limit =
    (by : ℕ → Option T) (v : T) → Respects A ts cls by → value A ts by root ≡ Some v → A.size v ≤ limit →
    ((r : ℕ) (w : T) → slice_get entered r ≡ Some true → value A ts by r ≡ Some w → A.size v < A.size w) → ⊥

-- nothing that gives all nodes of a class one value is allowed
abbrev pub NoneIsAllowed : {T : Type 0} → Ghosts T → List T → List ℕ → Bool → ℕ → Type 0
NoneIsAllowed {T} A ts cls free limit = (by : ℕ → Option T) → Respects A ts cls by → IsAllowed A free limit by → ⊥

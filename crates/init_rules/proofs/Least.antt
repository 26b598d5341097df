-- What flows into what decides which assignments there are.
use Rattle.std.specs.Prelude.{◌≡◌, refl, ℕ, zero, suc, ◌≤◌, ◌||◌, ◌⊎◌, nat_lt, Bool, true, false, List, [], ◌∷◌, length}
use Rattle.std.proofs.Common.{ap, sym, ◌∙◌, subst, arith, inl, inr}
use Rattle.digraph.specs.Graph.{In, first, later}
use Rattle.init_rules.specs.Signatures.{Among, Finite}
use Rattle.init_rules.specs.Slots.{Slot, of_param, of_var, of_start, Bits, Source, always, from, source_bit, some, System, Solves, Flows, stays, to_var, to_start}

pub or_left : (a c : Bool) → a ≡ true → (a || c) ≡ true
or_left true c p = refl
or_left false c p = absurd (cc)

pub or_right : (a c : Bool) → c ≡ true → (a || c) ≡ true
or_right true c p = refl
or_right false c p = p

pub or_false : (a c : Bool) → (a || c) ≡ false → (a ≡ false) × (c ≡ false)
or_false true c p = absurd (cc)
or_false false c p = (refl, p)

pub some_in : (A : Bits) (y : Source) (ys : List Source) → In y ys → source_bit A y ≡ true → some A ys ≡ true
some_in A y _ (first xs) p = or_left (source_bit A y) (some A xs) p
some_in A y _ (later z xs h) p = or_right (source_bit A z) (some A xs) (some_in A y xs h p)

module _ (S : System) where
  -- bits flow
  pub flows_up : (p : ℕ → Bool) (A : Bits) → Solves S p A → (x y : Source) → Flows S x y → source_bit A x ≡ true → source_bit A y ≡ true
  flows_up p A s x _ stays q = q
  flows_up p A s x _ (to_var k y f h) q = s.vars k ∙ some_in A y (S.feeds (of_var k)) h (flows_up p A s x y f q)
  flows_up p A s x _ (to_start k y f h) q = s.starts k ∙ some_in A y (S.feeds (of_start k)) h (flows_up p A s x y f q)

-- ---- bits are true for a reason

from_case : (A : Bits) (y : Source) (ys : List Source) (c : Bool) → source_bit A y ≡ c → (c || some A ys) ≡ true
    → (some A ys ≡ true → (z : Source) × In z ys × (source_bit A z ≡ true)) → (z : Source) × In z (y ∷ ys) × (source_bit A z ≡ true)
from_case A y ys true e q f = (y, first ys, e)
from_case A y ys false e q f = let r = f q in (r.0, later y ys r.1, r.2)

pub some_from : (A : Bits) (ys : List Source) → some A ys ≡ true → (y : Source) × In y ys × (source_bit A y ≡ true)
some_from A [] p = absurd (cc)
some_from A (y ∷ ys) p = from_case A y ys (source_bit A y) refl p (λ q. some_from A ys q)

-- what has the bit 1 with these parameters
pub data Begins (p : ℕ → Bool) : Source → Type 0 where
  by_itself : Begins p always
  by_param : (k : ℕ) → p k ≡ true → Begins p (from (of_param k))

abbrev pub Reached : System → (ℕ → Bool) → Source → Type 0
Reached S p y = (x : Source) × Begins p x × Flows S x y

abbrev pub AtMost : Bits → Bits → Type 0
AtMost A B = (s : Slot) → A s ≡ true → B s ≡ true

pub some_at_most : (A B : Bits) → AtMost A B → (ys : List Source) → some A ys ≡ true → some B ys ≡ true
some_at_most A B f ys p = let r = some_from A ys p in some_in B r.0 ys r.1 (source_at_most r.0 r.2)
  where
    source_at_most : (y : Source) → source_bit A y ≡ true → source_bit B y ≡ true
    source_at_most always q = refl
    source_at_most (from s) q = f s q

abbrev add_if : Bool → ℕ → ℕ
add_if true n = suc n
add_if false n = n

abbrev ones : Bits → List Slot → ℕ
ones A [] = 0
ones A (s ∷ ds) = add_if (A s) (ones A ds)

add_le : (a c : Bool) (m n : ℕ) → (a ≡ true → c ≡ true) → m ≤ n → add_if a m ≤ add_if c n
add_le true true m n f p = omega (arith, p)
add_le true false m n f p = absurd (wrong (f refl))
  where
    wrong : false ≡ true → ⊥
    wrong e = absurd (cc)
add_le false true m n f p = omega (arith, p)
add_le false false m n f p = p

add_some : (a : Bool) (m n : ℕ) → m ≤ n → add_if a m ≤ suc n
add_some true m n p = omega (arith, p)
add_some false m n p = omega (arith, p)

ones_le : (A B : Bits) → AtMost A B → (ds : List Slot) → ones A ds ≤ ones B ds
ones_le A B f [] = omega arith
ones_le A B f (s ∷ ds) = add_le (A s) (B s) (ones A ds) (ones B ds) (f s) (ones_le A B f ds)

ones_few : (A : Bits) (ds : List Slot) → ones A ds ≤ length ds
ones_few A [] = omega arith
ones_few A (s ∷ ds) = add_some (A s) (ones A ds) (length ds) (ones_few A ds)

-- bits of which equally many are 1 are the same
same_here : (a c : Bool) (m n : ℕ) → (a ≡ true → c ≡ true) → m ≤ n → add_if a m ≡ add_if c n → (a ≡ c) × (m ≡ n)
same_here true true m n f p e = (refl, omega (arith, e))
same_here true false m n f p e = absurd (wrong (f refl))
  where
    wrong : false ≡ true → ⊥
    wrong e = absurd (cc)
same_here false true m n f p e = absurd (omega (arith, e, p))
same_here false false m n f p e = (refl, e)

ones_same : (A B : Bits) → AtMost A B → (s : Slot) (ds : List Slot) → ones A ds ≡ ones B ds → Among s ds → A s ≡ B s
ones_same A B f s [] e h = absurd h
ones_same A B f s (z ∷ ds) e (inl q) = subst (λ z. A z ≡ B z) q (same_here (A z) (B z) (ones A ds) (ones B ds) (f z) (ones_le A B f ds) e).0
ones_same A B f s (z ∷ ds) e (inr h) = ones_same A B f s ds (same_here (A z) (B z) (ones A ds) (ones B ds) (f z) (ones_le A B f ds) e).1 h

-- ---- rounds from below

module _ (S : System) (p : ℕ → Bool) where
  abbrev pub round : Bits → Bits
  round A (of_param k) = p k
  round A (of_var k) = some A (S.feeds (of_var k))
  round A (of_start k) = some A (S.feeds (of_start k))

  abbrev pub bottom : Bits
  bottom (of_param k) = p k
  bottom (of_var k) = false
  bottom (of_start k) = false

  abbrev pub rounds : ℕ → Bits
  rounds zero = bottom
  rounds (suc t) = round (rounds t)

  round_at_most : (A B : Bits) → AtMost A B → AtMost (round A) (round B)
  round_at_most A B f (of_param k) q = q
  round_at_most A B f (of_var k) q = some_at_most A B f (S.feeds (of_var k)) q
  round_at_most A B f (of_start k) q = some_at_most A B f (S.feeds (of_start k)) q

  bottom_at_most : (A : Bits) → AtMost bottom (round A)
  bottom_at_most A (of_param k) q = q
  bottom_at_most A (of_var k) q = absurd (cc)
  bottom_at_most A (of_start k) q = absurd (cc)

  rising : (t : ℕ) → AtMost (rounds t) (rounds (suc t))
  rising zero = bottom_at_most bottom
  rising (suc t) = round_at_most (rounds t) (rounds (suc t)) (rising t)

  -- each round is reached
  pub source_reached : (A : Bits) → ((s : Slot) → A s ≡ true → Reached S p (from s)) → (y : Source) → source_bit A y ≡ true → Reached S p y
  source_reached A f always e = (always, by_itself, stays)
  source_reached A f (from s) e = f s e

  pub reached : (t : ℕ) (s : Slot) → rounds t s ≡ true → Reached S p (from s)
  reached zero (of_param k) q = (from (of_param k), by_param k q, stays)
  reached zero (of_var k) q = absurd (cc)
  reached zero (of_start k) q = absurd (cc)
  reached (suc t) (of_param k) q = (from (of_param k), by_param k q, stays)
  reached (suc t) (of_var k) q =
      let r = some_from (rounds t) (S.feeds (of_var k)) q in
      let y = source_reached (rounds t) (λ s e. reached t s e) r.0 r.2 in (y.0, y.1, to_var k r.0 y.2 r.1)
  reached (suc t) (of_start k) q =
      let r = some_from (rounds t) (S.feeds (of_start k)) q in
      let y = source_reached (rounds t) (λ s e. reached t s e) r.0 r.2 in (y.0, y.1, to_start k r.0 y.2 r.1)

  abbrev pub Stable : ℕ → Type 0
  Stable t = (s : Slot) → rounds t s ≡ rounds (suc t) s

  unfed : (t : ℕ) (s : Slot) → S.feeds s ≡ [] → rounds t s ≡ rounds (suc t) s
  unfed zero (of_param k) e = refl
  unfed zero (of_var k) e = sym (ap (some bottom) e)
  unfed zero (of_start k) e = sym (ap (some bottom) e)
  unfed (suc t) (of_param k) e = refl
  unfed (suc t) (of_var k) e = ap (some (rounds t)) e ∙ sym (ap (some (rounds (suc t))) e)
  unfed (suc t) (of_start k) e = ap (some (rounds t)) e ∙ sym (ap (some (rounds (suc t))) e)

  module _ (fin : Finite S) where
    same_ones : (t : ℕ) → ones (rounds t) fin.0 ≡ ones (rounds (suc t)) fin.0 → Stable t
    same_ones t e s = elim (fin.1 s) [
      | inl h ↦ ones_same (rounds t) (rounds (suc t)) (rising t) s fin.0 e h
      | inr h ↦ unfed t s h
    ]

    one_more : (t : ℕ) → t ≤ ones (rounds t) fin.0 → ((u : ℕ) × Stable u) ⊎ (suc t ≤ ones (rounds (suc t)) fin.0)
    one_more t l = by_case (nat_lt (ones (rounds t) fin.0) (ones (rounds (suc t)) fin.0)) refl
      where
        by_case : (c : Bool) → nat_lt (ones (rounds t) fin.0) (ones (rounds (suc t)) fin.0) ≡ c → ((u : ℕ) × Stable u) ⊎ (suc t ≤ ones (rounds (suc t)) fin.0)
        by_case true e = inr (grind (arith, e, l))
        by_case false e = inl (t, same_ones t (grind (arith, e, ones_le (rounds t) (rounds (suc t)) (rising t) fin.0)))

    many : (t : ℕ) → ((u : ℕ) × Stable u) ⊎ (t ≤ ones (rounds t) fin.0)
    many zero = inr (omega arith)
    many (suc t) = elim (many t) [ inl u ↦ inl u | inr l ↦ one_more t l ]

    pub settles : (u : ℕ) × Stable u
    settles = elim (many (suc (length fin.0))) [
      | inl u ↦ u
      | inr l ↦ absurd (omega (arith, l, ones_few (rounds (suc (length fin.0))) fin.0))
    ]

    -- the least assignment
    pub least_solves : Solves S p (rounds settles.0)
    least_solves = record {
      params = λ k. settles.1 (of_param k);
      vars = λ k. settles.1 (of_var k);
      starts = λ k. settles.1 (of_start k);
    }

  -- lies below every other
  pub below : (A : Bits) → Solves S p A → (t : ℕ) → AtMost (rounds t) A
  below A s zero (of_param k) q = s.params k ∙ q
  below A s zero (of_var k) q = absurd (cc)
  below A s zero (of_start k) q = absurd (cc)
  below A s (suc t) (of_param k) q = s.params k ∙ q
  below A s (suc t) (of_var k) q = s.vars k ∙ some_at_most (rounds t) A (below A s t) (S.feeds (of_var k)) q
  below A s (suc t) (of_start k) q = s.starts k ∙ some_at_most (rounds t) A (below A s t) (S.feeds (of_start k)) q

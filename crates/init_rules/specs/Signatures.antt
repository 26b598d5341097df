-- What assignments say of a body: whether it is initialised, and the signature of its bits.
use Rattle.std.specs.Prelude.{◌≡◌, ℕ, ◌==◌, Bool, true, false, List, [], ◌∷◌, ◌⊎◌}
use Rattle.digraph.specs.Graph.{Same}
use Rattle.init_rules.specs.Slots.{Slot, of_param, Bits, Source, always, from, some, System, Solves, Obeys, FlowsInto}

-- all parameters have 0
abbrev pub none : ℕ → Bool
none k = false

-- parameter i alone has 1
abbrev pub alone : ℕ → ℕ → Bool
alone i k = i == k

module _ (S : System) where
  -- ---- by assignments

  abbrev pub Initialised : Type 0
  Initialised = (A : Bits) × Obeys S none A

  abbrev pub May : ℕ → Type 0
  May i = (A : Bits) × Obeys S (alone i) A

  abbrev pub Own : Type 0
  Own = (A : Bits) → Obeys S none A → some A S.result ≡ true

  abbrev pub Reaches : ℕ → Type 0
  Reaches i = May i × ((A : Bits) → Obeys S (alone i) A → some A S.result ≡ true)

  -- ---- by what flows where

  abbrev pub FlowsWrong : Source → Type 0
  FlowsWrong x = FlowsInto S x S.zeros

  abbrev pub FlowsOut : Source → Type 0
  FlowsOut x = FlowsInto S x S.result

abbrev pub Among : Slot → List Slot → Type 0
Among s [] = ⊥
Among s (d ∷ ds) = (d ≡ s) ⊎ Among s ds

-- only what some list of slots holds is fed
abbrev pub Finite : System → Type 0
Finite S = (ds : List Slot) × ((s : Slot) → Among s ds ⊎ (S.feeds s ≡ []))

-- ---- the laws: assignments are decided by what flows

abbrev pub InitialisedIs : Type 0
InitialisedIs = (S : System) → Finite S → Same (Initialised S) (FlowsWrong S always → ⊥)

abbrev pub MayIs : Type 0
MayIs = (S : System) → Finite S → (i : ℕ) → Same (May S i) ((FlowsWrong S always → ⊥) × (FlowsWrong S (from (of_param i)) → ⊥))

abbrev pub OwnIs : Type 0
OwnIs = (S : System) → Finite S → Initialised S → Same (Own S) (FlowsOut S always)

abbrev pub ReachesIs : Type 0
ReachesIs = (S : System) → Finite S → (i : ℕ) → Same (Reaches S i) (May S i × (FlowsOut S always ⊎ FlowsOut S (from (of_param i))))

-- one assignment lies below all others, and decides whether there is one that asks for nothing
abbrev pub Least : System → (ℕ → Bool) → Bits → Type 0
Least S p L = Solves S p L × ((A : Bits) → Solves S p A → (s : Slot) → L s ≡ true → A s ≡ true)

abbrev pub LeastThere : Type 0
LeastThere = (S : System) → Finite S → (p : ℕ → Bool) → (L : Bits) × Least S p L

abbrev pub LeastDecides : Type 0
LeastDecides = (S : System) (p : ℕ → Bool) (L : Bits) → Least S p L → Same ((A : Bits) × Obeys S p A) (Obeys S p L)

-- where the least gives the result 1, all do
abbrev pub LeastResult : Type 0
LeastResult = (S : System) (p : ℕ → Bool) (L : Bits) → Least S p L → (A : Bits) → Obeys S p A → some L S.result ≡ true → some A S.result ≡ true

-- A call may have several arguments of bit 1. Then an assignment has all of them, and gives the result 1 only where the result
-- is 1 by itself or one of them reaches it.
abbrev pub SeveralParameters : Type 0
SeveralParameters = (S : System) → Finite S → Initialised S → (p : ℕ → Bool) → ((k : ℕ) → p k ≡ true → May S k)
    → (A : Bits) × Obeys S p A × (some A S.result ≡ true → Own S ⊎ ((k : ℕ) × (p k ≡ true) × Reaches S k))

-- Bits that are the greatest of others, after the constraints on initialisation types of Colaço and Pouzet (STTT 2004).
use Rattle.std.specs.Prelude.{◌≡◌, ℕ, ◌||◌, Bool, true, false, List, [], ◌∷◌}
use Rattle.digraph.specs.Graph.{In}

-- what has a bit of its own: a parameter by its place, a variable and the initial equation of a variable by the variable's
-- number
pub data Slot : Type 0 where
  of_param : ℕ → Slot
  of_var : ℕ → Slot
  of_start : ℕ → Slot

-- an assignment
abbrev pub Bits : Type 0
Bits = Slot → Bool

-- where a bit comes from: it is 1 always, or where that of a slot is
pub data Source : Type 0 where
  always : Source
  from : Slot → Source

abbrev pub source_bit : Bits → Source → Bool
source_bit A always = true
source_bit A (from s) = A s

-- the greatest of the bits of these
abbrev pub some : Bits → List Source → Bool
some A [] = false
some A (x ∷ xs) = source_bit A x || some A xs

-- Each slot that is no parameter has the greatest bit of those that it is fed by. A body asks some bits to be 0, and the bit
-- of its result is the greatest of some.
pub record System : Type 0 where
  pub feeds : Slot → List Source
  pub zeros : List Source
  pub result : List Source

module _ (S : System) where
  -- the rules, with these bits for the parameters
  pub record Solves (p : ℕ → Bool) (A : Bits) : Type 0 where
    pub params : (k : ℕ) → A (of_param k) ≡ p k
    pub vars : (k : ℕ) → A (of_var k) ≡ some A (S.feeds (of_var k))
    pub starts : (k : ℕ) → A (of_start k) ≡ some A (S.feeds (of_start k))

  pub record Obeys (p : ℕ → Bool) (A : Bits) : Type 0 where
    pub solves : Solves p A
    pub zeros : some A S.zeros ≡ false

  -- what flows into a slot
  pub data Flows (x : Source) : Source → Type 0 where
    stays : Flows x x
    to_var : (k : ℕ) (y : Source) → Flows x y → In y (S.feeds (of_var k)) → Flows x (from (of_var k))
    to_start : (k : ℕ) (y : Source) → Flows x y → In y (S.feeds (of_start k)) → Flows x (from (of_start k))

  -- and into one of a list
  abbrev pub FlowsInto : Source → List Source → Type 0
  FlowsInto x ys = (y : Source) × In y ys × Flows x y

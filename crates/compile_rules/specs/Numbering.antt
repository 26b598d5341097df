-- Numbers of slots.
use Rattle.std.specs.Prelude.{◌≡◌, ℕ, ◌<◌, List, [], ◌∷◌, ◌⊎◌, length}
use Rattle.step_code.specs.Steps.{Moment, slot, BodyStep}
use Rattle.compile_rules.specs.declared.places.Place.{Place}
use Rattle.compile_rules.specs.declared.places.Act.{Act}
use Rattle.compile_rules.specs.declared.places.Act.TheVariants.{Put as put, Copy as copy, Operate as operate, Test as test}
use Rattle.compile_rules.specs.Scheme.{Guarded, Slots}

-- the name is one of these
abbrev pub IsAmong : List Place → Place → Type 0
IsAmong [] p = ⊥
IsAmong (q ∷ names) p = (q ≡ p) ⊎ IsAmong names p

module _ (number_of : Place → ℕ) (IsUsed : Place → Type 0) (size : ℕ) where
  -- numbers keep the names in use apart, and are within the slots
  pub record IsNumbering : Type 0 where
    pub apart : (p q : Place) → IsUsed p → IsUsed q → number_of p ≡ number_of q → p ≡ q
    pub within : (p : Place) → IsUsed p → number_of p < size

  abbrev pub AllUsed : List Place → Type 0
  AllUsed [] = Unit {0}
  AllUsed (p ∷ ps) = IsUsed p × AllUsed ps

  -- an operator has one to three operands
  abbrev pub AreFew : List Place → Type 0
  AreFew [] = ⊥
  AreFew (a ∷ []) = Unit {0}
  AreFew (a ∷ b ∷ []) = Unit {0}
  AreFew (a ∷ b ∷ c ∷ []) = Unit {0}
  AreFew (a ∷ b ∷ c ∷ d ∷ rest) = ⊥

  abbrev pub IsUsedAct : Act → Type 0
  IsUsedAct (put d leaf) = IsUsed d
  IsUsedAct (copy d a) = IsUsed d × IsUsed a
  IsUsedAct (operate d op args) = IsUsed d × AllUsed args × AreFew args
  IsUsedAct (test d a leaf) = IsUsed d × IsUsed a

  abbrev pub AreUsed : List Guarded → Type 0
  AreUsed [] = Unit {0}
  AreUsed (act ∷ rest) = (AllUsed act.0 × IsUsedAct act.1) × AreUsed rest

  -- the slots of a moment are those of names
  pub record Matches (s : Slots) (m : Moment) : Type 0 where
    pub all : length m.slots ≡ size
    pub same : (p : Place) → IsUsed p → slot m (number_of p) ≡ s p

-- Whether definitions are initialised, and their signatures.
use Rattle.std.specs.Prelude.{◌≡◌, ℕ, Bool, true, List, length, Some, ◌⊎◌}
use Rattle.ls_sig.specs.declared.sigs.InitSig.{InitSig}
use Rattle.ls_places.specs.declared.definition.Definition.{Definition}
use Rattle.ls_places.specs.Search.{nth}
use Rattle.digraph.specs.Graph.{Same}
use Rattle.init_rules.specs.Slots.{of_param, Bits, always, from}
use Rattle.init_rules.specs.Signatures.{none, alone, FlowsWrong, FlowsOut}
use Rattle.init_rules.specs.Bits.{Obeys, result_bit}
use Rattle.init_rules.specs.Flow.{system}

module _ (d : Definition) (sigs : List InitSig) where
  -- an assignment with these bits for the parameters
  abbrev pub Assigned : (ℕ → Bool) → Bits → Type 0
  Assigned p A = Obeys d sigs A × ((k : ℕ) → A (of_param k) ≡ p k)

  abbrev pub Initialised : Type 0
  Initialised = (A : Bits) × Assigned none A

  -- an assignment exists with parameter i alone at 1
  abbrev pub May : ℕ → Type 0
  May i = (A : Bits) × Assigned (alone i) A

  -- every assignment with all parameters 0 gives the result 1
  abbrev pub Own : Type 0
  Own = (A : Bits) → Assigned none A → result_bit d sigs A ≡ true

  abbrev pub Reaches : ℕ → Type 0
  Reaches i = May i × ((A : Bits) → Assigned (alone i) A → result_bit d sigs A ≡ true)

  -- the signature of a definition whose parameters of these places stand for streams of values
  pub record IsSignature (data_marks : List Bool) (s : InitSig) : Type 0 where
    pub mays : length s.may ≡ length data_marks
    pub reach : length s.reaches ≡ length data_marks
    pub may : (i : ℕ) → Same (nth s.may i ≡ Some true) ((nth data_marks i ≡ Some true) × May i)
    pub reaches : (i : ℕ) → Same (nth s.reaches i ≡ Some true) ((nth data_marks i ≡ Some true) × Reaches i)
    pub own : Same (s.own ≡ true) Own

-- ---- the laws: reachability decides

abbrev pub InitialisedByFlow : Type 0
InitialisedByFlow = (d : Definition) (sigs : List InitSig) → Same (Initialised d sigs) (FlowsWrong (system d sigs) always → ⊥)

abbrev pub MayByFlow : Type 0
MayByFlow = (d : Definition) (sigs : List InitSig) (i : ℕ)
    → Same (May d sigs i) ((FlowsWrong (system d sigs) always → ⊥) × (FlowsWrong (system d sigs) (from (of_param i)) → ⊥))

abbrev pub OwnByFlow : Type 0
OwnByFlow = (d : Definition) (sigs : List InitSig) → Initialised d sigs → Same (Own d sigs) (FlowsOut (system d sigs) always)

abbrev pub ReachesByFlow : Type 0
ReachesByFlow = (d : Definition) (sigs : List InitSig) (i : ℕ)
    → Same (Reaches d sigs i) (May d sigs i × (FlowsOut (system d sigs) always ⊎ FlowsOut (system d sigs) (from (of_param i))))

-- a call may have several arguments of bit 1: then an assignment has all of them, and gives the result 1 only where it is 1 by
-- itself or one of them reaches it
abbrev pub SeveralByFlow : Type 0
SeveralByFlow = (d : Definition) (sigs : List InitSig) → Initialised d sigs → (p : ℕ → Bool) → ((k : ℕ) → p k ≡ true → May d sigs k)
    → (A : Bits) × Assigned d sigs p A × (result_bit d sigs A ≡ true → Own d sigs ⊎ ((k : ℕ) × (p k ≡ true) × Reaches d sigs k))

-- What a core promises: its variables are numbered without gaps, clocks and shapes agree, branches cover, and ranks rise.
use Rattle.std.specs.Prelude.{◌≡◌, ℕ, ◌==◌, ◌+◌, ◌-◌, ◌<◌, ◌≤◌, ◌⊎◌, nat_lt, List, [], ◌∷◌, ◌++◌, Option, None, Some, length, map, slice_get, if◌then◌else◌, MatchOption, All, AllPairs, Any, IsTrue, unwrap_or}
use Rattle.std.specs.List.{list_all, IsDistinct}
use Rattle.std.specs.List.Sorted.{IsNonDecreasingBy}
use Rattle.std.specs.Option.{option_map, option_and_then}
use Rattle.ls_base.specs.declared.Name.{Name}
use Rattle.ls_value.specs.declared.leaf.Leaf.{Leaf}
use Rattle.ls_value.specs.declared.leaf.Leaf.TheVariants as leaf
use Rattle.ls_value.specs.declared.leaf.Shape.{Shape}
use Rattle.ls_value.specs.declared.leaf.Shape.TheVariants as shape
use Rattle.ls_ops.specs.Signature.{signature_of, arity_of}
use Rattle.line_io.specs.declared.form.InputForm.{InputForm}
use Rattle.line_io.specs.declared.form.Field.{Field}
use Rattle.line_io.specs.Cells.{first_of}
use Rattle.step_code.specs.Shapes.{fits, has_case, is_known_leaf, is_known_shape, operands_fit}
use Rattle.step_code.specs.Valid.{is_enumeration}
use Rattle.core_lang.specs.declared.equations.CoreEq.{CoreEq}
use Rattle.core_lang.specs.declared.equations.CoreOut.{CoreOut}
use Rattle.core_lang.specs.declared.equations.CoreRight.{CoreRight}
use Rattle.core_lang.specs.declared.equations.CoreRight.TheVariants.{Const, Copy, Op, Pre, Fby, Init, Sample, Choose}
use Rattle.core_lang.specs.Reads.{asked_vars, reads}

-- ---- variables

-- one more than the greatest number of a signal; signals are numbered from 0
abbrev pub signal_count : List Field → ℕ
signal_count [] = 0
signal_count (f ∷ rest) = with_signal f.signal (signal_count rest)
  where
    with_signal : Option ℕ → ℕ → ℕ
    with_signal None n = n
    with_signal (Some s) n = if nat_lt s n then n else s + 1

abbrev pub input_count : InputForm → ℕ
input_count form = length form.fields + signal_count form.fields

-- the field that tells an input variable: its own, or the first of its signal
abbrev pub field_of : InputForm → ℕ → Option Field
field_of form v =
    if nat_lt v (length form.fields) then slice_get form.fields v
    else option_and_then (λ at. slice_get form.fields at) (first_of form.fields (v - length form.fields))

abbrev pub input_shape : InputForm → ℕ → Shape
input_shape form v = if nat_lt v (length form.fields) then unwrap_or (option_map (λ (f : Field). f.shape) (slice_get form.fields v)) shape.Bool else shape.Bool

-- what is told of each variable
pub record Told : Type 0 where
  pub clock : ℕ → List (ℕ × Leaf)
  pub shape : ℕ → Shape
  pub rank : ℕ → ℕ

-- ---- clocks and operands

-- a clock may ask the leaf of a variable of this shape: a truth value or a constructor
abbrev pub IsCase : List (List Name) → Shape → Leaf → Type 0
IsCase cases shape.Bool (leaf.Bool b) = Unit {0}
IsCase cases (shape.Enum t) (leaf.Enum u k) = (t ≡ u) × IsTrue (has_case cases t k)
IsCase cases _ _ = ⊥

module _ (cases : List (List Name)) (told : Told) where
  -- each variable of the clock is one of so many, and has as its clock what stands before it
  abbrev pub IsClock : ℕ → List (ℕ × Leaf) → List (ℕ × Leaf) → Type 0
  IsClock size prefix [] = Unit {0}
  IsClock size prefix (asked ∷ rest) =
      (asked.0 < size) × (told.clock asked.0 ≡ prefix) × IsCase cases (told.shape asked.0) asked.1 × IsClock size (prefix ++ asked ∷ []) rest

  module _ (size : ℕ) where
    -- a variable of this clock
    abbrev pub IsOn : List (ℕ × Leaf) → ℕ → Type 0
    IsOn clock a = (a < size) × (told.clock a ≡ clock)

    -- and of this shape
    abbrev pub IsOperand : List (ℕ × Leaf) → Shape → ℕ → Type 0
    IsOperand clock s a = IsOn clock a × (told.shape a ≡ s)

    abbrev pub AllOn : List (ℕ × Leaf) → List ℕ → Type 0
    AllOn clock [] = Unit {0}
    AllOn clock (a ∷ rest) = IsOn clock a × AllOn clock rest

    -- a branch is on where the condition holds its leaf
    abbrev pub AreBranches : List (ℕ × Leaf) → Shape → ℕ → List (Leaf × ℕ) → Type 0
    AreBranches clock s c [] = Unit {0}
    AreBranches clock s c (branch ∷ rest) =
        IsOperand (clock ++ (c, branch.0) ∷ []) s branch.1 × IsCase cases (told.shape c) branch.0 × AreBranches clock s c rest

    -- the branches are of different leaves, and there is one for each
    pub record AreCases (s : Shape) (branches : List (Leaf × ℕ)) : Type 0 where
      pub differ : AllPairs (λ a b. ¬ (a.0 ≡ b.0)) branches
      pub cover : (l : Leaf) → IsCase cases s l → Any (λ branch. branch.0 ≡ l) branches

    -- the operands of a right side have the clocks and the shapes that it wants
    abbrev pub Agrees : List (ℕ × Leaf) → Shape → CoreRight → Type 0
    Agrees clock s (Const l) = IsTrue (fits l s) × IsTrue (is_known_leaf cases l)
    Agrees clock s (Copy a) = IsOperand clock s a
    Agrees clock s (Op op args) =
        AllOn clock args × (length args ≡ arity_of (signature_of op)) × IsTrue (operands_fit (signature_of op) s (map told.shape args))
    Agrees clock s (Pre a) = IsOperand clock s a
    Agrees clock s (Fby a b) = IsOperand clock s a × IsOperand clock s b
    Agrees clock s (Init a b) = IsOperand clock s a × IsOperand clock s b
    Agrees clock s (Sample a) = (a < size) × (told.shape a ≡ s) × ((asked : ℕ × Leaf) × (clock ≡ told.clock a ++ asked ∷ []))
    Agrees clock s (Choose c branches) = IsOn clock c × AreBranches clock s c branches × AreCases (told.shape c) branches

    abbrev pub AreRestarts : List ℕ → Type 0
    AreRestarts [] = Unit {0}
    AreRestarts (r ∷ rest) = ((r < size) × (told.shape r ≡ shape.Bool)) × AreRestarts rest

    -- what is read at once is an input, or of an equation of a smaller rank
    abbrev pub AreBefore : ℕ → ℕ → List ℕ → Type 0
    AreBefore inputs rank [] = Unit {0}
    AreBefore inputs rank (v ∷ rest) = ((v < inputs) ⊎ ((inputs ≤ v) × (v < size) × (told.rank v < rank))) × AreBefore inputs rank rest

    pub record IsEquation (inputs : ℕ) (e : CoreEq) : Type 0 where
      pub from : inputs ≤ e.var
      pub below : e.var < size
      pub clock : told.clock e.var ≡ e.clock
      pub shape : told.shape e.var ≡ e.shape
      pub rank : told.rank e.var ≡ e.rank
      pub is_known : IsTrue (is_known_shape cases e.shape)
      pub is_clock : IsClock size [] e.clock
      pub restarts : AreRestarts e.restarts
      pub agrees : Agrees e.clock e.shape e.right
      pub before : AreBefore inputs e.rank (reads e)

    -- an output is a variable of an equation; that of a signal has the clock of the variable that tells whether it is emitted
    pub record IsOutput (inputs : ℕ) (out : CoreOut) : Type 0 where
      pub from : inputs ≤ out.var
      pub below : out.var < size
      pub signal : MatchOption out.signal (Unit {0}) (λ s. (inputs ≤ s) × IsOperand (told.clock out.var) shape.Bool s)

-- ---- inputs

-- the clock of an input asks fields of the same line
pub record IsInput (form : InputForm) (told : Told) (v : ℕ) : Type 0 where
  pub there : Any (λ f. field_of form v ≡ Some f) form.fields
  pub clock : Some (told.clock v) ≡ option_map (λ (f : Field). f.on) (field_of form v)
  pub shape : told.shape v ≡ input_shape form v
  pub is_known : IsTrue (is_known_shape form.cases (input_shape form v))
  pub is_clock : IsClock form.cases told (length form.fields) [] (told.clock v)

-- fields of one signal have one clock
abbrev pub SignalsAgree : List Field → Type 0
SignalsAgree fields = AllPairs (λ a b. (s : ℕ) → a.signal ≡ Some s → b.signal ≡ Some s → a.on ≡ b.on) fields

-- ---- the whole

pub record IsCore (eqs : List CoreEq) (inputs : InputForm) (outputs : List CoreOut) : Type 0 where
  pub told : Told
  pub named : IsTrue (list_all (is_enumeration inputs.names) inputs.cases)
  pub signals : SignalsAgree inputs.fields
  pub each_input : (v : ℕ) → v < input_count inputs → IsInput inputs told v
  pub each : All (IsEquation inputs.cases told (input_count inputs + length eqs) (input_count inputs)) eqs
  pub apart : IsDistinct (λ a b. a.var == b.var) eqs
  pub all : (v : ℕ) → input_count inputs ≤ v → v < input_count inputs + length eqs → Any (λ e. e.var ≡ v) eqs
  pub each_output : All (IsOutput inputs.cases told (input_count inputs + length eqs) (input_count inputs)) outputs

-- ranks do not fall from an equation to a later one
abbrev pub RanksRise : List CoreEq → Type 0
RanksRise eqs = IsNonDecreasingBy (λ e. e.rank) eqs

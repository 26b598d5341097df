-- What a plan promises of a core's equations in order: what each reads is known before it, clocks agree, and equations that share
-- the flag of their first instants are alike.
use Rattle.std.specs.Prelude.{◌≡◌, ℕ, Bool as Truth, true, false, List, [], ◌∷◌, ◌++◌, Option, None, Some, ◌<◌, ◌+◌, length, ◌⊎◌}
use Rattle.ls_value.specs.declared.leaf.Leaf.{Leaf}
use Rattle.ls_value.specs.declared.leaf.Leaf.TheVariants.{Bool}
use Rattle.core_lang.specs.declared.cores.Core.{Core}
use Rattle.core_lang.specs.declared.equations.CoreEq.{CoreEq}
use Rattle.core_lang.specs.declared.equations.CoreRight.{CoreRight}
use Rattle.core_lang.specs.declared.equations.CoreRight.TheVariants.{Const, Copy, Op, Pre, Fby, Init, Sample, Choose}
use Rattle.core_lang.specs.Reads.{asked_vars}
use Rattle.core_lang.specs.Cores.{input_count, IsCore}
use Rattle.core_lang.specs.Orders.{Has, HasAll, IsOf, AllOf}
use Rattle.compile_rules.specs.Scheme.{Plan, remembers, leads}

abbrev pub HasLeaf : List Leaf → Leaf → Type 0
HasLeaf [] leaf = ⊥
HasLeaf (k ∷ ks) leaf = (k ≡ leaf) ⊎ HasLeaf ks leaf

abbrev pub is_some : Option Leaf → Truth
is_some None = false
is_some (Some leaf) = true

module _ (plan : Plan) where
  -- the leaf is one that a guard asks of the variable
  abbrev pub IsAsked : ℕ → Leaf → Type 0
  IsAsked m (Bool true) = Unit {0}
  IsAsked m leaf = HasLeaf (plan.leaves m) leaf

  -- each variable of the clock is known and has as its clock what stands before it
  abbrev pub IsClock : List ℕ → List (ℕ × Leaf) → List (ℕ × Leaf) → Type 0
  IsClock known prefix [] = Unit {0}
  IsClock known prefix (asked ∷ rest) =
      Has known asked.0 × (plan.clock asked.0 ≡ prefix) × IsAsked asked.0 asked.1 × IsClock known (prefix ++ asked ∷ []) rest

  -- a known operand of this clock
  abbrev pub IsOperand : List ℕ → List (ℕ × Leaf) → ℕ → Type 0
  IsOperand known clock a = Has known a × (plan.clock a ≡ clock)

  abbrev pub AreOperands : List ℕ → List (ℕ × Leaf) → List ℕ → Type 0
  AreOperands known clock [] = Unit {0}
  AreOperands known clock (a ∷ rest) = IsOperand known clock a × AreOperands known clock rest

  abbrev pub AreBranches : List ℕ → List (ℕ × Leaf) → ℕ → List (Leaf × ℕ) → Type 0
  AreBranches known clock c [] = Unit {0}
  AreBranches known clock c (branch ∷ rest) =
      IsOperand known (clock ++ (c, branch.0) ∷ []) branch.1 × IsAsked c branch.0 × AreBranches known clock c rest

  -- the operands' clocks agree, and those that are read at once are known
  abbrev pub Agrees : List ℕ → List (ℕ × Leaf) → CoreRight → Type 0
  Agrees known clock (Const leaf) = Unit {0}
  Agrees known clock (Copy a) = IsOperand known clock a
  Agrees known clock (Op op args) = AreOperands known clock args
  Agrees known clock (Pre a) = Unit {0}
  Agrees known clock (Fby a b) = IsOperand known clock a
  Agrees known clock (Init a b) = IsOperand known clock a × IsOperand known clock b
  Agrees known clock (Sample a) = Has known a × ((asked : ℕ × Leaf) × (clock ≡ plan.clock a ++ asked ∷ []))
  Agrees known clock (Choose c branches) = IsOperand known clock c × AreBranches known clock c branches

  abbrev pub AreRestarts : List ℕ → List ℕ → Type 0
  AreRestarts known [] = Unit {0}
  AreRestarts known (r ∷ rest) = (Has known r × IsClock known [] (plan.clock r)) × AreRestarts known rest

  -- the operand whose leaf a delay keeps is of its clock; it is read after all equations
  abbrev pub IsKept : List ℕ → List (ℕ × Leaf) → CoreRight → Type 0
  IsKept known clock (Pre a) = IsOperand known clock a
  IsKept known clock (Fby a b) = IsOperand known clock b
  IsKept known clock _ = Unit {0}

  pub record IsPlanned (known : List ℕ) (e : CoreEq) : Type 0 where
    pub own : plan.clock e.var ≡ e.clock
    pub is_clock : IsClock known [] e.clock
    pub is_new : ¬ Has known e.var
    pub are_restarts : AreRestarts known e.restarts
    pub agrees : Agrees known e.clock e.right

  -- the equations in order: what is known grows by the variable of each
  abbrev pub ArePlanned : List ℕ → List CoreEq → Type 0
  ArePlanned known [] = Unit {0}
  ArePlanned known (e ∷ rest) = IsPlanned known e × ArePlanned (e.var ∷ known) rest

  -- ---- equations that share the flag of their first instants

  -- an equation that another one leads comes after it, and has its clock and its restarts
  pub record IsFollower (done : List CoreEq) (e : CoreEq) : Type 0 where
    pub leader : CoreEq
    pub is_done : IsOf done leader
    pub leading : leads plan leader ≡ true
    pub var : leader.var ≡ plan.lead e.var
    pub clock : leader.clock ≡ e.clock
    pub restarts : leader.restarts ≡ e.restarts

  abbrev pub AreLed : List CoreEq → List CoreEq → Type 0
  AreLed done [] = Unit {0}
  AreLed done (e ∷ rest) = (remembers plan e.right ≡ true → leads plan e ≡ false → IsFollower done e) × AreLed (e ∷ done) rest

-- all that is known after the equations
abbrev pub grown : List ℕ → List CoreEq → List ℕ
grown known [] = known
grown known (e ∷ rest) = grown (e.var ∷ known) rest

-- What a core has to promise: its equations are in order and their operands' clocks agree (`planned`); what delays keep, and
-- all clocks, are of known variables (`whole`); an equation that another one leads comes after it and is like it (`led`).
pub record IsOrderedCore (plan : Plan) (inputs : List ℕ) (eqs : List CoreEq) : Type 0 where
  pub planned : ArePlanned plan inputs eqs
  pub whole : AllOf (λ e. IsClock plan (grown inputs eqs) [] e.clock × IsKept plan (grown inputs eqs) e.clock e.right) eqs
  pub led : AreLed plan [] eqs
  pub clocks : (v : ℕ) → Has inputs v → HasAll inputs (asked_vars (plan.clock v))

-- what a plan has to know of a core: its clocks, each leaf that they ask, and which equations share a flag
pub record IsPlanOf (core : Core) (agrees : IsCore core.eqs core.inputs core.outputs) (plan : Plan) : Type 0 where
  pub clock : (v : ℕ) → v < input_count core.inputs + length core.eqs → plan.clock v ≡ agrees.told.clock v
  pub asked : (v : ℕ) → v < input_count core.inputs + length core.eqs → (front rest : List (ℕ × Leaf)) (one : ℕ × Leaf) → agrees.told.clock v ≡ front ++ one ∷ rest → IsAsked plan one.0 one.1
  pub led : AreLed plan [] core.eqs

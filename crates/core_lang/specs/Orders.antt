-- Equations in order: each reads at once inputs and variables of earlier equations.
use Rattle.std.specs.Prelude.{◌≡◌, ℕ, zero, suc, ◌+◌, List, [], ◌∷◌, ◌⊎◌}
use Rattle.line_io.specs.declared.form.InputForm.{InputForm}
use Rattle.core_lang.specs.declared.equations.CoreEq.{CoreEq}
use Rattle.core_lang.specs.Reads.{reads}
use Rattle.core_lang.specs.Cores.{input_count}

abbrev pub Has : List ℕ → ℕ → Type 0
Has [] v = ⊥
Has (w ∷ ws) v = (w ≡ v) ⊎ Has ws v

abbrev pub HasAll : List ℕ → List ℕ → Type 0
HasAll known [] = Unit {0}
HasAll known (v ∷ vs) = Has known v × HasAll known vs

-- an equation of the list
abbrev pub IsOf : List CoreEq → CoreEq → Type 0
IsOf [] e = ⊥
IsOf (x ∷ rest) e = (x ≡ e) ⊎ IsOf rest e

abbrev pub AllOf : {X : Type 0} → (X → Type 0) → List X → Type 0
AllOf P [] = Unit {0}
AllOf P (x ∷ rest) = P x × AllOf P rest

-- each equation reads at once what is known, inputs and earlier equations, and is of a variable that was not known
abbrev pub IsOrdered : List ℕ → List CoreEq → Type 0
IsOrdered known [] = Unit {0}
IsOrdered known (e ∷ rest) = HasAll known (reads e) × (¬ Has known e.var) × IsOrdered (e.var ∷ known) rest

abbrev pub range : ℕ → ℕ → List ℕ
range from zero = []
range from (suc n) = from ∷ range (from + 1) n

abbrev pub input_vars : InputForm → List ℕ
input_vars form = range 0 (input_count form)

-- What an equation reads at once, and what a delay keeps for later.
use Rattle.std.specs.Prelude.{ℕ, List, [], ◌∷◌, ◌++◌, map}
use Rattle.ls_value.specs.declared.leaf.Leaf.{Leaf}
use Rattle.core_lang.specs.declared.equations.CoreEq.{CoreEq}
use Rattle.core_lang.specs.declared.equations.CoreRight.{CoreRight}
use Rattle.core_lang.specs.declared.equations.CoreRight.TheVariants.{Const, Copy, Op, Pre, Fby, Init, Sample, Choose}

abbrev pub asked_vars : List (ℕ × Leaf) → List ℕ
asked_vars clock = map (λ asked. asked.0) clock

abbrev pub operands : CoreRight → List ℕ
operands (Const leaf) = []
operands (Copy a) = a ∷ []
operands (Op op args) = args
operands (Pre a) = []
operands (Fby a b) = a ∷ []
operands (Init a b) = a ∷ b ∷ []
operands (Sample a) = a ∷ []
operands (Choose c branches) = c ∷ map (λ branch. branch.1) branches

abbrev pub reads : CoreEq → List ℕ
reads e = asked_vars e.clock ++ (e.restarts ++ operands e.right)

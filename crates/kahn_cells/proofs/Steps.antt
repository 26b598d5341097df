-- Definitions by clauses on numbers, one step on.
use Rattle.std.specs.Prelude.{◌≡◌, refl, ℕ, zero, suc, ◌<◌, List}
use Rattle.std.proofs.Common.{arith}
use Rattle.ls_ast.specs.declared.tree.DefOf.{DefOf}
use Rattle.ls_sig.specs.declared.binder.Note.{Note}
use Rattle.ls_places.specs.Definitions.{case_place, constructor_place}

pub case_place_other : (all : List (DefOf Note)) (x : ℕ) → 1 < x → case_place all x ≡ constructor_place all x
case_place_other all zero p = absurd (omega (arith, p))
case_place_other all (suc zero) p = absurd (omega (arith, p))
case_place_other all (suc (suc x)) p = refl

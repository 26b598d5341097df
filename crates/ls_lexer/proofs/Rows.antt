-- Rows of pieces.
use Rattle.std.proofs.Common.{ℕ, zero, suc, refl, sym, subst}
use Rattle.ls_lexer.specs.Lexing.{State, IsStep, Leads}

-- a row goes on by one more piece
pub Leads-more : (n : ℕ) (s m t : State) → Leads n s m → IsStep m t → Leads (suc n) s t
Leads-more zero s m t h step = let P : State → Type 0 = λ x. IsStep x t in (t, subst P (sym h) step, refl)
Leads-more (suc n) s m t (x, first, rest) step = (x, first, Leads-more n x m t rest step)

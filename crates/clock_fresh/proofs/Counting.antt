-- One more new variable.
use Rattle.std.specs.Prelude.{◌≡◌, refl, ℕ, suc, ◌+◌, ◌-◌, ◌<◌, List, [], ◌∷◌, ◌++◌}
use Rattle.std.proofs.Common.{ap, sym, ◌∙◌, arith}
use Rattle.ls_terms.specs.declared.clocks.ClockTerm.{ClockTerm}
use Rattle.clock_rules.specs.Fresh.{some_vars}
use Rattle.clock_rules.specs.Terms.{var}

grouped : {A : Type 0} (xs ys zs : List A) → (xs ++ ys) ++ zs ≡ xs ++ (ys ++ zs)
grouped [] ys zs = refl
grouped (x ∷ xs) ys zs = ap (λ z. x ∷ z) (grouped xs ys zs)

pub vars_turn : (count k n n' : ℕ) (ck : ClockTerm) (list list' whole : List ClockTerm) (end : ℕ) → k < count → ck ≡ var n → n' ≡ suc n → list' ≡ list ++ ck ∷ []
    → ((list ++ (some_vars (count - k) n).0 ≡ whole) × ((some_vars (count - k) n).1 ≡ end))
    → ((list' ++ (some_vars (count - (k + 1)) n').0 ≡ whole) × ((some_vars (count - (k + 1)) n').1 ≡ end))
vars_turn count k n n' ck list list' whole end below is next more so_far =
    let e : count - k ≡ suc (count - (k + 1)) = omega (arith, below) in (
      (λ i. more i ++ (some_vars (count - (k + 1)) (next i)).0)
          ∙ grouped list (ck ∷ []) (some_vars (count - (k + 1)) (suc n)).0
          ∙ (λ i. list ++ (is i ∷ (some_vars (count - (k + 1)) (suc n)).0))
          ∙ (λ i. list ++ (some_vars (sym e i) n).0)
          ∙ so_far.0,
      (λ i. (some_vars (count - (k + 1)) (next i)).1) ∙ (λ i. (some_vars (sym e i) n).1) ∙ so_far.1,
    )

-- Whether what stands for the first variables is data.
use Rattle.std.specs.Prelude.{◌≡◌, refl, ℕ, zero, suc, ◌<◌, ◌⊎◌, ◌&&◌, Bool, true, false, Option, Some, unwrap_or}
use Rattle.std.proofs.Common.{ap, sym, ◌∙◌, subst, arith, inl, inr}
use Rattle.std.proofs.lemmas.Bool.{cases_lt}
use Rattle.ls_terms.specs.declared.types.TypeTerm.{TypeTerm, roll-TypeTerm}
use Rattle.ls_terms.specs.declared.types.TypeTerm.TheOpen.{TypeTerm-F}
use Rattle.ls_terms.specs.declared.types.TypeTerm.TheVariants as t
use Rattle.ls_terms.specs.Types.{apply}
use Rattle.type_solve.specs.Solution.{are_data}
use Rattle.type_rules.proofs.Solving.{at_var}
use Rattle.type_rules.specs.Schemes.{is_data}

left_true : (a c : Bool) → (a && c) ≡ true → a ≡ true
left_true true c e = refl
left_true false c e = e

right_true : (a c : Bool) → (a && c) ≡ true → c ≡ true
right_true true c e = e
right_true false c e = absurd (cc)

-- each is data where all are
pub each_data : (n : ℕ) (s : ℕ → Option TypeTerm) → are_data n s ≡ true → (x : ℕ) → x < n → is_data (apply s (t.Var x)) ≡ true
each_data zero s e x l = absurd (omega (arith, l))
each_data (suc n) s e x l = elim (cases_lt x n) [
  | inl less ↦ each_data n s (left_true (are_data n s) _ e) x less
  | inr more ↦
      let same : n ≡ x = omega (arith, l, more) in
      subst (λ y. is_data (apply s (t.Var y)) ≡ true) same (right_true (are_data n s) (is_data (apply s (t.Var n))) e)
]

both : (a c : Bool) → a ≡ true → c ≡ true → (a && c) ≡ true
both a c p q = ap (λ z. z && c) p ∙ q

-- all are where each is
pub all_data : (n : ℕ) (s : ℕ → Option TypeTerm) → ((x : ℕ) → x < n → is_data (apply s (t.Var x)) ≡ true) → are_data n s ≡ true
all_data zero s e = refl
all_data (suc n) s e = both (are_data n s) (is_data (apply s (t.Var n))) (all_data n s (λ x l. e x (omega (arith, l)))) (e n (omega arith))

-- they are not where one is not
pub not_data : (n : ℕ) (s : ℕ → Option TypeTerm) (x : ℕ) → x < n → is_data (apply s (t.Var x)) ≡ false → are_data n s ≡ false
not_data n s x l e = go (are_data n s) refl
  where
    go : (c : Bool) → are_data n s ≡ c → are_data n s ≡ false
    go true d = let h = each_data n s d x l in absurd (cc)
    go false d = d

-- what a variable has that is listed
pub at_listed : (s : ℕ → Option TypeTerm) (x : ℕ) (u : TypeTerm) → s x ≡ Some u → apply s (t.Var x) ≡ u
at_listed s x u e = at_var s x ∙ ap (λ o. unwrap_or o (roll-TypeTerm (TypeTerm-F.Var x))) e

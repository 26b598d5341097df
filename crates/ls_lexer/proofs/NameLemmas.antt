-- Names stay distinct where one is added.
use Rattle.std.proofs.Common.{◌≡◌, ℕ, zero, suc, Bool, true, false, List, [], ◌∷◌, ◌++◌, length, slice_get, Some, ◌⊎◌, inl, inr, refl, sym, ap, subst, ◌∙◌, true≢false, arith}
use Rattle.std.specs.List.{list_any}
use Rattle.std.specs.Str.{bytes_eq}
use Rattle.std.proofs.lemmas.Bool.{cond-true, cond-false}
use Rattle.std.proofs.lemmas.Map.Views.{list_any-from_Contains}
use Rattle.std.proofs.lemmas.Cmp.{nat_list_eq_equiv}
use Rattle.ls_base.specs.Names.{Distinct, with_name}
use Rattle.ls_base.proofs.Spellings.{there}

-- what stands at a place of a list with one more item stands in the list, or is that item
place_cases : {X : Type 0} (xs : List X) (x y : X) (n : ℕ) → slice_get (xs ++ x ∷ []) n ≡ Some y → (slice_get xs n ≡ Some y) ⊎ ((n ≡ length xs) × (x ≡ y))
place_cases [] x y zero e = inr (refl, cc)
place_cases [] x y (suc n) e = absurd (cc)
place_cases (z ∷ xs) x y zero e = inl e
place_cases (z ∷ xs) x y (suc n) e =
    elim (place_cases xs x y n e) [
      | inl h ↦ inl h
      | inr h ↦ inr (let at : n ≡ length xs = h.0 in omega arith, h.1)
    ]

Distinct-more : (names : List (List ℕ)) (q : List ℕ) → Distinct names → ((n : ℕ) → slice_get names n ≡ Some q → ⊥) → Distinct (names ++ q ∷ [])
Distinct-more names q d new i j spelling a b =
    elim (place_cases names q spelling i a) as (λ w. i ≡ j) [
      | inl at_i ↦ elim (place_cases names q spelling j b) as (λ w. i ≡ j) [
        | inl at_j ↦ d i j spelling at_i at_j
        | inr at_j ↦ absurd (new i (at_i ∙ ap Some (sym at_j.1)))
      ]
      | inr at_i ↦ elim (place_cases names q spelling j b) as (λ w. i ≡ j) [
        | inl at_j ↦ absurd (new j (at_j ∙ ap Some (sym at_i.1)))
        | inr at_j ↦ at_i.0 ∙ sym at_j.0
      ]
    ]

pub Distinct-with_name : (names : List (List ℕ)) (q : List ℕ) → Distinct names → Distinct (with_name names q)
Distinct-with_name names q d = by (list_any (bytes_eq q) names) refl
  where
    by : (b : Bool) → list_any (bytes_eq q) names ≡ b → Distinct (with_name names q)
    by true e = subst Distinct (sym (cond-true _ _ _ e)) d
    by false e = subst Distinct (sym (cond-false _ _ _ e)) (Distinct-more names q d (λ n at.
        true≢false (sym (list_any-from_Contains nat_list_eq_equiv q names (there names n q at)) ∙ e)))

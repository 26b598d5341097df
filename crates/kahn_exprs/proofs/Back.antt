-- The previous instant, one instant back; arms, one by one; lists, built item by item.
use Rattle.std.specs.Prelude.{◌≡◌, ◌≢◌, refl, ℕ, zero, suc, ◌+◌, ◌-◌, ◌<◌, Bool, true, false, List, [], ◌∷◌, ◌++◌, Option, Some, None, length, map}
use Rattle.std.proofs.Common.{ap, sym, ◌∙◌, subst, arith, take, get_or}
use Rattle.std.proofs.lemmas.Grind.{common_steps}
use Rattle.kahn_model.specs.Rows.{Row, know, previous}

one_less : (i : ℕ) → suc i - 1 ≡ i
one_less i = omega arith

one_more : (i : ℕ) → suc i ≡ i + 1
one_more i = omega arith

abbrev look_back : ℕ → Option Bool → Option (Option ℕ) → Bool → Option (Option ℕ)
look_back i on earlier restart = elim restart [
  | true ↦ Some None
  | false ↦ know on (λ here. elim here [ true ↦ Some (Some i) | false ↦ earlier ])
]

before : (P A : Row Bool) (i : ℕ) → A (suc i) ≡ Some false → P i ≡ Some false → previous P A (suc i) ≡ previous P A i
before P A i a h = ap (λ z. know z (look_back i (P i) (previous P A i))) a ∙ ap (λ z. look_back i z (previous P A i) false) h

pub back : (P A : Row Bool) (i : ℕ) → i ≢ 0 → A i ≡ Some false → P (i - 1) ≡ Some false → previous P A (i - 1) ≡ previous P A i
back P A zero p a h = absurd (p refl)
back P A (suc i) p a h =
    subst (λ m. previous P A m ≡ previous P A (suc i)) (sym (one_less i)) (sym (before P A i a (subst (λ m. P m ≡ Some false) (one_less i) h)))

step_of : (P A : Row Bool) (i : ℕ) → previous P A (suc i) ≡ know (A (suc i)) (look_back i (P i) (previous P A i))
step_of P A i = refl

less : (i : ℕ) → suc i - 1 ≡ i
less i = omega arith

-- at an instant that is not known to restart, or does
pub unknown_restart : (P A : Row Bool) (j : ℕ) → j ≢ 0 → A j ≡ None → previous P A j ≡ None
unknown_restart P A zero p e = absurd (p refl)
unknown_restart P A (suc j) p e = ap (λ z. know z (look_back j (P j) (previous P A j))) e

pub at_restart : (P A : Row Bool) (j : ℕ) → j ≢ 0 → A j ≡ Some true → previous P A j ≡ Some None
at_restart P A zero p e = absurd (p refl)
at_restart P A (suc j) p e = ap (λ z. know z (look_back j (P j) (previous P A j))) e

-- at one that does not, by the instant before
pub unknown_before : (P A : Row Bool) (j : ℕ) → j ≢ 0 → A j ≡ Some false → P (j - 1) ≡ None → previous P A j ≡ None
unknown_before P A zero p e h = absurd (p refl)
unknown_before P A (suc j) p e h = ap (λ z. know z (look_back j (P j) (previous P A j))) e ∙ ap (λ z. look_back j z (previous P A j) false) (ap P (sym (less j)) ∙ h)

pub found_before : (P A : Row Bool) (j : ℕ) → j ≢ 0 → A j ≡ Some false → P (j - 1) ≡ Some true → previous P A j ≡ Some (Some (j - 1))
found_before P A zero p e h = absurd (p refl)
found_before P A (suc j) p e h = ap (λ z. know z (look_back j (P j) (previous P A j))) e ∙ ap (λ z. look_back j z (previous P A j) false) (ap P (sym (less j)) ∙ h)
    ∙ ap (λ z. Some (Some z)) (sym (less j))

-- the same, k instants back

left : (i k : ℕ) → k < i → i - k ≢ 0
left i k l e = absurd (omega (arith, l, e))

further : (i k : ℕ) → k < i → i - (k + 1) ≡ (i - k) - 1
further i k l = omega (arith, l)

pub unknown_at : (P A : Row Bool) (i k : ℕ) → k < i → A (i - k) ≡ None → previous P A (i - k) ≡ None
unknown_at P A i k l e = unknown_restart P A (i - k) (left i k l) e

pub restart_at : (P A : Row Bool) (i k : ℕ) → k < i → A (i - k) ≡ Some true → previous P A (i - k) ≡ Some None
restart_at P A i k l e = at_restart P A (i - k) (left i k l) e

pub unknown_before_at : (P A : Row Bool) (i k : ℕ) → k < i → A (i - k) ≡ Some false → P ((i - k) - 1) ≡ None → previous P A (i - k) ≡ None
unknown_before_at P A i k l e h = unknown_before P A (i - k) (left i k l) e h

pub found_at : (P A : Row Bool) (i k : ℕ) → k < i → A (i - k) ≡ Some false → P ((i - k) - 1) ≡ Some true → previous P A (i - k) ≡ Some (Some ((i - k) - 1))
found_at P A i k l e h = found_before P A (i - k) (left i k l) e h

pub back_at : (P A : Row Bool) (i k : ℕ) → k < i → A (i - k) ≡ Some false → P ((i - k) - 1) ≡ Some false → previous P A (i - (k + 1)) ≡ previous P A (i - k)
back_at P A i k l e h = ap (previous P A) (further i k l) ∙ back P A (i - k) (left i k l) e h

pub built : {X Y Z : Type 0} (f : X → Y) (g : Y → Z) (xs : List X) (i : ℕ) (x : X) (done new : List Z) (z : Z)
    → i < length xs → get_or xs i x ≡ x → done ≡ map g (map f (take i xs)) → z ≡ g (f x) → new ≡ done ++ z ∷ [] → new ≡ map g (map f (take (i + 1) xs))
built f g xs i x done new z below is so_far one more = grind (arith, common_steps)

-- Names that are joined one after the other.
use Rattle.std.specs.Prelude.{◌≡◌, ℕ, suc, zero, ◌+◌, List, [], ◌∷◌, slice_get, drop, refl}
use Rattle.std.proofs.Common.{◌∙◌, add-one}
use Rattle.scope_rules.specs.Places.{option_list}
use Rattle.scope_rules.specs.After.{joint}

step : (names xs : List (List ℕ)) (k : ℕ) → joint (joint names (option_list (slice_get xs k))) (drop (suc k) xs) ≡ joint names (drop k xs)
step names [] zero = refl
step names [] (suc k) = refl
step names (x ∷ xs) zero = refl
step names (x ∷ xs) (suc k) = step names xs k

pub joint_step : (names xs : List (List ℕ)) (k : ℕ) → joint (joint names (option_list (slice_get xs k))) (drop (k + 1) xs) ≡ joint names (drop k xs)
joint_step names xs k = (λ i. joint (joint names (option_list (slice_get xs k))) (drop (add-one k i) xs)) ∙ step names xs k

-- Arms, one by one.
use Rattle.std.specs.Prelude.{◌≡◌, ◌≢◌, refl, ℕ, zero, suc, ◌+◌, ◌-◌, ◌<◌, ◌||◌, Bool, false, List, [], ◌∷◌, length, if◌then◌else◌}
use Rattle.std.proofs.Common.{ap, sym, ◌∙◌, arith}
use Rattle.ls_places.specs.Places.{InnerArm}
use Rattle.ls_places.specs.Search.{count_up, is_empty, lacks_within, outer_block, paths_inside}
use Rattle.ls_places.specs.declared.definition.Definition.{Definition}
use Rattle.kahn_cells.specs.Paths.{any_arm_lacks, any_empty, count_arms}
use Rattle.kahn_cells.proofs.Clocking.{counted}

one_less : (i : ℕ) → suc i - 1 ≡ i
one_less i = omega arith

pub next_arm : (d : Definition) (depth m : ℕ) (paths inside : List (List InnerArm)) (count j : ℕ) (b whole : Bool) → j < count → b ≡ lacks_within d depth inside → b ≡ false
    → inside ≡ paths_inside (m, j) paths → any_arm_lacks d depth m paths (count_up (count - j) j) ≡ whole → any_arm_lacks d depth m paths (count_up (count - (j + 1)) (j + 1)) ≡ whole
next_arm d depth m paths inside count j b whole below is none e so_far =
    let rest = any_arm_lacks d depth m paths (count_up (count - (j + 1)) (j + 1)) in
    ap (λ z. z || rest) (sym none ∙ is ∙ ap (λ z. lacks_within d depth z) e) ∙ sym (ap (any_arm_lacks d depth m paths) (counted count j below)) ∙ so_far

not_empty : {A : Type 0} → (xs : List A) → length xs ≢ 0 → is_empty xs ≡ false
not_empty [] p = absurd (p refl)
not_empty (x ∷ xs) p = refl

pub lacks_here : (d : Definition) (depth m count : ℕ) (paths : List (List InnerArm)) (b : Bool) → depth ≢ 0 → b ≡ any_empty paths → b ≡ false → length paths ≢ 0
    → m ≡ outer_block paths → count ≡ count_arms d m
    → any_arm_lacks d (depth - 1) m paths (count_up count 0) ≡ lacks_within d depth paths
lacks_here d zero m count paths b p is none some block arms = absurd (p refl)
lacks_here d (suc depth) m count paths b p is none some block arms =
    ap (λ k. any_arm_lacks d k m paths (count_up count 0)) (one_less depth)
    ∙ ap (λ k. any_arm_lacks d depth m paths (count_up k 0)) arms
    ∙ ap (λ k. any_arm_lacks d depth k paths (count_up (count_arms d k) 0)) block
    ∙ sym (ap (λ z. if z then false else (is_empty paths || any_arm_lacks d depth (outer_block paths) paths (count_up (count_arms d (outer_block paths)) 0))) (sym is ∙ none)
    ∙ ap (λ z. z || any_arm_lacks d depth (outer_block paths) paths (count_up (count_arms d (outer_block paths)) 0)) (not_empty paths some))

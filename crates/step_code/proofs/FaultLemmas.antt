-- The first fault of a list, one line on.
use Rattle.std.proofs.Common.{◌≡◌, ℕ, zero, suc, ◌+◌, ◌-◌, ◌<◌, ◌≤◌, Bool, true, false, List, [], ◌∷◌, ◌++◌, length, take, drop, get_or, refl, sym, ◌∙◌, ap, subst, arith, Option, Some, None, length-drop}
use Rattle.std.proofs.lemmas.List.{drop_more, take_more, length-take-le}
use Rattle.step_code.specs.declared.parts.Fault.{Fault}
use Rattle.std.specs.Prelude.{◌&&◌, ◌==◌, is_some, if◌then◌else◌, ◌⊎◌}
use Rattle.std.proofs.Common.{eq-eqb, inl, inr}
use Rattle.std.proofs.lemmas.Bool.{cases_lt, ne_eqb}
use Rattle.ls_base.specs.declared.Name.{Name}
use Rattle.step_code.specs.declared.parts.CodeBody.{CodeBody}
use Rattle.step_code.specs.declared.parts.Place.{Place}
use Rattle.ls_value.specs.declared.leaf.Leaf.{Leaf}
use Rattle.step_code.specs.declared.parts.Instr.{Instr}
use Rattle.step_code.specs.declared.parts.Instr.TheVariants.{Const, Copy, Op1, Op2, Op3, Test, When, Call}
use Rattle.step_code.specs.Leaves.{leaf_eq}
use Rattle.step_code.specs.Marks.{AreShallow}
use Rattle.step_code.specs.Valid.{fault_after, or_else, at_place, Around, deeper, deepest, depth_in, same_clock, body_depth, body_fault, bodies_fault, depths_of}
use Rattle.step_code.proofs.RegionLemmas.{and-right}

module _ {X : Type 0} (judge : List X → ℕ → X → Option Fault) (xs : List X) (i : ℕ) (d : X) (here : i < length xs) where
  split : fault_after judge (take i xs) (drop i xs)
      ≡ or_else (at_place (length (take i xs)) (judge (take i xs) (length (drop (i + 1) xs)) (get_or xs i d))) (fault_after judge (take i xs ++ get_or xs i d ∷ []) (drop (i + 1) xs))
  split = ap (λ rest. fault_after judge (take i xs) rest) (drop_more xs i d here)

  -- a line without fault
  pub fault_on : (x : X) → get_or xs i d ≡ x → judge (take i xs) (length (drop (i + 1) xs)) x ≡ None
      → fault_after judge (take i xs) (drop i xs) ≡ fault_after judge (take (i + 1) xs) (drop (i + 1) xs)
  fault_on x is none = split
      ∙ (λ k. or_else (at_place (length (take i xs)) ((ap (λ y. judge (take i xs) (length (drop (i + 1) xs)) y) is ∙ none) k)) (fault_after judge (sym (take_more xs i d here) k) (drop (i + 1) xs)))

  -- the first line with a fault
  pub fault_here : (x : X) (f : Fault) → get_or xs i d ≡ x → judge (take i xs) (length (drop (i + 1) xs)) x ≡ Some f
      → fault_after judge (take i xs) (drop i xs) ≡ Some (i, f)
  fault_here x f is found = split
      ∙ (λ k. or_else (at_place (length-take-le i xs (let h : i ≤ length xs = omega arith in h) k) ((ap (λ y. judge (take i xs) (length (drop (i + 1) xs)) y) is ∙ found) k)) (fault_after judge (take i xs ++ get_or xs i d ∷ []) (drop (i + 1) xs)))

-- ---- depths

pub deeper_shallow : (told : Around) (most so_far : ℕ) (line : Instr) → AreShallow most told.depths → so_far ≤ most → deeper told so_far line ≤ most
deeper_shallow told most so_far (Call body window) shallow le = let h : depth_in told.depths body ≤ most = shallow body in omega (arith, h, le)
deeper_shallow told most so_far (Const d l) shallow le = le
deeper_shallow told most so_far (Copy d a) shallow le = le
deeper_shallow told most so_far (Op1 op d a) shallow le = le
deeper_shallow told most so_far (Op2 op d a b) shallow le = le
deeper_shallow told most so_far (Op3 op d a b e) shallow le = le
deeper_shallow told most so_far (Test d a l) shallow le = le
deeper_shallow told most so_far (When g size) shallow le = le

pub deepest_shallow : (told : Around) (most so_far : ℕ) (list : List Instr) → AreShallow most told.depths → so_far ≤ most → deepest told so_far list ≤ most
deepest_shallow told most so_far [] shallow le = le
deepest_shallow told most so_far (line ∷ rest) shallow le = deepest_shallow told most (deeper told so_far line) rest shallow (deeper_shallow told most so_far line shallow le)

pub shallow_result : (told : Around) (most n : ℕ) (list : List Instr) → n ≡ deepest told 0 list → AreShallow most told.depths → n ≤ most
shallow_result told most n list is shallow = subst (λ m. m ≤ most) (sym is) (deepest_shallow told most 0 list shallow (omega arith))

-- ---- clocks

same_length : (xs ys : List (ℕ × Leaf)) → same_clock xs ys ≡ true → length xs ≡ length ys
same_length [] [] e = refl
same_length [] (y ∷ ys) e = absurd (cc e)
same_length (x ∷ xs) [] e = absurd (cc e)
same_length (x ∷ xs) (y ∷ ys) e = ap suc (same_length xs ys (and-right ((x.0 == y.0) && leaf_eq x.1 y.1) (same_clock xs ys) e))

pub clocks_differ : (xs ys : List (ℕ × Leaf)) → (length xs ≡ length ys → ⊥) → same_clock xs ys ≡ false
clocks_differ xs ys differ = by_answer (same_clock xs ys) refl
  where
    by_answer : (b : Bool) → b ≡ same_clock xs ys → same_clock xs ys ≡ false
    by_answer true e = absurd (differ (same_length xs ys (sym e)))
    by_answer false e = sym e

-- ---- steps of the loops

pub none_of : {X : Type 0} (o : Option X) → ((x : X) → o ≡ Some x → ⊥) → o ≡ None
none_of None never = refl
none_of (Some x) never = absurd (never x refl)

pub take_next : {X : Type 0} (xs : List X) (i : ℕ) (d x : X) → i < length xs → get_or xs i d ≡ x → take i xs ++ x ∷ [] ≡ take (i + 1) xs
take_next xs i d x lt is = ap (λ y. take i xs ++ y ∷ []) (sym is) ∙ sym (take_more xs i d lt)

pub shallow_more : (xs : List ℕ) (d most more : ℕ) → AreShallow most xs → d ≤ more → most ≤ more → AreShallow more (xs ++ d ∷ [])
shallow_more [] d most more shallow le up zero = le
shallow_more [] d most more shallow le up (suc k) = omega arith
shallow_more (x ∷ xs) d most more shallow le up zero = let h : depth_in (x ∷ xs) zero ≤ most = shallow zero in omega (arith, h, up)
shallow_more (x ∷ xs) d most more shallow le up (suc k) = shallow_more xs d most more (λ j. shallow (suc j)) le up k

-- the last body is that after which nothing is left
pub last_is : {X : Type 0} (xs : List X) (i : ℕ) → i < length xs → (i + 1 == length xs) ≡ (length (drop (i + 1) xs) == 0)
last_is xs i lt = let e : length (drop (i + 1) xs) ≡ length xs - (i + 1) = length-drop (i + 1) xs in
    by_case (cases_lt (i + 1) (length xs)) ∙ ap (λ n. n == 0) (sym e)
  where
    by_case : (i + 1 < length xs) ⊎ (length xs ≤ i + 1) → (i + 1 == length xs) ≡ (length xs - (i + 1) == 0)
    by_case (inl less) = ne_eqb (i + 1) (length xs) (omega (arith, less)) ∙ sym (ne_eqb (length xs - (i + 1)) 0 (omega (arith, less)))
    by_case (inr le) = eq-eqb (i + 1) (length xs) (omega (arith, le, lt)) ∙ sym (eq-eqb (length xs - (i + 1)) 0 (omega (arith, le)))

module _ (cases : List (List Name)) (lacks own : ℕ) (bodies : List CodeBody) (depths depths' : List ℕ) (i d' : ℕ) (body d : CodeBody)
    (here : i < length bodies) (is : get_or bodies i d ≡ body) (more : depths' ≡ depths ++ body_depth cases (take i bodies) depths body ∷ []) where
  parts : drop i bodies ≡ body ∷ drop (i + 1) bodies
  parts = drop_more bodies i d here ∙ ap (λ b. b ∷ drop (i + 1) bodies) is

  pub bodies_on : own ≡ (if i + 1 == length bodies then lacks else 0) → body_fault cases (take i bodies) depths own body ≡ None
      → bodies_fault cases lacks (take i bodies) depths (drop i bodies) ≡ bodies_fault cases lacks (take (i + 1) bodies) depths' (drop (i + 1) bodies)
  bodies_on lacking none =
      ap (λ rest. bodies_fault cases lacks (take i bodies) depths rest) parts
      ∙ (λ k. or_else ((ap (λ n. body_fault cases (take i bodies) depths n body) (sym (lacking ∙ ap (λ t. if t then lacks else 0) (last_is bodies i here))) ∙ none) k)
      (bodies_fault cases lacks (take_next bodies i d body here is k) (sym more k) (drop (i + 1) bodies)))

  pub bodies_here : (f : Place × Fault) → own ≡ (if i + 1 == length bodies then lacks else 0) → body_fault cases (take i bodies) depths own body ≡ Some f
      → bodies_fault cases lacks (take i bodies) depths (drop i bodies) ≡ Some f
  bodies_here f lacking found =
      ap (λ rest. bodies_fault cases lacks (take i bodies) depths rest) parts
      ∙ (λ k. or_else ((ap (λ n. body_fault cases (take i bodies) depths n body) (sym (lacking ∙ ap (λ t. if t then lacks else 0) (last_is bodies i here))) ∙ found) k)
      (bodies_fault cases lacks (take i bodies ++ body ∷ []) (depths ++ body_depth cases (take i bodies) depths body ∷ []) (drop (i + 1) bodies)))

  pub depths_on : depths_of cases (take i bodies) depths (drop i bodies) ≡ depths_of cases (take (i + 1) bodies) depths' (drop (i + 1) bodies)
  depths_on =
      ap (λ rest. depths_of cases (take i bodies) depths rest) parts
      ∙ (λ k. depths_of cases (take_next bodies i d body here is k) (sym more k) (drop (i + 1) bodies))

pub not_some : {X : Type 0} (o : Option X) → is_some o ≡ false → o ≡ None
not_some None e = refl
not_some (Some x) e = absurd (cc e)

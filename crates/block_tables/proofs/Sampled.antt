-- The clocks of blocks, step by step.
use Rattle.std.specs.Prelude.{◌≡◌, refl, ℕ, zero, suc, ◌+◌, ◌-◌, ◌<◌, ◌==◌, List, [], ◌∷◌, ◌++◌, length, map, slice_get, Option, Some, None, if◌then◌else◌}
use Rattle.std.proofs.Common.{ap, sym, ◌∙◌, arith, drop, get_or}
use Rattle.ls_terms.specs.declared.clocks.ClockTerm.{ClockTerm, fold-roll-ClockTerm, out-roll-ClockTerm, out-ClockTerm}
use Rattle.ls_terms.specs.declared.clocks.ClockTerm.TheOpen.{ClockTerm-F}
use Rattle.ls_terms.specs.declared.clocks.ClockTerm.TheVariants as clock
use Rattle.ls_places.specs.Clocks as clocks
use Rattle.ls_places.specs.Clocks.{or_else}
use Rattle.block_tables.specs.Blocks.{below, noted, sampled}
use Rattle.block_tables.proofs.Maps.{if_then, or_else_assoc}

-- ---- clocks of blocks

depth_on : (inner : ClockTerm) (n k : ℕ) → clocks.clock_depth (clock.On inner n k) ≡ suc (clocks.clock_depth inner)
depth_on inner n k = ap clocks.clock_depth (sym (clock.rolls-On inner n k)) ∙ fold-roll-ClockTerm ℕ clocks.clock_depth_step (ClockTerm-F.On inner n k)

out_on : (inner : ClockTerm) (n k : ℕ) → out-ClockTerm (clock.On inner n k) ≡ ClockTerm-F.On inner n k
out_on inner n k = ap out-ClockTerm (sym (clock.rolls-On inner n k)) ∙ out-roll-ClockTerm (ClockTerm-F.On inner n k)

pub below_on : (inner : ClockTerm) (n k m : ℕ) → below (clock.On inner n k) m ≡ or_else (sampled n inner m) (below inner m)
below_on inner n k m =
    ap (λ d. clocks.below d m (clock.On inner n k)) (depth_on inner n k)
    ∙ ap (clocks.below_open m (clocks.below (clocks.clock_depth inner) m)) (out_on inner n k)
    ∙ if_then (n == m) inner (below inner m)

pub below_then : (ck inner : ClockTerm) (n k : ℕ) (old mid new : ℕ → Option ClockTerm) → ck ≡ clock.On inner n k → ((m : ℕ) → mid m ≡ or_else (old m) (sampled n inner m))
    → ((m : ℕ) → new m ≡ or_else (mid m) (below inner m)) → (m : ℕ) → new m ≡ or_else (old m) (below ck m)
below_then ck inner n k old mid new is first second m =
    second m ∙ ap (λ z. or_else z (below inner m)) (first m) ∙ or_else_assoc (old m) (sampled n inner m) (below inner m)
    ∙ ap (or_else (old m)) (sym (below_on inner n k m) ∙ sym (ap (λ z. below z m) is))

pub noted_append : (m : ℕ) (xs ys : List ClockTerm) → noted (xs ++ ys) m ≡ or_else (noted xs m) (noted ys m)
noted_append m [] ys = refl
noted_append m (x ∷ xs) ys = ap (or_else (below x m)) (noted_append m xs ys) ∙ sym (or_else_assoc (below x m) (noted xs m) (noted ys m))

-- ---- lists over numbers

one_less : (n x : ℕ) → x < n → n - x ≡ suc (n - (x + 1))
one_less n x l = omega (arith, l)

one_more : (x : ℕ) → suc x ≡ x + 1
one_more x = omega arith

pub bare_next : (n i : ℕ) (ck : ClockTerm) → i < n → clocks.bare (n - (i + 1)) (clocks.bare_step ck (out-ClockTerm ck)) ≡ clocks.bare (n - i) ck
bare_next n i ck l = sym (ap (λ z. clocks.bare z ck) (one_less n i l))

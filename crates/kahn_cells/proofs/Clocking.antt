-- The clocks of blocks, and the constructors of a file, step by step.
use Rattle.std.specs.Prelude.{◌≡◌, refl, ℕ, zero, suc, ◌+◌, ◌-◌, ◌<◌, ◌==◌, List, [], ◌∷◌, ◌++◌, length, map, slice_get, Option, Some, None, if◌then◌else◌}
use Rattle.std.proofs.Common.{ap, sym, ◌∙◌, arith, drop, get_or}
use Rattle.ls_ast.specs.declared.tree.DefOf.{DefOf}
use Rattle.ls_ast.specs.declared.tree.DefOf.TheVariants as item
use Rattle.ls_base.specs.declared.Name.{Name}
use Rattle.ls_sig.specs.declared.binder.Note.{Note}
use Rattle.ls_terms.specs.declared.clocks.ClockTerm.{ClockTerm, fold-roll-ClockTerm, out-roll-ClockTerm, out-ClockTerm}
use Rattle.ls_terms.specs.declared.clocks.ClockTerm.TheOpen.{ClockTerm-F}
use Rattle.ls_terms.specs.declared.clocks.ClockTerm.TheVariants as clock
use Rattle.ls_places.specs.Clocks as clocks
use Rattle.ls_places.specs.Clocks.{or_else}
use Rattle.ls_places.specs.Definitions.{constructor_place, place_in}
use Rattle.ls_places.specs.Search.{count_up}
use Rattle.kahn_cells.specs.Homes.{below, noted, sampled}
use Rattle.kahn_cells.proofs.Binds.{one_on}
use Rattle.kahn_cells.proofs.Maps.{if_then, or_else_assoc}

-- ---- clocks of blocks

depth_on : (inner : ClockTerm) (n k : ℕ) → clocks.clock_depth (clock.On inner n k) ≡ suc (clocks.clock_depth inner)
depth_on inner n k = ap clocks.clock_depth (sym (clock.rolls-On inner n k)) ∙ fold-roll-ClockTerm ℕ clocks.clock_depth_step (ClockTerm-F.On inner n k)

out_on : (inner : ClockTerm) (n k : ℕ) → out-ClockTerm (clock.On inner n k) ≡ ClockTerm-F.On inner n k
out_on inner n k = ap out-ClockTerm (sym (clock.rolls-On inner n k)) ∙ out-roll-ClockTerm (ClockTerm-F.On inner n k)

pub below_on : (inner : ClockTerm) (n k m : ℕ) → below (clock.On inner n k) m ≡ or_else (sampled n inner m) (below inner m)
below_on inner n k m =
    ap (λ d. clocks.below d m (clock.On inner n k)) (depth_on inner n k)
    ∙ ap (clocks.below_open m (clocks.below (clocks.clock_depth inner) m)) (out_on inner n k)
    ∙ if_then (n == m) inner (below inner m)

pub below_then : (ck inner : ClockTerm) (n k : ℕ) (old mid new : ℕ → Option ClockTerm) → ck ≡ clock.On inner n k → ((m : ℕ) → mid m ≡ or_else (old m) (sampled n inner m))
    → ((m : ℕ) → new m ≡ or_else (mid m) (below inner m)) → (m : ℕ) → new m ≡ or_else (old m) (below ck m)
below_then ck inner n k old mid new is first second m =
    second m ∙ ap (λ z. or_else z (below inner m)) (first m) ∙ or_else_assoc (old m) (sampled n inner m) (below inner m)
    ∙ ap (or_else (old m)) (sym (below_on inner n k m) ∙ sym (ap (λ z. below z m) is))

pub noted_append : (m : ℕ) (xs ys : List ClockTerm) → noted (xs ++ ys) m ≡ or_else (noted xs m) (noted ys m)
noted_append m [] ys = refl
noted_append m (x ∷ xs) ys = ap (or_else (below x m)) (noted_append m xs ys) ∙ sym (or_else_assoc (below x m) (noted xs m) (noted ys m))

-- ---- constructors

more_cases : (k : ℕ) → suc k ≡ k + 1
more_cases k = omega arith

pub cases_next : (all : List Name) (i k : ℕ) (name : Name) (old new whole : ℕ → Option ℕ) → i < length all → get_or all i name ≡ name
    → ((x : ℕ) → new x ≡ or_else (old x) (if name.0 == x then Some k else None)) → ((x : ℕ) → or_else (old x) (place_in x (drop i all) k) ≡ whole x)
    → (x : ℕ) → or_else (new x) (place_in x (drop (i + 1) all) (k + 1)) ≡ whole x
cases_next all i k name old new whole below is more so_far x =
    let rest = place_in x (drop (i + 1) all) (suc k) in
    sym (ap (λ z. or_else (new x) (place_in x (drop (i + 1) all) z)) (more_cases k))
    ∙ ap (λ z. or_else z rest) (more x) ∙ or_else_assoc (old x) (if name.0 == x then Some k else None) rest
    ∙ ap (or_else (old x)) (sym (if_then (name.0 == x) k rest) ∙ sym (ap (λ z. place_in x z k) (one_on all i name below is)))
    ∙ so_far x

pub item_one : (it : DefOf Note) (rest : List (DefOf Note)) (x : ℕ) → constructor_place (it ∷ rest) x ≡ or_else (constructor_place (it ∷ []) x) (constructor_place rest x)
item_one (item.Cases line name all) rest x = sym (or_else_assoc (place_in x all 0) None (constructor_place rest x))
item_one (item.Let line node name params marks notes body) rest x = refl

-- ---- lists over numbers

one_less : (n x : ℕ) → x < n → n - x ≡ suc (n - (x + 1))
one_less n x l = omega (arith, l)

one_more : (x : ℕ) → suc x ≡ x + 1
one_more x = omega arith

pub bare_next : (n i : ℕ) (ck : ClockTerm) → i < n → clocks.bare (n - (i + 1)) (clocks.bare_step ck (out-ClockTerm ck)) ≡ clocks.bare (n - i) ck
bare_next n i ck l = sym (ap (λ z. clocks.bare z ck) (one_less n i l))

pub counted : (n x : ℕ) → x < n → count_up (n - x) x ≡ x ∷ count_up (n - (x + 1)) (x + 1)
counted n x l = ap (λ z. count_up z x) (one_less n x l) ∙ ap (λ z. x ∷ count_up (n - (x + 1)) z) (one_more x)

none_more : (k : ℕ) → k + 0 ≡ k
none_more k = omega arith

next_more : (k j : ℕ) → suc k + j ≡ k + suc j
next_more k j = omega arith

pub listed_at : {A : Type 0} (f : ℕ → A) (n k j : ℕ) → j < n → slice_get (map f (count_up n k)) j ≡ Some (f (k + j))
listed_at f zero k j l = absurd (omega (arith, l))
listed_at f (suc n) k zero l = ap (λ z. Some (f z)) (sym (none_more k))
listed_at f (suc n) k (suc j) l = listed_at f n (suc k) j (omega (arith, l)) ∙ ap (λ z. Some (f z)) (next_more k j)

-- One step of what is pushed in a loop.
use Rattle.std.specs.Prelude.{◌≡◌, ◌≢◌, refl, ℕ, zero, suc, ◌+◌, ◌-◌, ◌<◌, ◌||◌, ◌==◌, Bool, true, false, List, [], ◌∷◌, ◌++◌, map, length, drop, Some}
use Rattle.std.proofs.Common.{ap, sym, ◌∙◌, arith, append_assoc, get_or}
use Rattle.ls_places.specs.Patterns.{joined}
use Rattle.ls_places.specs.Places.{Place}
use Rattle.ls_places.specs.Search.{count_up, nth}
use Rattle.ls_places.specs.declared.definition.Definition.{Definition}
use Rattle.ls_places.specs.declared.places.Frame.{Frame}
use Rattle.ls_places.specs.declared.places.Frame.TheVariants as frame
use Rattle.ls_places.specs.declared.places.Variable.{Variable}
use Rattle.place_tables.proofs.Lists.{counted, one_on}
use Rattle.init_rules.specs.Bits.{holds_reset, reset_within}
use Rattle.init_rules.specs.Nodes.{empty_rows}
use Rattle.init_check.specs.Rows as own
use Rattle.init_check.specs.Walks.{is_reset}

-- ---- resets in a place

reset_on : (n r : ℕ) (p : Place) → n ≢ 0 → reset_within n (frame.Reset r ∷ p) ≡ reset_within n p
reset_on zero r p f = absurd (f refl)
reset_on (suc n) r p f = refl

less : (n : ℕ) → n ≡ suc n - 1
less n = omega arith

reset_arm : (n m j : ℕ) (p : Place) → reset_within n (frame.Arm m j ∷ p) ≡ reset_within (n - 1) p
reset_arm zero m j p = ap (λ z. reset_within z p) (omega arith)
reset_arm (suc n) m j p = ap (λ z. reset_within z p) (less n)

-- at a reset inside the arms that are left
pub reset_next : (all : Place) (i n r : ℕ) (f : Frame) (whole : Bool) → i < length all → get_or all i f ≡ f → f ≡ frame.Reset r → n ≢ 0 → reset_within n (drop i all) ≡ whole
    → reset_within n (drop (i + 1) all) ≡ whole
reset_next all i n r f whole below at is some so_far =
    sym (reset_on n r (drop (i + 1) all) some) ∙ sym (ap (λ z. reset_within n (z ∷ drop (i + 1) all)) is) ∙ sym (ap (reset_within n) (one_on all i f below at)) ∙ so_far

pub reset_found : (all : Place) (i n r : ℕ) (f : Frame) (whole : Bool) → i < length all → get_or all i f ≡ f → f ≡ frame.Reset r → n ≡ 0 → reset_within n (drop i all) ≡ whole → true ≡ whole
reset_found all i n r f whole below at is none so_far =
    sym (ap (λ z. reset_within z (frame.Reset r ∷ drop (i + 1) all)) none) ∙ sym (ap (λ z. reset_within n (z ∷ drop (i + 1) all)) is)
    ∙ sym (ap (reset_within n) (one_on all i f below at)) ∙ so_far

pub arm_next : (all : Place) (i n m j : ℕ) (f : Frame) (whole : Bool) → i < length all → get_or all i f ≡ f → f ≡ frame.Arm m j → reset_within n (drop i all) ≡ whole
    → reset_within (n - 1) (drop (i + 1) all) ≡ whole
arm_next all i n m j f whole below at is so_far =
    sym (reset_arm n m j (drop (i + 1) all)) ∙ sym (ap (λ z. reset_within n (z ∷ drop (i + 1) all)) is) ∙ sym (ap (reset_within n) (one_on all i f below at)) ∙ so_far

-- a `reset` that stands at some place is around it
or_true : (a b : Bool) → b ≡ true → (a || b) ≡ true
or_true true b e = refl
or_true false b e = e

the_frame : (s f : Frame) → Some s ≡ Some f → s ≡ f
the_frame s f e = cc e

here : (r : ℕ) (s : Frame) (p : Place) → is_reset r s ≡ true → holds_reset r (s ∷ p) ≡ true
here r (frame.Reset q) p t = ap (λ z. z || holds_reset r p) t
here r (frame.Arm m j) p t = absurd (cc t)

below : (r : ℕ) (s : Frame) (p : Place) → holds_reset r p ≡ true → holds_reset r (s ∷ p) ≡ true
below r (frame.Reset q) p t = or_true (r == q) (holds_reset r p) t
below r (frame.Arm m j) p t = t

pub is_around : (r : ℕ) (p : Place) (at : ℕ) (f : Frame) → nth p at ≡ Some f → is_reset r f ≡ true → holds_reset r p ≡ true
is_around r [] at f e t = absurd (cc e)
is_around r (s ∷ p) zero f e t = here r s p (ap (is_reset r) (the_frame s f e) ∙ t)
is_around r (s ∷ p) (suc at) f e t = below r s p (is_around r p at f e t)

-- ---- lists by numbers

pub rows_next : (f : ℕ → List ℕ) (n k : ℕ) (old new whole : List (List ℕ)) → k < n → new ≡ old ++ f k ∷ [] → old ++ map f (count_up (n - k) k) ≡ whole
    → new ++ map f (count_up (n - (k + 1)) (k + 1)) ≡ whole
rows_next f n k old new whole below e so_far =
    let rest = map f (count_up (n - (k + 1)) (k + 1)) in
    ap (λ z. z ++ rest) e ∙ append_assoc old (f k ∷ []) rest ∙ ap (λ z. old ++ map f z) (sym (counted n k below)) ∙ so_far

pub nodes_next : (f : ℕ → List ℕ) (n k : ℕ) (old new whole : List ℕ) → k < n → new ≡ old ++ f k → old ++ joined (map f (count_up (n - k) k)) ≡ whole
    → new ++ joined (map f (count_up (n - (k + 1)) (k + 1))) ≡ whole
nodes_next f n k old new whole below e so_far =
    let rest = joined (map f (count_up (n - (k + 1)) (k + 1))) in
    ap (λ z. z ++ rest) e ∙ append_assoc old (f k) rest ∙ ap (λ z. old ++ joined (map f z)) (sym (counted n k below)) ∙ so_far

nth_at : {A : Type 0} (all : List A) (k : ℕ) (x : A) → k < length all → get_or all k x ≡ x → nth all k ≡ Some x
nth_at [] k x l e = absurd (omega (arith, l))
nth_at (y ∷ ys) zero x l e = ap Some e
nth_at (y ∷ ys) (suc k) x l e = nth_at ys k x (omega (arith, l)) e

pub variable_at : (d : Definition) (k : ℕ) (w : Variable) → k < length d.places.vars → get_or d.places.vars k w ≡ w → own.missing_nodes d k w ≡ own.variable_zero_nodes d k
variable_at d k w below at = sym (ap (own.variable_zero_of d k) (nth_at d.places.vars k w below at))

pub mapped_next : {A : Type 0} (f : A → List ℕ) (all : List A) (i : ℕ) (x : A) (old new whole : List (List ℕ)) → i < length all → get_or all i x ≡ x → new ≡ old ++ f x ∷ []
    → old ++ map f (drop i all) ≡ whole → new ++ map f (drop (i + 1) all) ≡ whole
mapped_next f all i x old new whole l at e so_far =
    let rest = map f (drop (i + 1) all) in
    ap (λ z. z ++ rest) e ∙ append_assoc old (f x ∷ []) rest ∙ sym (ap (λ z. old ++ map f z) (one_on all i x l at)) ∙ so_far

one_less : (n k : ℕ) → k < n → n - k ≡ suc (n - (k + 1))
one_less n k l = omega (arith, l)

pub empty_next : (n k : ℕ) (old new whole : List (List ℕ)) → k < n → new ≡ old ++ [] ∷ [] → old ++ empty_rows (n - k) ≡ whole → new ++ empty_rows (n - (k + 1)) ≡ whole
empty_next n k old new whole l e so_far =
    ap (λ z. z ++ empty_rows (n - (k + 1))) e ∙ append_assoc old ([] ∷ []) (empty_rows (n - (k + 1))) ∙ sym (ap (λ z. old ++ empty_rows z) (one_less n k l)) ∙ so_far

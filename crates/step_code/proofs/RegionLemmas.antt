-- The regions that are open, one line on.
use Rattle.std.proofs.Common.{◌≡◌, ℕ, suc, ◌+◌, ◌-◌, ◌<◌, ◌≤◌, ◌⊎◌, inl, inr, Bool, true, false, List, [], ◌∷◌, ◌++◌, length, take, get_or, refl, sym, ◌∙◌, ap, subst, arith, add-zero, IsTrue, length-append}
use Rattle.std.specs.Prelude.{◌&&◌, ◌||◌, nat_lt, nat_le, slice_index}
use Rattle.std.specs.Prelude.{Result, Ok, Err, OnOk}
use Rattle.std.proofs.lemmas.Bool.{cases_lt, ltb-true, lt-ltb, leb-true, le-leb}
use Rattle.std.proofs.lemmas.List.{length-take-le, get_or-take, get_or_append_left}
use Rattle.std.proofs.Math.Seq.{get_or-append_seam}
use Rattle.step_code.specs.declared.parts.Instr.{Instr}
use Rattle.step_code.specs.declared.parts.Instr.TheVariants.{Const, Copy, Op1, Op2, Op3, Test, When, Call}
use Rattle.step_code.specs.Marks.{AreRegions, AllReach}
use Rattle.step_code.specs.Valid.{region_kept, ends_inside}

and_true : (t : Bool) → (t && true) ≡ t
and_true true = refl
and_true false = refl

and_assoc : (a b c : Bool) → (a && (b && c)) ≡ ((a && b) && c)
and_assoc true b c = refl
and_assoc false b c = refl

pub ends-more : (here size from : ℕ) (earlier : List Instr) (line : Instr)
    → ends_inside here size from (earlier ++ line ∷ []) ≡ (ends_inside here size from earlier && region_kept here size (from + length earlier) line)
ends-more here size from [] line = and_true (region_kept here size from line) ∙ ap (λ n. region_kept here size n line) (sym (add-zero from))
ends-more here size from (x ∷ earlier) line =
    ap (λ t. region_kept here size from x && t) (ends-more here size (from + 1) earlier line ∙ ap (λ n. ends_inside here size (from + 1) earlier && region_kept here size n line) (let e : from + 1 + length earlier ≡ from + suc (length earlier) = omega arith in e))
    ∙ and_assoc (region_kept here size from x) (ends_inside here size (from + 1) earlier) (region_kept here size (from + suc (length earlier)) line)

pub and-left : (a b : Bool) → (a && b) ≡ true → a ≡ true
and-left true b e = refl
and-left false b e = e

pub and-right : (a b : Bool) → (a && b) ≡ true → b ≡ true
and-right true b e = e
and-right false b e = absurd (cc e)

and-both : (a b : Bool) → a ≡ true → b ≡ true → (a && b) ≡ true
and-both a b x y = (λ i. x i && y i)

or-cases : (a b : Bool) → (a || b) ≡ true → (a ≡ true) ⊎ (b ≡ true)
or-cases true b e = inl refl
or-cases false b e = inr e

or-left : (a b : Bool) → a ≡ true → (a || b) ≡ true
or-left a b e = ap (λ t. t || b) e

or-right : (a b : Bool) → b ≡ true → (a || b) ≡ true
or-right true b e = refl
or-right false b e = e

-- a region that ends at a place keeps one that begins within it
Keeps : ℕ → ℕ → ℕ → Type 0
Keeps here size end = (end < here) ⊎ (here + size ≤ end)

kept-true : (here size end : ℕ) → Keeps here size end → (nat_lt end here || nat_le (here + size) end) ≡ true
unfolding Keeps
kept-true here size end (inl lt) = or-left (nat_lt end here) (nat_le (here + size) end) (lt-ltb end here lt)
kept-true here size end (inr le) = or-right (nat_lt end here) (nat_le (here + size) end) (le-leb (here + size) end le)

true-kept : (here size end : ℕ) → (nat_lt end here || nat_le (here + size) end) ≡ true → Keeps here size end
unfolding Keeps
true-kept here size end t = by_cases (or-cases (nat_lt end here) (nat_le (here + size) end) t)
  where
    by_cases : (nat_lt end here ≡ true) ⊎ (nat_le (here + size) end ≡ true) → (end < here) ⊎ (here + size ≤ end)
    by_cases (inl e) = inl (ltb-true end here e)
    by_cases (inr e) = inr (leb-true (here + size) end e)

module _ (earlier : List Instr) (ends : List ℕ) (are : AreRegions earlier ends) where
  -- the innermost region ends before the place
  module _ (some : 0 < length ends) (low : get_or ends (length ends - 1) 0 < length earlier) where
    fewer : length (take (length ends - 1) ends) ≡ length ends - 1
    fewer = length-take-le (length ends - 1) ends (omega arith)

    still : (i : ℕ) → i < length ends - 1 → get_or (take (length ends - 1) ends) i 0 ≡ get_or ends i 0
    still i lt = get_or-take (length ends - 1) ends i 0 lt

    all_kept : (here size : ℕ) → length earlier ≤ here → ((i : ℕ) → i < length (take (length ends - 1) ends) → Keeps here size (slice_index (take (length ends - 1) ends) i))
        → (i : ℕ) → i < length ends → (dec : (i < length ends - 1) ⊎ (i ≡ length ends - 1)) → Keeps here size (slice_index ends i)
    unfolding Keeps
    all_kept here size past all i lt (inl below) = subst (λ e. (e < here) ⊎ (here + size ≤ e)) (still i below) (all i (omega (arith, fewer, below)))
    all_kept here size past all i lt (inr last) = inl (let h : get_or ends i 0 < length earlier = subst (λ n. get_or ends n 0 < length earlier) (sym last) low in omega (arith, h, past))

    pub regions_pop : AreRegions earlier (take (length ends - 1) ends)
    unfolding Keeps
    regions_pop = record {
      inside = λ here size past. (
        (λ t i lt. let below : i < length ends - 1 = omega (arith, fewer, lt) in
            subst (λ e. (e < here) ⊎ (here + size ≤ e)) (sym (still i below)) ((are.inside here size past).0 t i (omega (arith, below)))),
        (λ all. (are.inside here size past).1 (λ i lt. all_kept here size past all i lt (below_or i lt))),
      );
      nested = λ i j le lt. let below : j < length ends - 1 = omega (arith, fewer, lt) in
          subst (λ e. e ≤ slice_index (take (length ends - 1) ends) i) (sym (still j below))
          (subst (λ e. get_or ends j 0 ≤ e) (sym (still i (omega (arith, le, below)))) (are.nested i j le (omega (arith, below))));
    }
      where
        below_or : (i : ℕ) → i < length ends → (i < length ends - 1) ⊎ (i ≡ length ends - 1)
        below_or i lt = by_test (cases_lt i (length ends - 1))
          where
            by_test : (i < length ends - 1) ⊎ (length ends - 1 ≤ i) → (i < length ends - 1) ⊎ (i ≡ length ends - 1)
            by_test (inl h) = inl h
            by_test (inr h) = inr (omega (arith, h, lt))

  pub regions_reach : 0 < length ends → length earlier ≤ get_or ends (length ends - 1) 0 → AllReach (length earlier) ends
  regions_reach some high i lt = let h : slice_index ends (length ends - 1) ≤ slice_index ends i = are.nested i (length ends - 1) (omega (arith, lt)) (omega (arith, some)) in omega (arith, h, high)

  -- a line that opens no region
  pub regions_on : (line : Instr) → ((here size at : ℕ) → region_kept here size at line ≡ true) → AreRegions (earlier ++ line ∷ []) ends
  regions_on line opens = record {
    inside = λ here size past. let long : length earlier ≤ here = omega (arith, length-append earlier (line ∷ []), past) in (
      (λ t. (are.inside here size long).0 (and-left (ends_inside here size 0 earlier) (region_kept here size (0 + length earlier) line) (sym (ends-more here size 0 earlier line) ∙ t))),
      (λ all. ends-more here size 0 earlier line ∙ and-both (ends_inside here size 0 earlier) (region_kept here size (0 + length earlier) line) ((are.inside here size long).1 all) (opens here size (0 + length earlier))),
    );
    nested = are.nested;
  }

  module _ (g other : ℕ) (reach : AllReach (length earlier) ends) (fits : IsTrue (ends_inside (length earlier) other 0 earlier)) where
    last : ℕ
    last = length earlier + other

    longer : length (ends ++ (length earlier + other) ∷ []) ≡ length ends + 1
    longer = length-append ends ((length earlier + other) ∷ [])

    old : (i : ℕ) → i < length ends → get_or (ends ++ (length earlier + other) ∷ []) i 0 ≡ get_or ends i 0
    old i lt = get_or_append_left ends ((length earlier + other) ∷ []) 0 i lt

    new : get_or (ends ++ (length earlier + other) ∷ []) (length ends) 0 ≡ length earlier + other
    new = get_or-append_seam ends (length earlier + other) [] 0

    -- the region ends within each that is open
    within : (i : ℕ) → i < length ends → length earlier + other ≤ slice_index ends i
    within i lt = by_case ((are.inside (length earlier) other (omega arith)).0 fits i lt)
      where
        by_case : (slice_index ends i < length earlier) ⊎ (length earlier + other ≤ slice_index ends i) → length earlier + other ≤ slice_index ends i
        by_case (inl low) = let h = reach i lt in absurd (omega (arith, h, low))
        by_case (inr le) = le

    split_at : (i : ℕ) → i < length (ends ++ (length earlier + other) ∷ []) → (i < length ends) ⊎ (i ≡ length ends)
    split_at i lt = by_test (cases_lt i (length ends))
      where
        by_test : (i < length ends) ⊎ (length ends ≤ i) → (i < length ends) ⊎ (i ≡ length ends)
        by_test (inl h) = inl h
        by_test (inr h) = inr (omega (arith, h, lt, longer))

    kept : (here size : ℕ) → Bool
    kept here size = region_kept here size (0 + length earlier) (When g other)

    at_end : (here size : ℕ) → kept here size ≡ true → Keeps here size (length earlier + other)
    unfolding kept
    at_end here size t = let e : 0 + length earlier + other ≡ length earlier + other = omega arith in
        subst (λ n. Keeps here size n) e (true-kept here size (0 + length earlier + other) t)

    from_end : (here size : ℕ) → Keeps here size (length earlier + other) → kept here size ≡ true
    unfolding kept
    from_end here size k = let e : length earlier + other ≡ 0 + length earlier + other = omega arith in
        kept-true here size (0 + length earlier + other) (subst (λ n. Keeps here size n) e k)

    pub regions_open : AreRegions (earlier ++ When g other ∷ []) (ends ++ (length earlier + other) ∷ [])
    unfolding Keeps kept
    regions_open = record {
      inside = λ here size past. let long : length earlier ≤ here = omega (arith, length-append earlier (When g other ∷ []), past) in (
        (λ t. let both = sym (ends-more here size 0 earlier (When g other)) ∙ t in
            λ i lt. each_of here size ((are.inside here size long).0 (and-left (ends_inside here size 0 earlier) (kept here size) both))
            (at_end here size (and-right (ends_inside here size 0 earlier) (kept here size) both)) i (split_at i lt)),
        (λ all. ends-more here size 0 earlier (When g other)
            ∙ and-both (ends_inside here size 0 earlier) (kept here size)
            ((are.inside here size long).1 (λ i lt. subst (λ e. (e < here) ⊎ (here + size ≤ e)) (old i lt) (all i (omega (arith, lt, longer)))))
            (from_end here size (subst (λ e. (e < here) ⊎ (here + size ≤ e)) new (all (length ends) (omega (arith, longer)))))),
      );
      nested = λ i j le lt. nest i j le (split_at j lt) (split_at i (omega (arith, le, lt)));
    }
      where
        each_of : (here size : ℕ) → ((i : ℕ) → i < length ends → (slice_index ends i < here) ⊎ (here + size ≤ slice_index ends i)) → (length earlier + other < here) ⊎ (here + size ≤ length earlier + other)
            → (i : ℕ) → (i < length ends) ⊎ (i ≡ length ends) → (slice_index (ends ++ (length earlier + other) ∷ []) i < here) ⊎ (here + size ≤ slice_index (ends ++ (length earlier + other) ∷ []) i)
        each_of here size all own i (inl lt) = subst (λ e. (e < here) ⊎ (here + size ≤ e)) (sym (old i lt)) (all i lt)
        each_of here size all own i (inr is) = subst (λ e. (e < here) ⊎ (here + size ≤ e)) (sym (ap (λ n. slice_index (ends ++ (length earlier + other) ∷ []) n) is ∙ new)) own

        nest : (i j : ℕ) → i ≤ j → (j < length ends) ⊎ (j ≡ length ends) → (i < length ends) ⊎ (i ≡ length ends) → slice_index (ends ++ (length earlier + other) ∷ []) j ≤ slice_index (ends ++ (length earlier + other) ∷ []) i
        nest i j le (inl lt) at_i =
            let lo : i < length ends = omega (arith, le, lt) in
            subst (λ e. e ≤ slice_index (ends ++ (length earlier + other) ∷ []) i) (sym (old j lt)) (subst (λ e. slice_index ends j ≤ e) (sym (old i lo)) (are.nested i j le lt))
        nest i j le (inr is) (inl lt) =
            subst (λ e. e ≤ slice_index (ends ++ (length earlier + other) ∷ []) i) (sym (ap (λ n. slice_index (ends ++ (length earlier + other) ∷ []) n) is ∙ new))
            (subst (λ e. length earlier + other ≤ e) (sym (old i lt)) (within i lt))
        nest i j le (inr is) (inr at) =
            let e : slice_index (ends ++ (length earlier + other) ∷ []) j ≡ slice_index (ends ++ (length earlier + other) ∷ []) i = ap (λ n. slice_index (ends ++ (length earlier + other) ∷ []) n) (is ∙ sym at) in omega (arith, e)

-- a fact of an Ok that follows from another
pub on_ok : {T E : Type 0} {A B : Type 0} (r : Result T E) → OnOk r A → (A → B) → OnOk r B
on_ok (Ok x) a f = f a
on_ok (Err e) a f = tt

pub from_ok : {T E : Type 0} {A : Type 0} (r : Result T E) (x : T) → r ≡ Ok x → OnOk r A → A
from_ok {T} {E} {A} r x is h = let P = λ (q : Result T E). OnOk q A in subst P is h

-- a line that is no region's first
pub no_region : (line : Instr) → ((g size : ℕ) → line ≡ When g size → ⊥) → (here size at : ℕ) → region_kept here size at line ≡ true
no_region (Const d l) never here size at = refl
no_region (Copy d a) never here size at = refl
no_region (Op1 op d a) never here size at = refl
no_region (Op2 op d a b) never here size at = refl
no_region (Op3 op d a b c) never here size at = refl
no_region (Test d a l) never here size at = refl
no_region (When g lines) never here size at = absurd (never g lines refl)
no_region (Call body window) never here size at = refl

-- How marks and uses change along a list.
use Rattle.std.proofs.Common.{◌≡◌, ℕ, zero, suc, ◌+◌, ◌-◌, ◌<◌, ◌≤◌, Bool, true, false, List, [], ◌∷◌, ◌++◌, length, refl, sym, ◌∙◌, ap, arith, Some, None, cond, zero-add, add-zero}
use Rattle.std.specs.Prelude.{◌||◌, ◌==◌, slice_index_or, if◌then◌else◌, replicate}
use Rattle.std.specs.List.{list_any, position_from}
use Rattle.std.proofs.lemmas.List.Folds.{list_any-append}
use Rattle.step_code.specs.declared.marks.Mark.{Mark}
use Rattle.step_code.specs.declared.inputs.Use.{Use}
use Rattle.step_code.specs.declared.parts.Instr.{Instr}
use Rattle.step_code.specs.declared.parts.InLine.{InLine}
use Rattle.step_code.specs.Marks.{AreMarks, AreUses, use_of, set_if, called_if, no_mark, no_use, field_if, signal_if, ChangesEach, ChangesUses}
use Rattle.step_code.specs.Valid.{Around, is_set, writes, covers, is_field, is_signal, first_signal, any_from, or_else}

pub or-false : (t : Bool) → (t || false) ≡ t
or-false true = refl
or-false false = refl

pub or-assoc : (a b c : Bool) → ((a || b) || c) ≡ (a || (b || c))
or-assoc true b c = refl
or-assoc false b c = refl

pub list_any-more : {X : Type 0} (p : X → Bool) (xs : List X) (x : X) → list_any p (xs ++ x ∷ []) ≡ (list_any p xs || p x)
list_any-more p xs x = list_any-append p xs (x ∷ []) ∙ ap (λ t. list_any p xs || t) (or-false (p x))

-- ---- marks that lines of input set

pub set-none : (m : Mark) → set_if m false ≡ m
set-none m = λ i. record { is_set = or-false m.is_set i; written = m.written; covered = m.covered }

pub set-more : (m : Mark) (a b : Bool) → set_if (set_if m a) b ≡ set_if m (a || b)
set-more m a b = λ i. record { is_set = or-assoc m.is_set a b i; written = m.written; covered = m.covered }

pub called-none : (m : Mark) → called_if m false false ≡ m
called-none m = λ i. record { is_set = m.is_set; written = or-false m.written i; covered = or-false m.covered i }

pub called-more : (m : Mark) (a b c e : Bool) → called_if (called_if m a b) c e ≡ called_if m (a || c) (b || e)
called-more m a b c e = λ i. record { is_set = m.is_set; written = or-assoc m.written a c i; covered = or-assoc m.covered b e i }

-- ---- numbers from one on

pub any_from-more : (test : ℕ → Bool) (k e : ℕ) → k < e → any_from test k (e - k) ≡ (test k || any_from test (k + 1) (e - (k + 1)))
any_from-more test k e lt = let is : e - k ≡ suc (e - (k + 1)) = omega arith in ap (λ n. any_from test k n) is

pub any_from-end : (test : ℕ → Bool) (k e : ℕ) → e ≤ k → any_from test k (e - k) ≡ false
any_from-end test k e le = let is : e - k ≡ 0 = omega arith in ap (λ n. any_from test k n) is

pub any_from-all : (test : ℕ → Bool) (k n : ℕ) → any_from test k n ≡ any_from test k (k + n - k)
any_from-all test k n = let is : n ≡ k + n - k = omega arith in ap (λ m. any_from test k m) is

-- ---- one line more

pub marks_more : (told : Around) (earlier : List Instr) (line : Instr) (old new : List Mark) → AreMarks told earlier old
    → ChangesEach (λ m k. called_if m (writes told k line) (covers told k line)) old new → AreMarks told (earlier ++ line ∷ []) new
marks_more told earlier line old new are changes = record {
  all = changes.0 ∙ are.all;
  each = λ k d here. let was : k < length old = omega (arith, changes.0, here) in
      changes.1 k d was ∙ ap (λ m. called_if m (writes told k line) (covers told k line)) (are.each k d was)
      ∙ (λ i. record { is_set = is_set told k; written = sym (list_any-more (writes told k) earlier line) i; covered = sym (list_any-more (covers told k) earlier line) i });
}

pub marks_first : (told : Around) (new : List Mark)
    → ChangesEach (λ m k. set_if m (is_set told k)) (replicate (length told.slots) no_mark) new → AreMarks told [] new
marks_first told new changes = record {
  all = changes.0 ∙ length-blank (length told.slots);
  each = λ k d here. let was : k < length (replicate (length told.slots) no_mark) = omega (arith, changes.0, here) in
      changes.1 k d was ∙ ap (λ m. set_if m (is_set told k)) (get-blank (length told.slots) k d (let h : k < length told.slots = omega (arith, changes.0, here, length-blank (length told.slots)) in h));
}
  where
    length-blank : (n : ℕ) → length (replicate n no_mark) ≡ n
    length-blank zero = refl
    length-blank (suc n) = ap suc (length-blank n)

    get-blank : (n k : ℕ) (d : Mark) → k < n → slice_index_or (replicate n no_mark) k d ≡ no_mark
    get-blank zero k d lt = absurd (omega (arith, lt))
    get-blank (suc n) zero d lt = refl
    get-blank (suc n) (suc k) d lt = get-blank n k d (omega (arith, lt))

-- ---- uses by lines of input

pub position-more : {X : Type 0} (t : X → Bool) (n : ℕ) (xs : List X) (x : X)
    → position_from t n (xs ++ x ∷ []) ≡ or_else (position_from t n xs) (if t x then Some (n + length xs) else None)
position-more t n [] x = ap (λ m. cond (t x) (Some m) None) (sym (add-zero n))
position-more t n (y ∷ xs) x = by_test (t y) (position-more t (n + 1) xs x ∙ ap (λ m. or_else (position_from t (n + 1) xs) (cond (t x) (Some m) None)) (let e : n + 1 + length xs ≡ n + suc (length xs) = omega arith in e))
  where
    by_test : (b : Bool) → position_from t (n + 1) (xs ++ x ∷ []) ≡ or_else (position_from t (n + 1) xs) (cond (t x) (Some (n + suc (length xs))) None)
        → cond b (Some n) (position_from t (n + 1) (xs ++ x ∷ [])) ≡ or_else (cond b (Some n) (position_from t (n + 1) xs)) (cond (t x) (Some (n + suc (length xs))) None)
    by_test true e = refl
    by_test false e = e

pub uses_more : (earlier : List InLine) (line : InLine) (old mid new : List Use) (number : ℕ) → number ≡ length earlier → AreUses earlier (length old) old
    → ChangesUses (λ u k. field_if u (line.slot == k)) old mid → ChangesUses (λ u k. signal_if u (is_signal k line) number) mid new
    → AreUses (earlier ++ line ∷ []) (length old) new
uses_more earlier line old mid new number is are first second = (
  second.0 ∙ first.0,
  λ k d here. let h1 : k < length mid = omega (arith, second.0, here) in let h0 : k < length old = omega (arith, first.0, h1) in
      second.1 k d h1 ∙ ap (λ u. signal_if u (is_signal k line) number) (first.1 k d h0 ∙ ap (λ u. field_if u (line.slot == k)) (are.1 k d h0))
      ∙ (λ i. record {
        field = sym (list_any-more (is_field k) earlier line) i;
        signal = (ap (λ m. or_else (first_signal k earlier) (cond (is_signal k line) (Some m) None)) (is ∙ sym (zero-add (length earlier))) ∙ sym (position-more (is_signal k) 0 earlier line)) i;
      }),
)

pub uses_first : (n : ℕ) → AreUses [] n (replicate n no_use)
uses_first n = (length-blank n, λ k d here. get-blank n k d (omega (arith, length-blank n, here)))
  where
    length-blank : (m : ℕ) → length (replicate m no_use) ≡ m
    length-blank zero = refl
    length-blank (suc m) = ap suc (length-blank m)

    get-blank : (m k : ℕ) (d : Use) → k < m → slice_index_or (replicate m no_use) k d ≡ use_of [] k
    get-blank zero k d lt = absurd (omega (arith, lt))
    get-blank (suc m) zero d lt = refl
    get-blank (suc m) (suc k) d lt = get-blank m k d (omega (arith, lt))

-- Places in lists, and what holds of one more item.
use Rattle.std.specs.Prelude.{◌≡◌, ℕ, suc, zero, ◌+◌, ◌==◌, ◌<◌, ◌≤◌, ◌||◌, ◌&&◌, not, Bool, true, false, List, [], ◌∷◌, ◌++◌, map, length, Option, Some, None, is_some, Result, Ok, Err, IsOk, OnOk, is_err, nat_le, if◌then◌else◌, refl, slice_get, ◌⊎◌}
use Rattle.std.proofs.Common.{ap, ap₂, sym, ◌∙◌, arith, inl, inr}
use Rattle.std.specs.List.{list_any, list_all}
use Rattle.std.proofs.lemmas.Bool.{eqb-true, eq-eqb}
use Rattle.scope_rules.specs.Faults.{place_from, place_where, place_of, or_later, any_two, among}
use Rattle.ls_scope.specs.Keys.{earlier}

pub later_none : {A : Type 0} (o : Option A) → or_later o None ≡ o
later_none (Some x) = refl
later_none None = refl

pub later_assoc : {A : Type 0} (a b c : Option A) → or_later (or_later a b) c ≡ or_later a (or_later b c)
later_assoc (Some x) b c = refl
later_assoc None b c = refl

-- the place in a list that has one more item
more_step : (b : Bool) (i : ℕ) (a c d : Option ℕ) → a ≡ or_later c d → (if b then Some i else a) ≡ or_later (if b then Some i else c) d
more_step true i a c d e = refl
more_step false i a c d e = e

last_step : (b : Bool) (i : ℕ) → (if b then Some i else None) ≡ (if b then Some (i + 0) else None)
last_step true i = ap (λ n. Some n) (omega arith)
last_step false i = refl

pub place_more : {A : Type 0} (f : A → Bool) (xs : List A) (t : A) (i : ℕ) → place_from f (xs ++ t ∷ []) i ≡ or_later (place_from f xs i) (if f t then Some (i + length xs) else None)
place_more f [] t i = last_step (f t) i
place_more f (x ∷ xs) t i =
    let further : suc i + length xs ≡ i + suc (length xs) = omega arith in
    more_step (f x) i (place_from f (xs ++ t ∷ []) (suc i)) (place_from f xs (suc i)) (if f t then Some (suc i + length xs) else None) (place_more f xs t (suc i))
    ∙ ap (λ n. or_later (if f x then Some i else place_from f xs (suc i)) (if f t then Some n else None)) further

-- whether something is found
found_step : (b : Bool) (i : ℕ) (o : Option ℕ) (r : Bool) → r ≡ is_some o → b || r ≡ is_some (if b then Some i else o)
found_step true i o r e = refl
found_step false i o r e = e

pub any_found : {A : Type 0} (f : A → Bool) (xs : List A) (i : ℕ) → list_any f xs ≡ is_some (place_from f xs i)
any_found f [] i = refl
any_found f (x ∷ xs) i = found_step (f x) i (place_from f xs (suc i)) (list_any f xs) (any_found f xs (suc i))

-- what is found stands in the list
within_step : (b : Bool) (i k n : ℕ) (o : Option ℕ) → (if b then Some i else o) ≡ Some k → (o ≡ Some k → k < suc i + n) → k < i + suc n
within_step true i k n o e f = let same : i ≡ k = some_same e in omega (arith, same)
  where
    some_or : Option ℕ → ℕ
    some_or (Some x) = x
    some_or None = i

    some_same : Some i ≡ Some k → i ≡ k
    some_same h = ap some_or h
within_step false i k n o e f = let h = f e in omega (arith, h)

pub within : {A : Type 0} (f : A → Bool) (xs : List A) (i k : ℕ) → place_from f xs i ≡ Some k → k < i + length xs
within f [] i k e = absurd (cc)
within f (x ∷ xs) i k e = within_step (f x) i k (length xs) (place_from f xs (suc i)) e (within f xs (suc i) k)

-- equal tests find the same
pub place_same_test : {A : Type 0} (f g : A → Bool) (xs : List A) (i : ℕ) → ((x : A) → f x ≡ g x) → place_from f xs i ≡ place_from g xs i
place_same_test f g [] i h = refl
place_same_test f g (x ∷ xs) i h = ap₂ (λ b o. if b then Some i else o) (h x) (place_same_test f g xs (suc i) h)

pub any_same_test : {A : Type 0} (f g : A → Bool) (xs : List A) → ((x : A) → f x ≡ g x) → list_any f xs ≡ list_any g xs
any_same_test f g [] h = refl
any_same_test f g (x ∷ xs) h = ap₂ (λ b c. b || c) (h x) (any_same_test f g xs h)

pub all_same_test : {A : Type 0} (f g : A → Bool) (xs : List A) → ((x : A) → f x ≡ g x) → list_all f xs ≡ list_all g xs
all_same_test f g [] h = refl
all_same_test f g (x ∷ xs) h = ap₂ (λ b c. b && c) (h x) (all_same_test f g xs h)

pub place_mapped : {A B : Type 0} (f : B → Bool) (g : A → B) (xs : List A) (i : ℕ) → place_from f (map g xs) i ≡ place_from (λ x. f (g x)) xs i
place_mapped f g [] i = refl
place_mapped f g (x ∷ xs) i = ap (λ o. if f (g x) then Some i else o) (place_mapped f g xs (suc i))

pub any_mapped : {A B : Type 0} (f : B → Bool) (g : A → B) (xs : List A) → list_any f (map g xs) ≡ list_any (λ x. f (g x)) xs
any_mapped f g [] = refl
any_mapped f g (x ∷ xs) = ap (λ z. f (g x) || z) (any_mapped f g xs)

-- the first of two kinds is the earlier of their firsts

below_le : (i j : ℕ) → i ≤ j → nat_le i j ≡ true
below_le i j h = grind (arith, h)

above_le : (i j : ℕ) → i < j → nat_le j i ≡ false
above_le i j h = grind (arith, h)

before_step : (b : Bool) (i j : ℕ) (o : Option ℕ) → i ≤ j → earlier (Some i) o ≡ Some i → earlier (Some i) (if b then Some j else o) ≡ Some i
before_step true i j o h e = ap (λ b. Some (if b then i else j)) (below_le i j h)
before_step false i j o h e = e

before_all : {A : Type 0} (g : A → Bool) (xs : List A) (i j : ℕ) → i ≤ j → earlier (Some i) (place_from g xs j) ≡ Some i
before_all g [] i j h = refl
before_all g (x ∷ xs) i j h = before_step (g x) i j (place_from g xs (suc j)) h (before_all g xs i (suc j) (omega (arith, h)))

after_step : (b : Bool) (i j : ℕ) (o : Option ℕ) → i < j → earlier o (Some i) ≡ Some i → earlier (if b then Some j else o) (Some i) ≡ Some i
after_step true i j o h e = ap (λ b. Some (if b then j else i)) (above_le i j h)
after_step false i j o h e = e

after_all : {A : Type 0} (f : A → Bool) (xs : List A) (i j : ℕ) → i < j → earlier (place_from f xs j) (Some i) ≡ Some i
after_all f [] i j h = refl
after_all f (x ∷ xs) i j h = after_step (f x) i j (place_from f xs (suc j)) h (after_all f xs i (suc j) (omega (arith, h)))

both_step : (b c : Bool) (i : ℕ) (p q r : Option ℕ) → earlier (Some i) q ≡ Some i → earlier p (Some i) ≡ Some i → earlier p q ≡ r
    → earlier (if b then Some i else p) (if c then Some i else q) ≡ (if b || c then Some i else r)
both_step true true i p q r e f g = ap (λ b. Some (if b then i else i)) (below_le i i (omega arith))
both_step true false i p q r e f g = e
both_step false true i p q r e f g = f
both_step false false i p q r e f g = g

pub earlier_or : {A : Type 0} (f g : A → Bool) (xs : List A) (i : ℕ) → earlier (place_from f xs i) (place_from g xs i) ≡ place_from (λ x. f x || g x) xs i
earlier_or f g [] i = refl
earlier_or f g (x ∷ xs) i =
    both_step (f x) (g x) i (place_from f xs (suc i)) (place_from g xs (suc i)) (place_from (λ y. f y || g y) xs (suc i))
    (before_all g xs i (suc i) (omega arith)) (after_all f xs i (suc i) (omega arith)) (earlier_or f g xs (suc i))

-- the place of a number in a list with one more

pub number_found : (x q : ℕ) (xs : List ℕ) → is_some (place_of x xs) ≡ true → place_of q xs ≡ place_of q (xs ++ x ∷ [])
number_found x q xs h = sym (place_more (λ y. y == q) xs x 0 ∙ by_test (x == q) refl (place_of q xs) refl)
  where
    none_there : (o : Option ℕ) → o ≡ None → is_some o ≡ true → ⊥
    none_there o e k = absurd (cc)

    by_test : (b : Bool) → x == q ≡ b → (o : Option ℕ) → place_of q xs ≡ o → or_later o (if b then Some (0 + length xs) else None) ≡ o
    by_test b e (Some k) s = refl
    by_test false e None s = refl
    by_test true e None s = absurd (none_there (place_of x xs) (ap (λ z. place_of z xs) (eqb-true x q e) ∙ s) h)

pub number_added : (x q : ℕ) (xs : List ℕ) → is_some (place_of x xs) ≡ false → (if x == q then Some (length xs) else place_of q xs) ≡ place_of q (xs ++ x ∷ [])
number_added x q xs h = by_test (x == q) refl (place_of q xs) refl ∙ sym (place_more (λ y. y == q) xs x 0)
  where
    some_there : (o : Option ℕ) (k : ℕ) → o ≡ Some k → is_some o ≡ false → ⊥
    some_there o k e f = absurd (cc)

    by_test : (b : Bool) → x == q ≡ b → (o : Option ℕ) → place_of q xs ≡ o → (if b then Some (length xs) else o) ≡ or_later o (if b then Some (0 + length xs) else None)
    by_test true e None s = ap (λ n. Some n) (omega arith)
    by_test false e None s = refl
    by_test false e (Some k) s = refl
    by_test true e (Some k) s = absurd (some_there (place_of x xs) k (ap (λ z. place_of z xs) (eqb-true x q e) ∙ s) h)

-- results

pub always : {A E : Type 0} (r : Result A E) (Q : Type 0) → Q → OnOk r Q
always (Ok a) Q q = q
always (Err e) Q q = record {}

pub on_ok : {A E : Type 0} (r : Result A E) (Q : Type 0) → IsOk r → OnOk r Q → Q
on_ok (Ok a) Q o h = h
on_ok (Err e) Q o h = absurd (cc)

pub past_error : {A E : Type 0} (r : Result A E) (Q : Type 0) (b : Bool) → b ≡ is_err r → b ≡ false → OnOk r Q → Q
past_error (Ok a) Q b e f h = h
past_error (Err x) Q b e f h = absurd (cc)

-- Of a monotone turn: the table is a solution, the least one; and it is reached by turns over single rows in any order.
use Rattle.std.specs.Prelude.{◌≡◌, refl, ℕ, zero, suc, ◌+◌, ◌*◌, ◌<◌, ◌≤◌, Bool, true, false, List, [], ◌∷◌, length, Option, Some, None, ◌⊎◌, if◌then◌else◌}
use Rattle.std.proofs.Common.{ap, ap₂, arith, sym, ◌∙◌, subst, inl, inr}
use Rattle.kahn_model.specs.Fullness.{HasKey}
use Rattle.kahn_model.specs.Order.{TableBelow}
use Rattle.kahn_model.specs.Rows.{Below, Row}
use Rattle.kahn_model.specs.Table
use Rattle.kahn_model.specs.Table.{Rows, cell_in, read, same_key, written, written_row}
use Rattle.kahn_model.specs.Turn.{Table}
use Rattle.kahn_model.specs.declared.cell.Cell.{Cell}
use Rattle.ls_places.specs.declared.definition.Key.{Key}
use Rattle.kahn_model.proofs.Below.{AllBelow, below_antisym, below_refl, below_trans, none_below, none_some}
use Rattle.kahn_model.proofs.Causal.{key_refl}
use Rattle.kahn_model.proofs.Filling.{below_or_equal, key_same, read_written}
use Rattle.kahn_model.proofs.Solutions.{WrittenBelow, below_solution, read_below, rising}

-- ---- how many cells are known

abbrev one : {A : Type 0} → Option A → ℕ
one None = 0
one (Some x) = 1

abbrev row_count : {A : Type 0} → List (Option A) → ℕ
row_count [] = 0
row_count (c ∷ cs) = one c + row_count cs

abbrev count : Rows → ℕ
count [] = 0
count (r ∷ R) = row_count r.1 + count R

one_most : {A : Type 0} (a : Option A) → one a ≤ 1
one_most None = omega arith
one_most (Some x) = omega arith

one_le : {A : Type 0} (a b : Option A) → Below a b → one a ≤ one b
one_le None b p = omega arith
one_le (Some x) None p = none_some x (p x refl)
one_le (Some x) (Some y) p = omega arith

one_same : {A : Type 0} (a b : Option A) → Below a b → one a ≡ one b → a ≡ b
one_same None None p e = refl
one_same None (Some y) p e = absurd (omega (arith, e))
one_same (Some x) b p e = sym (p x refl)

row_le : {A : Type 0} (cs ds : List (Option A)) → AllBelow cs ds → row_count cs ≤ row_count ds
row_le [] [] p = omega arith
row_le (c ∷ cs) (d ∷ ds) p = omega (arith, one_le c d p.0, row_le cs ds p.1)
row_le _ _ p = absurd p

left_same : (a b c d : ℕ) → a ≤ c → b ≤ d → a + b ≡ c + d → a ≡ c
left_same a b c d p q e = omega (arith, p, q, e)

right_same : (a b c d : ℕ) → a ≤ c → b ≤ d → a + b ≡ c + d → b ≡ d
right_same a b c d p q e = omega (arith, p, q, e)

row_same : {A : Type 0} (cs ds : List (Option A)) → AllBelow cs ds → row_count cs ≡ row_count ds → cs ≡ ds
row_same [] [] p e = refl
row_same (c ∷ cs) (d ∷ ds) p e = ap₂ (λ x xs. x ∷ xs)
    (one_same c d p.0 (left_same (one c) (row_count cs) (one d) (row_count ds) (one_le c d p.0) (row_le cs ds p.1) e))
    (row_same cs ds p.1 (right_same (one c) (row_count cs) (one d) (row_count ds) (one_le c d p.0) (row_le cs ds p.1) e))
row_same _ _ p e = absurd p

count_le : (R S : Rows) → WrittenBelow R S → count R ≤ count S
count_le [] [] p = omega arith
count_le (r ∷ R) (s ∷ S) p = omega (arith, row_le r.1 s.1 p.0.1, count_le R S p.1)
count_le _ _ p = absurd p

count_same : (R S : Rows) → WrittenBelow R S → count R ≡ count S → R ≡ S
count_same [] [] p e = refl
count_same (r ∷ R) (s ∷ S) p e = ap₂ (λ (x : Key × List (Option Cell)) xs. x ∷ xs)
    (λ i. (p.0.0 i, row_same r.1 s.1 p.0.1 (left_same (row_count r.1) (count R) (row_count s.1) (count S) (row_le r.1 s.1 p.0.1) (count_le R S p.1) e) i))
    (count_same R S p.1 (right_same (row_count r.1) (count R) (row_count s.1) (count S) (row_le r.1 s.1 p.0.1) (count_le R S p.1) e))
count_same _ _ p e = absurd p

row_most : {A : Type 0} (n j : ℕ) (r : Row A) → row_count (written_row n j r) ≤ n
row_most zero j r = omega arith
row_most (suc n) j r = omega (arith, one_most (r j), row_most n (suc j) r)

product_more : (k n : ℕ) → n + k * n ≡ suc k * n
product_more k n = omega arith

count_most : (ks : List Key) (n : ℕ) (T : Table) → count (written ks n T) ≤ length ks * n
count_most [] n T = omega arith
count_most (k ∷ ks) n T = omega (arith, row_most n 0 (T k), count_most ks n T, product_more (length ks) n)

-- ---- rows by their cells

pub below_both : {A : Type 0} (cs ds : List (Option A)) → AllBelow cs ds → AllBelow ds cs → cs ≡ ds
below_both [] [] p q = refl
below_both (c ∷ cs) (d ∷ ds) p q = ap₂ (λ x xs. x ∷ xs) (below_antisym c d p.0 q.0) (below_both cs ds p.1 q.1)
below_both _ _ p q = absurd p

pub written_both : (R S : Rows) → WrittenBelow R S → WrittenBelow S R → R ≡ S
written_both [] [] p q = refl
written_both (r ∷ R) (s ∷ S) p q =
    ap₂ (λ (x : Key × List (Option Cell)) xs. x ∷ xs) (λ i. (p.0.0 i, below_both r.1 s.1 p.0.1 q.0.1 i)) (written_both R S p.1 q.1)
written_both _ _ p q = absurd p

row_within : (n j : ℕ) (r s : Row Cell) → ((i : ℕ) → i < j + n → Below (r i) (s i)) → AllBelow (written_row n j r) (written_row n j s)
row_within zero j r s p = tt
row_within (suc n) j r s p = (p j (omega arith), row_within n (suc j) r s (λ i l. p i (omega (arith, l))))

pub written_within : (ks : List Key) (n : ℕ) (T U : Table) → ((k : Key) (i : ℕ) → HasKey k ks → i < n → Below (T k i) (U k i)) → WrittenBelow (written ks n T) (written ks n U)
written_within [] n T U p = tt
written_within (k ∷ ks) n T U p = ((refl, row_within n 0 (T k) (U k) (λ i l. p k i (inl (key_refl k)) (omega (arith, l)))), written_within ks n T U (λ l i h. p l i (inr h)))

-- what is out of range is not known
cell_below_written : (n j i m : ℕ) (r : Row Cell) → m ≡ j + i → Below (cell_in (written_row n j r) i) (r m)
cell_below_written zero j i m r e = none_below (r m)
cell_below_written (suc n) j zero m r e = subst (λ k. Below (r j) (r k)) (omega (arith, e)) (below_refl (r j))
cell_below_written (suc n) j (suc i) m r e = cell_below_written n (suc j) i m r (omega (arith, e))

read_below_if : (l k : Key) (n i : ℕ) (T : Table) (rest : Option Cell) → Below rest (T k i) → (t : Bool) → same_key l k ≡ t
    → Below (if t then cell_in (written_row n 0 (T l)) i else rest) (T k i)
read_below_if l k n i T rest p true e = subst (λ m. Below (cell_in (written_row n 0 (T l)) i) (T m i)) (key_same l k e) (cell_below_written n 0 i i (T l) (omega arith))
read_below_if l k n i T rest p false e = p

pub read_below_written : (ks : List Key) (n : ℕ) (T : Table) → TableBelow (read (written ks n T)) T
read_below_written [] n T k i = none_below (T k i)
read_below_written (l ∷ ks) n T k i = read_below_if l k n i T (read (written ks n T) k i) (read_below_written ks n T k i) (same_key l k) refl

module _ (ks : List Key) (n : ℕ) (turn_of : Table → Table) (mono : (T T' : Table) → TableBelow T T' → TableBelow (turn_of T) (turn_of T')) where
  abbrev so_far : ℕ → Rows
  so_far = Table.after ks n turn_of

  abbrev whole : Rows
  whole = Table.table ks n turn_of

  abbrev Solution : Rows → Type 0
  Solution = Table.Solution ks n turn_of

  -- ---- the table is a solution

  stays : (t : ℕ) → Solution (so_far t) → Solution (so_far (suc t))
  stays t is = subst Solution (sym is) is

  most : (t : ℕ) → count (so_far t) ≤ length ks * n
  most zero = count_most ks n (λ k i. None)
  most (suc t) = count_most ks n (turn_of (read (so_far t)))

  no_more : (t : ℕ) → count (so_far t) ≡ count (so_far (suc t)) → Solution (so_far t)
  no_more t e = sym (count_same (so_far t) (so_far (suc t)) (rising ks n turn_of mono t) e)

  -- each turn makes a cell known, or the table stands
  stands_or_grows : (t : ℕ) → Solution (so_far t) ⊎ (t ≤ count (so_far t))
  stands_or_grows zero = inr (omega arith)
  stands_or_grows (suc t) = elim (stands_or_grows t) [
    | inl is ↦ inl (stays t is)
    | inr l ↦ elim (below_or_equal (count (so_far t)) (count (so_far (suc t))) (omega (arith, count_le (so_far t) (so_far (suc t)) (rising ks n turn_of mono t)))) [
      | inl more ↦ inr (omega (arith, l, more))
      | inr same ↦ inl (stays t (no_more t same))
    ]
  ]

  pub table_solves : Solution whole
  table_solves = elim (stands_or_grows (length ks * n)) [
    | inl is ↦ is
    | inr l ↦ no_more (length ks * n) (omega (arith, l, most (suc (length ks * n)), count_le whole (so_far (suc (length ks * n))) (rising ks n turn_of mono (length ks * n))))
  ]

  pub table_least : (S : Rows) → Solution S → TableBelow (read whole) (read S)
  table_least S is = read_below whole S (below_solution ks n turn_of mono S is (length ks * n))

  -- ---- row by row

  turned_is : (k : Key) (i : ℕ) → HasKey k ks → i < n → turn_of (read whole) k i ≡ read whole k i
  turned_is k i h p = sym (read_written ks n (turn_of (read whole)) k i h p) ∙ ap (λ (R : Rows). read R k i) table_solves

  -- a turn at a table that says no more than the least solution says no more than it
  pub turned_below : (T : Table) → TableBelow T (read whole) → (k : Key) (i : ℕ) → HasKey k ks → i < n → Below (turn_of T k i) (read whole k i)
  turned_below T p k i h l = subst (Below (turn_of T k i)) (turned_is k i h l) (mono T (read whole) p k i)

  module _ (T : Table) (low : TableBelow T (read whole)) (none : (k : Key) (i : ℕ) → HasKey k ks → i < n → T k i ≡ None → turn_of T k i ≡ None) where
    settled : (k : Key) (i : ℕ) → HasKey k ks → i < n → (c : Option Cell) → T k i ≡ c → Below (turn_of T k i) (T k i)
    settled k i h l None e = subst (λ o. Below o (T k i)) (sym (none k i h l e)) (none_below (T k i))
    settled k i h l (Some x) e = subst (Below (turn_of T k i)) (low k i x e ∙ sym e) (turned_below T low k i h l)

    reached : (t : ℕ) → WrittenBelow (so_far t) (written ks n T)
    reached zero = written_within ks n (λ k i. None) T (λ k i h l. none_below (T k i))
    reached (suc t) = written_within ks n (turn_of (read (so_far t))) T (λ k i h l.
        below_trans (turn_of (read (so_far t)) k i) (turn_of T k i) (T k i)
        (mono (read (so_far t)) T (λ m j. below_trans (read (so_far t) m j) (read (written ks n T) m j) (T m j)
        (read_below (so_far t) (written ks n T) (reached t) m j) (read_below_written ks n T m j)) k i)
        (settled k i h l (T k i) refl))

    within : WrittenBelow (written ks n T) whole
    within = subst (WrittenBelow (written ks n T)) table_solves (written_within ks n T (turn_of (read whole))
        (λ k i h l. subst (Below (T k i)) (sym (turned_is k i h l)) (low k i)))

    -- where a turn knows no cell that it does not know, it is the least solution
    pub settled_is : written ks n T ≡ whole
    settled_is = written_both (written ks n T) whole within (reached (length ks * n))

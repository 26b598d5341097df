-- Rows that stand, and one cell of them put anew.
use Rattle.std.specs.Prelude.{◌≡◌, refl, ℕ, zero, suc, ◌-◌, ◌+◌, ◌==◌, ◌&&◌, ◌<◌, ◌≤◌, Bool, true, false, List, [], ◌∷◌, ◌++◌, Option, Some, None, Vec, slice_get, slice_set, if◌then◌else◌, nat_lt}
use Rattle.std.specs.Global.{Global}
use Rattle.std.proofs.Common.{ap, sym, ◌∙◌, subst, arith, get_or, length}
use Rattle.kahn_model.specs.declared.cell.Cell.{Cell}
use Rattle.kahn_model.specs.Table.{cell_in, same_key}
use Rattle.ls_places.specs.Search.{nth}
use Rattle.ls_places.specs.declared.definition.Definition.{Definition}
use Rattle.ls_places.specs.declared.definition.Key.{Key}
use Rattle.ls_places.specs.declared.definition.Key.TheVariants as key
use Rattle.kahn_exprs.specs.declared.table.Rows.{Rows}
use Rattle.kahn_exprs.specs.Standing.{InRange, Put, PutAt, row, row_at, table}

pub row_none : {Z : Type 0} (all : List (Vec (Option Cell) Z)) (k : ℕ) → None ≡ nth all k → [] ≡ row_at all k
row_none [] k e = refl
row_none (r ∷ all) zero e = absurd (cc)
row_none (r ∷ all) (suc k) e = row_none all k e

abbrev the_items : {Z : Type 0} → Option (Vec (Option Cell) Z) → List (Option Cell)
the_items None = []
the_items (Some r) = r.items

pub row_some : {Z : Type 0} (all : List (Vec (Option Cell) Z)) (k : ℕ) (r : Vec (Option Cell) Z) → Some r ≡ nth all k → r.items ≡ row_at all k
row_some [] k r e = absurd (cc)
row_some (x ∷ all) zero r e = ap the_items e
row_some (x ∷ all) (suc k) r e = row_some all k r e

pub cell_none : {A : Type 0} (cells : List (Option A)) (i : ℕ) → None ≡ nth cells i → None ≡ cell_in cells i
cell_none [] i e = refl
cell_none (c ∷ cells) zero e = absurd (cc)
cell_none (c ∷ cells) (suc i) e = cell_none cells i e

abbrev flat : {A : Type 0} → Option (Option A) → Option A
flat None = None
flat (Some c) = c

pub cell_some : {A : Type 0} (cells : List (Option A)) (i : ℕ) (c : Option A) → Some c ≡ nth cells i → c ≡ cell_in cells i
cell_some [] i c e = absurd (cc)
cell_some (x ∷ cells) zero c e = ap flat e
cell_some (x ∷ cells) (suc i) c e = cell_some cells i c e

-- ---- one cell anew

zero_suc : (m : ℕ) → (0 == suc m) ≡ false
zero_suc m = grind arith

suc_zero : (m : ℕ) → (suc m == 0) ≡ false
suc_zero m = grind arith

suc_suc : (i m : ℕ) → (suc i == suc m) ≡ (i == m)
suc_suc i m = grind arith

pub eqb_is : (x y : ℕ) → (x == y) ≡ true → x ≡ y
eqb_is x y e = grind (arith, e)

by_if : {A : Type 0} (t u : Bool) (x y z : A) → t ≡ u → z ≡ (if u then x else y) → z ≡ (if t then x else y)
by_if t u x y z e p = p ∙ ap (λ b. if b then x else y) (sym e)

pub cell_set : {A : Type 0} (cells : List (Option A)) (i m : ℕ) (c : Option A) → i < length cells → cell_in (slice_set cells i c) m ≡ (if i == m then c else cell_in cells m)
cell_set [] i m c e = absurd (omega (arith, e))
cell_set (y ∷ cells) zero zero c e = refl
cell_set (y ∷ cells) zero (suc m) c e = by_if (0 == suc m) false c (cell_in cells m) (cell_in cells m) (zero_suc m) refl
cell_set (y ∷ cells) (suc i) zero c e = by_if (suc i == 0) false c y y (suc_zero i) refl
cell_set (y ∷ cells) (suc i) (suc m) c e = by_if (suc i == suc m) (i == m) c (cell_in cells m) (cell_in (slice_set cells i c) m) (suc_suc i m) (cell_set cells i m c (omega (arith, e)))

row_set : {Z : Type 0} (all : List (Vec (Option Cell) Z)) (k j : ℕ) (v : Vec (Option Cell) Z) → k < length all → row_at (slice_set all k v) j ≡ (if k == j then v.items else row_at all j)
row_set [] k j v e = absurd (omega (arith, e))
row_set (y ∷ all) zero zero v e = refl
row_set (y ∷ all) zero (suc j) v e = by_if (0 == suc j) false v.items (row_at all j) (row_at all j) (zero_suc j) refl
row_set (y ∷ all) (suc k) zero v e = by_if (suc k == 0) false v.items y.items y.items (suc_zero k) refl
row_set (y ∷ all) (suc k) (suc j) v e = by_if (suc k == suc j) (k == j) v.items (row_at all j) (row_at (slice_set all k v) j) (suc_suc k j) (row_set all k j v (omega (arith, e)))

abbrev items_of : {Z : Type 0} → Vec (Option Cell) Z → List (Option Cell)
items_of v = v.items

-- the row of a number in range
pub row_get : {Z : Type 0} (all : List (Vec (Option Cell) Z)) (k : ℕ) (r : Vec (Option Cell) Z) → k < length all → r ≡ get_or all k r → r.items ≡ row_at all k
row_get [] k r p e = absurd (omega (arith, p))
row_get (y ∷ all) zero r p e = ap items_of e
row_get (y ∷ all) (suc k) r p e = row_get all k r (omega (arith, p)) e

by_row : (t u : Bool) (new old : List (Option Cell)) (m : ℕ) (c x : Option Cell) → (t ≡ true → cell_in new m ≡ (if u then c else x)) → (t ≡ false → cell_in old m ≡ x)
    → cell_in (if t then new else old) m ≡ (if t && u then c else x)
by_row true u new old m c x f g = f refl
by_row false u new old m c x f g = g refl

pub put_at : {Z : Type 0} (all : List (Vec (Option Cell) Z)) (k i : ℕ) (r v : Vec (Option Cell) Z) (c : Cell) → k < length all → r ≡ get_or all k r → i < length r.items
    → v.items ≡ slice_set r.items i (Some c) → PutAt all k i c true (slice_set all k v)
put_at all k i r v c p e q is j m =
    ap (λ cells. cell_in cells m) (row_set all k j v p)
    ∙ by_row (k == j) (i == m) v.items (row_at all j) m (Some c) (cell_in (row_at all j) m)
    (λ t. ap (λ cells. cell_in cells m) is ∙ cell_set r.items i m (Some c) q
    ∙ ap (λ cells. if i == m then Some c else cell_in cells m) (row_get all k r p e ∙ ap (row_at all) (eqb_is k j t)))
    (λ t. refl)

-- ---- by keys

less_by : (x y n : ℕ) → n ≤ x → nat_lt y n ≡ false → (x - n == y - n) ≡ (x == y)
less_by x y n p e = grind (arith, p, e)

other_by : (x y n : ℕ) → n ≤ x → nat_lt y n ≡ true → (x == y) ≡ false
other_by x y n p e = grind (arith, p, e)

never : (t u : Bool) (c : Cell) → None ≡ (if t && (false && u) then Some c else None)
never true u c = refl
never false u c = refl

-- a row whose number counts from the first clock name
name_put : {Z : Type 0} (new old : List (Vec (Option Cell) Z)) (n x y i m : ℕ) (c : Cell) (there : Bool) → n ≤ x → PutAt old (x - n) i c there new → (t : Bool) → nat_lt y n ≡ t
    → cell_in (if t then [] else row_at new (y - n)) m ≡ (if there && (x == y && i == m) then Some c else cell_in (if t then [] else row_at old (y - n)) m)
name_put new old n x y i m c there p h true e = never there (i == m) c ∙ ap (λ b. if there && (b && i == m) then Some c else None) (sym (other_by x y n p e))
name_put new old n x y i m c there p h false e = h (y - n) m ∙ ap (λ b. if there && (b && i == m) then Some c else cell_in (row_at old (y - n)) m) (less_by x y n p e)

other : (t u : Bool) (c : Cell) (x : Option Cell) → x ≡ (if t && (false && u) then Some c else x)
other true u c x = refl
other false u c x = refl

abbrev Kept : Type 0
Kept = Vec (Vec (Option Cell) Global) Global

pub put_var : (r : Rows) (new : Kept) (x i : ℕ) (c : Cell) (t : Bool) → PutAt r.vars.items x i c t new.items → Put r (key.Var x) i c t (record r { vars = new })
put_var r new x i c t h (key.Var y) m = h y m
put_var r new x i c t h (key.Start y) m = other t (i == m) c (cell_in (row_at r.starts.items y) m)
put_var r new x i c t h (key.Name y) m = other t (i == m) c (table r (key.Name y) m)
put_var r new x i c t h (key.Reset y) m = other t (i == m) c (cell_in (row_at r.resets.items y) m)

pub put_start : (r : Rows) (new : Kept) (x i : ℕ) (c : Cell) (t : Bool) → PutAt r.starts.items x i c t new.items → Put r (key.Start x) i c t (record r { starts = new })
put_start r new x i c t h (key.Start y) m = h y m
put_start r new x i c t h (key.Var y) m = other t (i == m) c (cell_in (row_at r.vars.items y) m)
put_start r new x i c t h (key.Name y) m = other t (i == m) c (table r (key.Name y) m)
put_start r new x i c t h (key.Reset y) m = other t (i == m) c (cell_in (row_at r.resets.items y) m)

pub put_reset : (r : Rows) (new : Kept) (x i : ℕ) (c : Cell) (t : Bool) → PutAt r.resets.items x i c t new.items → Put r (key.Reset x) i c t (record r { resets = new })
put_reset r new x i c t h (key.Reset y) m = h y m
put_reset r new x i c t h (key.Var y) m = other t (i == m) c (cell_in (row_at r.vars.items y) m)
put_reset r new x i c t h (key.Name y) m = other t (i == m) c (table r (key.Name y) m)
put_reset r new x i c t h (key.Start y) m = other t (i == m) c (cell_in (row_at r.starts.items y) m)

pub put_name : (r : Rows) (new : Kept) (x i : ℕ) (c : Cell) → r.first ≤ x → (t : Bool) → PutAt r.names.items (x - r.first) i c t new.items → Put r (key.Name x) i c t (record r { names = new })
put_name r new x i c p t h (key.Name y) m = name_put new.items r.names.items r.first x y i m c t p h (nat_lt y r.first) refl
put_name r new x i c p t h (key.Var y) m = other t (i == m) c (cell_in (row_at r.vars.items y) m)
put_name r new x i c p t h (key.Start y) m = other t (i == m) c (cell_in (row_at r.starts.items y) m)
put_name r new x i c p t h (key.Reset y) m = other t (i == m) c (cell_in (row_at r.resets.items y) m)

pub put_nowhere : (r : Rows) (k l : Key) (i m : ℕ) (c : Cell) → table r l m ≡ (if false && (same_key k l && i == m) then Some c else table r l m)
put_nowhere r k l i m c = refl

-- ---- nothing known

pub unknown_more : {A : Type 0} (cells : List (Option A)) (i : ℕ) → ((j : ℕ) → cell_in cells j ≡ None) → cell_in (cells ++ None ∷ []) i ≡ None
unknown_more [] zero f = refl
unknown_more [] (suc i) f = refl
unknown_more (c ∷ cells) zero f = f zero
unknown_more (c ∷ cells) (suc i) f = unknown_more cells i (λ j. f (suc j))

pub rows_more : {Z : Type 0} (all : List (Vec (Option Cell) Z)) (r : Vec (Option Cell) Z) (k i : ℕ) → ((j m : ℕ) → cell_in (row_at all j) m ≡ None) → ((m : ℕ) → cell_in r.items m ≡ None)
    → cell_in (row_at (all ++ r ∷ []) k) i ≡ None
rows_more [] r zero i f g = g i
rows_more [] r (suc k) i f g = refl
rows_more (x ∷ all) r zero i f g = f zero i
rows_more (x ∷ all) r (suc k) i f g = rows_more all r k i (λ j m. f (suc j) m) g

none_by : (t : Bool) (cells : List (Option Cell)) (i : ℕ) → cell_in cells i ≡ None → cell_in (if t then [] else cells) i ≡ None
none_by true cells i e = refl
none_by false cells i e = e

pub all_unknown : (r : Rows) → ((k i : ℕ) → cell_in (row_at r.vars.items k) i ≡ None) → ((k i : ℕ) → cell_in (row_at r.starts.items k) i ≡ None)
    → ((k i : ℕ) → cell_in (row_at r.names.items k) i ≡ None) → ((k i : ℕ) → cell_in (row_at r.resets.items k) i ≡ None) → (k : Key) (i : ℕ) → table r k i ≡ None
all_unknown r v s n e (key.Var x) i = v x i
all_unknown r v s n e (key.Start x) i = s x i
all_unknown r v s n e (key.Name m) i = none_by (nat_lt m r.first) (row_at r.names.items (m - r.first)) i (n (m - r.first) i)
all_unknown r v s n e (key.Reset x) i = e x i

-- ---- lengths

pub lt_false : (x y : ℕ) → y ≤ x → false ≡ nat_lt x y
lt_false x y p = sym (is x y p)
  where
    is : (x y : ℕ) → y ≤ x → nat_lt x y ≡ false
    is x y p = grind (arith, p)

pub lt_true : (x y : ℕ) → x < y → true ≡ nat_lt x y
lt_true x y p = sym (is x y p)
  where
    is : (x y : ℕ) → x < y → nat_lt x y ≡ true
    is x y p = grind (arith, p)

pub row_past : {Z : Type 0} (all : List (Vec (Option Cell) Z)) (k : ℕ) → length all ≤ k → row_at all k ≡ []
row_past [] k p = refl
row_past (y ∷ all) zero p = absurd (omega (arith, p))
row_past (y ∷ all) (suc k) p = row_past all k (omega (arith, p))

set_length : {A : Type 0} (xs : List A) (i : ℕ) (x : A) → length (slice_set xs i x) ≡ length xs
set_length [] i x = refl
set_length (y ∷ xs) zero x = refl
set_length (y ∷ xs) (suc i) x = ap suc (set_length xs i x)

length_by : (t : Bool) (xs ys : List (Option Cell)) → (t ≡ true → length xs ≡ length ys) → length (if t then xs else ys) ≡ length ys
length_by true xs ys f = f refl
length_by false xs ys f = refl

pub put_length : {Z : Type 0} (all : List (Vec (Option Cell) Z)) (k i j : ℕ) (r v : Vec (Option Cell) Z) (c : Option Cell) → k < length all → r ≡ get_or all k r → v.items ≡ slice_set r.items i c
    → length (row_at (slice_set all k v) j) ≡ length (row_at all j)
put_length all k i j r v c p e is = ap length (row_set all k j v p)
    ∙ length_by (k == j) v.items (row_at all j)
    (λ t. ap length is ∙ set_length r.items i c ∙ ap length (row_get all k r p e ∙ ap (row_at all) (eqb_is k j t)))

name_length : {Z : Type 0} (new old : List (Vec (Option Cell) Z)) (j : ℕ) → ((j : ℕ) → length (row_at new j) ≡ length (row_at old j)) → (t : Bool)
    → length (if t then [] else row_at new j) ≡ length (if t then [] else row_at old j)
name_length new old j f true = refl
name_length new old j f false = f j

pub name_lengths : (r : Rows) (new : Kept) → ((j : ℕ) → length (row_at new.items j) ≡ length (row_at r.names.items j)) → (k : Key) → length (row (record r { names = new }) k) ≡ length (row r k)
name_lengths r new f (key.Name m) = name_length new.items r.names.items (m - r.first) f (nat_lt m r.first)
name_lengths r new f (key.Var x) = refl
name_lengths r new f (key.Start x) = refl
name_lengths r new f (key.Reset x) = refl

pub var_lengths : (r : Rows) (new : Kept) → ((j : ℕ) → length (row_at new.items j) ≡ length (row_at r.vars.items j)) → (k : Key) → length (row (record r { vars = new }) k) ≡ length (row r k)
var_lengths r new f (key.Var x) = f x
var_lengths r new f (key.Name m) = refl
var_lengths r new f (key.Start x) = refl
var_lengths r new f (key.Reset x) = refl

pub start_lengths : (r : Rows) (new : Kept) → ((j : ℕ) → length (row_at new.items j) ≡ length (row_at r.starts.items j)) → (k : Key) → length (row (record r { starts = new }) k) ≡ length (row r k)
start_lengths r new f (key.Start x) = f x
start_lengths r new f (key.Name m) = refl
start_lengths r new f (key.Var x) = refl
start_lengths r new f (key.Reset x) = refl

pub reset_lengths : (r : Rows) (new : Kept) → ((j : ℕ) → length (row_at new.items j) ≡ length (row_at r.resets.items j)) → (k : Key) → length (row (record r { resets = new }) k) ≡ length (row r k)
reset_lengths r new f (key.Reset x) = f x
reset_lengths r new f (key.Name m) = refl
reset_lengths r new f (key.Var x) = refl
reset_lengths r new f (key.Start x) = refl

name_there : (t : Bool) (xs : List (Option Cell)) (i : ℕ) (b : Bool) → t ≡ false → b ≡ nat_lt i (length xs) → b ≡ nat_lt i (length (if t then [] else xs))
name_there t xs i b e f = f ∙ ap (λ t'. nat_lt i (length (if t' then [] else xs))) (sym e)

pub there_name : (r : Rows) (m i : ℕ) (b : Bool) → r.first ≤ m → b ≡ nat_lt i (length (row_at r.names.items (m - r.first))) → b ≡ nat_lt i (length (row r (key.Name m)))
there_name r m i b p f = name_there (nat_lt m r.first) (row_at r.names.items (m - r.first)) i b (sym (lt_false m r.first p)) f

pub there_none : (r : Rows) (m i : ℕ) → m < r.first → false ≡ nat_lt i (length (row r (key.Name m)))
there_none r m i p = subst (λ t. false ≡ nat_lt i (length (if t then [] else row_at r.names.items (m - r.first)))) (lt_true m r.first p) (lt_false i 0 (omega arith))

pub length_more : {A : Type 0} (xs : List A) (x : A) (n : ℕ) → length xs ≡ n → length (xs ++ x ∷ []) ≡ n + 1
length_more [] x n e = omega (arith, e)
length_more (y ∷ xs) x n e = omega (arith, e, length_more xs x (length xs) refl)

pub lengths_more : {Z : Type 0} (all : List (Vec (Option Cell) Z)) (r : Vec (Option Cell) Z) (k n i : ℕ) → length all ≡ i → k < i + 1 → ((j : ℕ) → j < i → length (row_at all j) ≡ n) → length r.items ≡ n
    → length (row_at (all ++ r ∷ []) k) ≡ n
lengths_more [] r zero n i e p f g = g
lengths_more [] r (suc k) n i e p f g = absurd (omega (arith, p, e))
lengths_more (x ∷ all) r zero n i e p f g = f zero (omega (arith, e))
lengths_more (x ∷ all) r (suc k) n i e p f g = lengths_more all r k n (length all) refl (omega (arith, p, e)) (λ j q. f (suc j) (omega (arith, q, e))) g

name_all : (t : Bool) (xs : List (Option Cell)) (n : ℕ) → t ≡ false → length xs ≡ n → length (if t then [] else xs) ≡ n
name_all t xs n e f = ap (λ t'. length (if t' then [] else xs)) e ∙ f

pub all_lengths : (r : Rows) (d : Definition) (n : ℕ) → r.first ≡ length d.params → ((k : ℕ) → k < length d.places.vars → length (row_at r.vars.items k) ≡ n) → ((k : ℕ) → k < length d.places.vars → length (row_at r.starts.items k) ≡ n)
    → ((k : ℕ) → k < length d.places.names → length (row_at r.names.items k) ≡ n) → ((k : ℕ) → k < length d.places.resets → length (row_at r.resets.items k) ≡ n)
    → (k : Key) → InRange d k → length (row r k) ≡ n
all_lengths r d n e v s m t (key.Var x) p = v x p
all_lengths r d n e v s m t (key.Start x) p = s x p
all_lengths r d n e v s m t (key.Name x) p = name_all (nat_lt x r.first) (row_at r.names.items (x - r.first)) n (sym (lt_false x r.first (omega (arith, p.0, e)))) (m (x - r.first) (omega (arith, p.0, p.1, e)))
all_lengths r d n e v s m t (key.Reset x) p = t x p

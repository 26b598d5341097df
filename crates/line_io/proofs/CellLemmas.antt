-- Lemmas on the readings and the cells of a line.
use Rattle.std.proofs.Common.{◌≡◌, ℕ, Bool, zero, suc, ◌+◌, ◌<◌, ◌≤◌, ◌⊎◌, ⊎_elim, inl, inr, List, [], ◌∷◌, Option, Some, None, length, drop, set, get_or, refl, sym, ◌∙◌, ap, subst, arith, length-drop}
use Rattle.std.specs.Prelude.{slice_get, MatchOption, IfNone, IfSome, IsTrue, is_some, ◌↔◌}
use Rattle.std.proofs.lemmas.Option.{slice_get_within, get_or_from_slice_get, slice_get-get_or, slice_get_past}
use Rattle.line_io.specs.Fields.{Reads, ReadsAs}
use Rattle.line_io.specs.Cells.{CellAt, CellIs, IsBadField}
use Rattle.line_io.specs.Line.{part}
use Rattle.line_io.specs.Words.{words_of}
use Rattle.line_io.specs.declared.form.InputForm.{InputForm}
use Rattle.line_io.specs.declared.form.Field.{Field}
use Rattle.line_io.specs.declared.form.Reading.{Reading}
use Rattle.line_io.specs.declared.form.Cell.{Cell}
use Rattle.line_io.specs.declared.form.Cell.TheVariants.{Absent}
use Rattle.line_io.proofs.Parts.{drop-drop}

-- the first readings are those of a line
abbrev pub ReadUpTo : InputForm → List ℕ → List Reading → ℕ → Type 0
ReadUpTo form line readings n =
    (k : ℕ) → k < n → MatchOption (slice_get form.fields k) (Unit {0}) (λ field. MatchOption (slice_get readings k) ⊥ (λ reading. ReadsAs form field.shape (slice_get (words_of line) k) reading))

-- what stands at the front of what is left
get_dropped : {X : Type 0} (xs : List X) (n : ℕ) → slice_get (drop n xs) 0 ≡ slice_get xs n
get_dropped [] zero = refl
get_dropped [] (suc n) = refl
get_dropped (x ∷ xs) zero = refl
get_dropped (x ∷ xs) (suc n) = get_dropped xs n

-- an item that was put at a place, and the others
get_set_at : {X : Type 0} (xs : List X) (n : ℕ) (x : X) → n < length xs → slice_get (set xs n x) n ≡ Some x
get_set_at [] n x lt = absurd (omega arith)
get_set_at (y ∷ xs) zero x lt = refl
get_set_at (y ∷ xs) (suc n) x lt = get_set_at xs n x (omega arith)

get_set_other : {X : Type 0} (xs : List X) (n k : ℕ) (x : X) → k < n → slice_get (set xs n x) k ≡ slice_get xs k
get_set_other [] n k x lt = refl
get_set_other (y ∷ xs) zero k x lt = absurd (omega arith)
get_set_other (y ∷ xs) (suc n) zero x lt = refl
get_set_other (y ∷ xs) (suc n) (suc k) x lt = get_set_other xs n k x (omega arith)

split_more : (k n : ℕ) → k < n + 1 → (k < n) ⊎ (k ≡ n)
split_more k n h = grind arith

-- what is said of a field of the form and of its reading and its word
abbrev pub ReadAt : InputForm → Option Field → Option Reading → Option (List ℕ) → Type 0
ReadAt form field reading word = MatchOption field (Unit {0}) (λ f. MatchOption reading ⊥ (λ r. ReadsAs form f.shape word r))

read_at : (form : InputForm) (fields : Option Field) (readings : Option Reading) (word other : Option (List ℕ)) (field : Field) (reading : Reading)
    → fields ≡ Some field → readings ≡ Some reading → word ≡ other → ReadsAs form field.shape word reading → ReadAt form fields readings other
read_at form fields readings word other field reading is from same h =
    subst (λ (o : Option Field). ReadAt form o readings other) (sym is) (subst (λ (o : Option Reading). ReadAt form (Some field) o other) (sym from)
    (subst (λ (w : Option (List ℕ)). ReadsAs form field.shape w reading) same h))

-- one field more is read
pub read_more : (form : InputForm) (line : List ℕ) (from n : ℕ) (readings : List Reading) (fields : List Field) (field : Field) (reading : Reading)
    → n < length readings → n < length fields → fields ≡ form.fields
    → drop n (words_of line) ≡ words_of (drop from line)
    → ReadsAs form (get_or fields n field).shape (slice_get (words_of (drop from line)) 0) reading
    → ReadUpTo form line readings n
    → ReadUpTo form line (set readings n reading) (n + 1)
read_more form line from n readings fields field reading lt in_form is rest reads before k under =
    ⊎_elim
    (λ (less : k < n). subst (λ (o : Option Reading). ReadAt form (slice_get form.fields k) o (slice_get (words_of line) k)) (sym (get_set_other readings n k reading less)) (before k less))
    (λ (same : k ≡ n). subst (λ (i : ℕ). ReadAt form (slice_get form.fields i) (slice_get (set readings n reading) i) (slice_get (words_of line) i)) (sym same)
    (read_at form _ _ (slice_get (words_of (drop from line)) 0) _ (get_or fields n field) reading
    (ap (λ (fs : List Field). slice_get fs n) (sym is) ∙ slice_get-get_or fields n field in_form)
    (get_set_at readings n reading lt)
    (ap (λ (ws : List (List ℕ)). slice_get ws 0) (sym rest) ∙ get_dropped (words_of line) n)
    reads))
    (split_more k n under)

-- and the words that are left
pub words_more : (words : List (List ℕ)) (line : List ℕ) (from end n : ℕ) → drop n words ≡ words_of (drop from line) → words_of (drop end line) ≡ drop 1 (words_of (drop from line))
    → drop (n + 1) words ≡ words_of (drop end line)
words_more words line from end n now next = sym (drop-drop n 1 words) ∙ ap (drop 1) now ∙ sym next

-- the readings are read where all of them are
pub read_all : (form : InputForm) (line : List ℕ) (readings : List Reading) (n : ℕ) → length readings ≡ length form.fields → length form.fields ≤ n → ReadUpTo form line readings n → Reads form line readings
read_all form line readings n all past up = record {
  all = all;
  each = λ k.
      ⊎_elim
      (λ under. up k under)
      (λ over. subst (λ (o : Option Field). MatchOption o (Unit {0}) (λ f. MatchOption (slice_get readings k) ⊥ (λ r. ReadsAs form f.shape (slice_get (words_of line) k) r))) (sym (slice_get_past form.fields k (omega arith))) tt)
      (split k n);
}
  where
    split : (k n : ℕ) → (k < n) ⊎ (n ≤ k)
    split k n = grind arith

-- a field of the line is left where the line has more
pub more_left : (words : List (List ℕ)) (n : ℕ) (word : List ℕ) (rest : List (List ℕ)) → drop n words ≡ word ∷ rest → n < length words
more_left words n word rest e = omega (arith, ap length e, length-drop n words)

pub none_left : (words : List (List ℕ)) (n : ℕ) → drop n words ≡ [] → length words ≤ n
none_left words n e = omega (arith, ap length e, length-drop n words)

-- whether the line has more fields is whether a word is left
more_at : (words left : List (List ℕ)) (line : List ℕ) (n : ℕ) (next : Option (ℕ × ℕ)) → drop n words ≡ left → IfNone next (left ≡ [])
    → IfSome next (λ w. left ≡ part line w.0 w.1 ∷ words_of (drop w.1 line))
    → IsTrue (is_some next) ↔ (n < length words)
more_at words left line n None is none some = (λ e. absurd (cc), λ lt. let le = none_left words n (is ∙ none) in absurd (omega arith))
more_at words left line n (Some w) is none some = (λ e. more_left words n _ _ (is ∙ some), λ lt. refl)

pub more_is : (words left : List (List ℕ)) (line : List ℕ) (n m : ℕ) (next : Option (ℕ × ℕ)) (b : Bool) → n ≡ m → b ≡ is_some next → drop n words ≡ left
    → IfNone next (left ≡ []) → IfSome next (λ w. left ≡ part line w.0 w.1 ∷ words_of (drop w.1 line))
    → IsTrue b ↔ (m < length words)
more_is words left line n m next b same is left_is none some =
    subst (λ (k : ℕ). IsTrue b ↔ (k < length words)) same
    (subst (λ (t : Bool). IsTrue t ↔ (n < length words)) (sym is) (more_at words left line n next left_is none some))

-- a cell that is found in a list
pub cell_found : (fields : List Field) (readings : List Reading) (cells : List Cell) (n : ℕ) → length cells ≤ n → ((k : ℕ) (d : Cell) → k < n → CellAt fields readings k (get_or cells k d))
    → (at : ℕ) (cell : Cell) → slice_get cells at ≡ Some cell → CellAt fields readings at cell
cell_found fields readings cells n all each at cell is =
    let lt = slice_get_within cells at cell is in
    subst (λ (c : Cell). CellAt fields readings at c) (get_or_from_slice_get cells at cell cell is) (each at cell (omega arith))

-- the first field without a cell is the bad one
pub bad_at : (form : InputForm) (line : List ℕ) (fields : List Field) (readings found : List Reading) (bad : ℕ) → fields ≡ form.fields → found ≡ readings
    → Reads form line readings
    → ((at : ℕ) → at < bad → (cell : Cell) × CellAt fields found at cell)
    → ((cell : Cell) → ¬ CellAt fields found bad cell)
    → bad < length fields
    → IsBadField form line (bad + 1)
bad_at form line fields readings found bad is same reads before here lt =
    subst (λ (fs : List Field). ((at : ℕ) → at < bad → (cell : Cell) × CellAt fs found at cell) → ((cell : Cell) → ¬ CellAt fs found bad cell) → bad < length fs → IsBadField form line (bad + 1)) (sym is)
    (λ before here lt. record {
      readings = found;
      reads = subst (λ (rs : List Reading). Reads form line rs) (sym same) reads;
      before = λ at under. before at (omega arith);
      here = λ at cell next. subst (λ (k : ℕ). ¬ CellAt form.fields found k cell) (back at bad next) (here cell);
      there = inl (omega arith);
      counted = omega arith;
    })
    before here lt
  where
    back : (at bad : ℕ) → at + 1 ≡ bad + 1 → bad ≡ at
    back at bad e = omega arith

-- past the fields there is no cell
no_cell : (fields : List Field) (readings : List Reading) (at : ℕ) (cell : Cell) → length fields ≤ at → ¬ CellAt fields readings at cell
no_cell fields readings at cell past h =
    subst (λ (o : Option Field). MatchOption o ⊥ (λ field. MatchOption (slice_get readings at) ⊥ (λ reading. CellIs fields readings field reading cell))) (slice_get_past fields at past) h

-- a field too many is the bad one where each field of the form has a cell
pub bad_past : (form : InputForm) (line : List ℕ) (fields : List Field) (readings found : List Reading) (cells : List Cell) → fields ≡ form.fields → found ≡ readings
    → Reads form line readings
    → ((at : ℕ) (cell : Cell) → slice_get cells at ≡ Some cell → CellAt fields found at cell)
    → length cells ≡ length fields
    → length form.fields < length (words_of line)
    → IsBadField form line (length fields + 1)
bad_past form line fields readings found cells is same reads each all more =
    subst (λ (fs : List Field). ((at : ℕ) (cell : Cell) → slice_get cells at ≡ Some cell → CellAt fs found at cell) → length cells ≡ length fs → IsBadField form line (length fs + 1)) (sym is)
    (λ each all. record {
      readings = found;
      reads = subst (λ (rs : List Reading). Reads form line rs) (sym same) reads;
      before = λ at under. (get_or cells at Absent, each at (get_or cells at Absent) (slice_get-get_or cells at Absent (omega arith)));
      here = λ at cell next. no_cell form.fields found at cell (omega arith);
      there = inr (omega arith);
      counted = omega arith;
    })
    each all

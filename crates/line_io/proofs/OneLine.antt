-- A line has one row of cells at most, and none where it has a bad field.
use Rattle.std.proofs.Common.{◌≡◌, ℕ, zero, suc, ◌-◌, ◌<◌, ◌≤◌, ◌⊎◌, inl, inr, Bool as Truth, true, false, List, [], ◌∷◌, Option, Some, None, length, get_or, refl, sym, ◌∙◌, ap, subst, arith}
use Rattle.std.specs.Prelude.{slice_get, MatchOption, position, ◌↔◌}
use Rattle.std.proofs.lemmas.Option.{slice_get_within}
use Rattle.ls_base.specs.declared.Name.{Name}
use Rattle.ls_value.specs.Spelling.{truth_code}
use Rattle.ls_value.proofs.Tokens.{token_unique}
use Rattle.ls_value.specs.declared.leaf.Leaf.{Leaf}
use Rattle.ls_value.specs.declared.leaf.Leaf.TheVariants.{Nil, Int, Bool, Char, Text, Enum, Unit as Nothing}
use Rattle.ls_value.specs.declared.leaf.Shape.{Shape}
use Rattle.line_io.specs.Fields.{Reads, ReadsAs, Spells, IsCase, is_named}
use Rattle.line_io.specs.Cells.{CellAt, CellIs, IsLine, IsBadField}
use Rattle.line_io.specs.Words.{words_of}
use Rattle.line_io.specs.declared.form.InputForm.{InputForm}
use Rattle.line_io.specs.declared.form.Field.{Field}
use Rattle.line_io.specs.declared.form.Reading.{Reading}
use Rattle.line_io.specs.declared.form.Reading.TheVariants.{Dot, Leaf as Holding, Bad}
use Rattle.line_io.specs.declared.form.Cell.{Cell}
use Rattle.line_io.specs.declared.form.Cell.TheVariants.{Absent, NotEmitted, Leaf as Given}

truth_unique : (word : List ℕ) (a b : Truth) → word ≡ truth_code a → word ≡ truth_code b → a ≡ b
truth_unique word true true e f = refl
truth_unique word true false e f = absurd (omega (arith, ap length (sym e ∙ f)))
truth_unique word false true e f = absurd (omega (arith, ap length (sym e ∙ f)))
truth_unique word false false e f = refl

case_at : (names : List (List ℕ)) (word : List ℕ) (cases : Option (List Name)) (p q : ℕ)
    → MatchOption cases ⊥ (λ c. position (is_named names word) c ≡ Some p)
    → MatchOption cases ⊥ (λ c. position (is_named names word) c ≡ Some q)
    → p ≡ q
case_at names word None p q h k = absurd h
case_at names word (Some cases) p q h k = let e = sym h ∙ k in cc

case_unique : (form : InputForm) (word : List ℕ) (shape : Shape) (s t p q : ℕ) → Spells form shape word (Enum s p) → Spells form shape word (Enum t q) → Enum s p ≡ Enum t q
case_unique form word shape s t p q h k =
    let same : t ≡ s = (let e = h.0 in let f = k.0 in cc) in
    let place : p ≡ q = case_at form.names word (slice_get form.cases s) p q h.1 (subst (λ (n : ℕ). IsCase form n q word) same k.1) in
    cc

-- a word spells one leaf of a shape at most
pub spells_unique : (form : InputForm) (shape : Shape) (word : List ℕ) (a b : Leaf) → Spells form shape word a → Spells form shape word b → a ≡ b
spells_unique form shape word Nil b h k = absurd h
spells_unique form shape word (Int m) Nil h k = absurd k
spells_unique form shape word (Int m) (Int n) h k = ap Int (h.2 ∙ sym k.2)
spells_unique form shape word (Int m) _ h k = let e = h.0 in let f = k.0 in cc
spells_unique form shape word (Bool m) Nil h k = absurd k
spells_unique form shape word (Bool m) (Bool n) h k = ap Bool (truth_unique word m n h.1 k.1)
spells_unique form shape word (Bool m) _ h k = let e = h.0 in let f = k.0 in cc
spells_unique form shape word (Char m) Nil h k = absurd k
spells_unique form shape word (Char m) (Char n) h k = ap (λ (xs : List ℕ). Char (get_or xs 0 0)) (token_unique 39 (m ∷ []) (n ∷ []) word h.1 k.1)
spells_unique form shape word (Char m) _ h k = let e = h.0 in let f = k.0 in cc
spells_unique form shape word (Text m) Nil h k = absurd k
spells_unique form shape word (Text m) (Text n) h k = ap Text (token_unique 34 m n word h.1 k.1)
spells_unique form shape word (Text m) _ h k = let e = h.0 in let f = k.0 in cc
spells_unique form shape word (Enum s p) Nil h k = absurd k
spells_unique form shape word (Enum s p) (Enum t q) h k = case_unique form word shape s t p q h k
spells_unique form shape word (Enum s p) _ h k = let e = h.0 in let f = k.0 in cc
spells_unique form shape word Nothing Nil h k = absurd k
spells_unique form shape word Nothing Nothing h k = refl
spells_unique form shape word Nothing _ h k = let e = h.0 in let f = k.0 in cc

-- a word reads in one way
reads_once : (form : InputForm) (shape : Shape) (word : Option (List ℕ)) (a b : Reading) → ReadsAs form shape word a → ReadsAs form shape word b → a ≡ b
reads_once form shape None Dot b h k = absurd (cc)
reads_once form shape None (Holding l) b h k = absurd h
reads_once form shape None Bad Dot h k = absurd (cc)
reads_once form shape None Bad (Holding l) h k = absurd k
reads_once form shape None Bad Bad h k = refl
reads_once form shape (Some w) Dot Dot h k = refl
reads_once form shape (Some w) Dot (Holding l) h k = absurd (k.0 (cc))
reads_once form shape (Some w) Dot Bad h k = absurd (k.0 (cc))
reads_once form shape (Some w) (Holding l) Dot h k = absurd (h.0 (cc))
reads_once form shape (Some w) (Holding l) (Holding m) h k = ap Holding (spells_unique form shape w l m h.1 k.1)
reads_once form shape (Some w) (Holding l) Bad h k = absurd (k.1 l h.1)
reads_once form shape (Some w) Bad Dot h k = absurd (h.0 (cc))
reads_once form shape (Some w) Bad (Holding l) h k = absurd (h.1 l k.1)
reads_once form shape (Some w) Bad Bad h k = refl

-- a place in a list has an item
get_none : {X : Type 0} (xs : List X) (k : ℕ) → k < length xs → slice_get xs k ≡ None → ⊥
get_none [] k lt e = omega arith
get_none (x ∷ xs) zero lt e = cc
get_none (x ∷ xs) (suc k) lt e = get_none xs k (omega arith) e

-- lists of the same items are the same
same_items : {X : Type 0} (xs ys : List X) → length xs ≡ length ys → ((k : ℕ) → k < length xs → slice_get xs k ≡ slice_get ys k) → xs ≡ ys
same_items [] [] e h = refl
same_items [] (y ∷ ys) e h = absurd (omega arith)
same_items (x ∷ xs) [] e h = absurd (omega arith)
same_items (x ∷ xs) (y ∷ ys) e h =
    let first : x ≡ y = (let f = h 0 (omega arith) in cc) in
    let rest : xs ≡ ys = same_items xs ys (omega arith) (λ k lt. h (suc k) (omega arith)) in
    cc

once_at : (form : InputForm) (field : Option Field) (word : Option (List ℕ)) (x y : Option Reading) → (field ≡ None → ⊥)
    → MatchOption field (Unit {0}) (λ f. MatchOption x ⊥ (λ r. ReadsAs form f.shape word r))
    → MatchOption field (Unit {0}) (λ f. MatchOption y ⊥ (λ r. ReadsAs form f.shape word r))
    → x ≡ y
once_at form None word x y some h k = absurd (some refl)
once_at form (Some f) word None y some h k = absurd h
once_at form (Some f) word (Some r) None some h k = absurd k
once_at form (Some f) word (Some r) (Some s) some h k = ap Some (reads_once form f.shape word r s h k)

-- the fields of a line read in one way
pub reads_unique : (form : InputForm) (line : List ℕ) (xs ys : List Reading) → Reads form line xs → Reads form line ys → xs ≡ ys
reads_unique form line xs ys h k =
    same_items xs ys (h.all ∙ sym k.all)
    (λ at lt. once_at form (slice_get form.fields at) (slice_get (words_of line) at) (slice_get xs at) (slice_get ys at)
    (get_none form.fields at (let e = h.all in omega arith)) (h.each at) (k.each at))

cell_once : (fields : List Field) (readings : List Reading) (field : Field) (reading : Reading) (a b : Cell)
    → CellIs fields readings field reading a → CellIs fields readings field reading b → a ≡ b
cell_once fields readings field reading Absent Absent h k = refl
cell_once fields readings field reading Absent NotEmitted h k = absurd (h.0 k.0)
cell_once fields readings field reading Absent (Given l) h k = absurd (h.0 k.0)
cell_once fields readings field reading NotEmitted Absent h k = absurd (k.0 h.0)
cell_once fields readings field reading NotEmitted NotEmitted h k = refl
cell_once fields readings field reading NotEmitted (Given l) h k = absurd (k.1 h.1)
cell_once fields readings field reading (Given l) Absent h k = absurd (k.0 h.0)
cell_once fields readings field reading (Given l) NotEmitted h k = absurd (h.1 k.1)
cell_once fields readings field reading (Given l) (Given m) h k = let e = h.2 in let f = k.2 in cc

cell_at_once : (fields : List Field) (readings : List Reading) (field : Option Field) (reading : Option Reading) (a b : Cell)
    → MatchOption field ⊥ (λ f. MatchOption reading ⊥ (λ r. CellIs fields readings f r a))
    → MatchOption field ⊥ (λ f. MatchOption reading ⊥ (λ r. CellIs fields readings f r b))
    → a ≡ b
cell_at_once fields readings None reading a b h k = absurd h
cell_at_once fields readings (Some f) None a b h k = absurd h
cell_at_once fields readings (Some f) (Some r) a b h k = cell_once fields readings f r a b h k

cells_once : (fields : List Field) (readings : List Reading) (at : ℕ) (a b : Option Cell) → (a ≡ None → ⊥) → (b ≡ None → ⊥)
    → MatchOption a (Unit {0}) (λ cell. CellAt fields readings at cell)
    → MatchOption b (Unit {0}) (λ cell. CellAt fields readings at cell)
    → a ≡ b
cells_once fields readings at None b s t h k = absurd (s refl)
cells_once fields readings at (Some a) None s t h k = absurd (t refl)
cells_once fields readings at (Some a) (Some b) s t h k =
    ap Some (cell_at_once fields readings (slice_get fields at) (slice_get readings at) a b h k)

-- a line gives one row of cells
pub one_line : (form : InputForm) (line : List ℕ) (a b : List Cell) → IsLine form line a → IsLine form line b → a ≡ b
one_line form line a b h k =
    let same = reads_unique form line k.readings h.readings k.reads h.reads in
    same_items a b (h.all ∙ sym k.all)
    (λ at lt. cells_once form.fields h.readings at (slice_get a at) (slice_get b at)
    (get_none a at lt) (get_none b at (let e = h.all in let f = k.all in omega arith)) (h.each at)
    (subst (λ (rs : List Reading). MatchOption (slice_get b at) (Unit {0}) (λ cell. CellAt form.fields rs at cell)) same (k.each at)))

no_cell_at : (fields : List Field) (readings : List Reading) (at : ℕ) (cell : Option Cell) → (cell ≡ None → ⊥) → ((c : Cell) → ¬ CellAt fields readings at c)
    → MatchOption cell (Unit {0}) (λ c. CellAt fields readings at c)
    → ⊥
no_cell_at fields readings at None some none h = some refl
no_cell_at fields readings at (Some c) some none h = none c h

in_form : (number fields words : ℕ) → words ≤ fields → (number ≤ fields) ⊎ (number ≤ words) → number ≤ fields
in_form number fields words few (inl h) = h
in_form number fields words few (inr h) = omega arith

-- a line that gives cells has no bad field
pub not_both : (form : InputForm) (line : List ℕ) (cells : List Cell) (number : ℕ) → IsBadField form line number → IsLine form line cells → ⊥
not_both form line cells number bad spelled =
    let same = reads_unique form line spelled.readings bad.readings spelled.reads bad.reads in
    let within = in_form number (length form.fields) (length (words_of line)) spelled.few bad.there in
    let at : ℕ = number - 1 in
    no_cell_at form.fields bad.readings at (slice_get cells at)
    (get_none cells at (let e = spelled.all in let c = bad.counted in omega arith))
    (λ c. bad.here at c (let p = bad.counted in omega arith))
    (subst (λ (rs : List Reading). MatchOption (slice_get cells at) (Unit {0}) (λ cell. CellAt form.fields rs at cell)) same (spelled.each at))

leaf_cell : (fields : List Field) (readings : List Reading) (field : Option Field) (reading : Option Reading) (cell : Option Cell) (leaf : Leaf) → (cell ≡ None → ⊥)
    → MatchOption cell (Unit {0}) (λ c. MatchOption field ⊥ (λ f. MatchOption reading ⊥ (λ r. CellIs fields readings f r c)))
    → reading ≡ Some (Holding leaf)
    → cell ≡ Some (Given leaf)
leaf_cell fields readings field reading None leaf some h e = absurd (some refl)
leaf_cell fields readings None reading (Some c) leaf some h e = absurd h
leaf_cell fields readings (Some f) None (Some c) leaf some h e = absurd h
leaf_cell fields readings (Some f) (Some r) (Some Absent) leaf some h e = let d = h.1 in cc
leaf_cell fields readings (Some f) (Some r) (Some NotEmitted) leaf some h e = let d = h.2 in cc
leaf_cell fields readings (Some f) (Some r) (Some (Given l)) leaf some h e = let d = h.2 in cc

cell_leaf : (fields : List Field) (readings : List Reading) (field : Option Field) (reading : Option Reading) (cell : Option Cell) (leaf : Leaf)
    → MatchOption cell (Unit {0}) (λ c. MatchOption field ⊥ (λ f. MatchOption reading ⊥ (λ r. CellIs fields readings f r c)))
    → cell ≡ Some (Given leaf)
    → reading ≡ Some (Holding leaf)
cell_leaf fields readings field reading None leaf h e = absurd (cc)
cell_leaf fields readings None reading (Some c) leaf h e = absurd h
cell_leaf fields readings (Some f) None (Some c) leaf h e = absurd h
cell_leaf fields readings (Some f) (Some r) (Some Absent) leaf h e = absurd (cc)
cell_leaf fields readings (Some f) (Some r) (Some NotEmitted) leaf h e = absurd (cc)
cell_leaf fields readings (Some f) (Some r) (Some (Given l)) leaf h e = let d = h.2 in cc

-- in a line that is spelled, a field holds a leaf where its cell does
pub holds_leaf : (form : InputForm) (line : List ℕ) (cells : List Cell) (spelled : IsLine form line cells) (at : ℕ) (leaf : Leaf)
    → (slice_get spelled.readings at ≡ Some (Holding leaf)) ↔ (slice_get cells at ≡ Some (Given leaf))
holds_leaf form line cells spelled at leaf = (
  λ e.
      let lt = slice_get_within spelled.readings at (Holding leaf) e in
      leaf_cell form.fields spelled.readings (slice_get form.fields at) (slice_get spelled.readings at) (slice_get cells at) leaf
      (get_none cells at (let a = spelled.all in let b = spelled.reads.all in omega arith)) (spelled.each at) e,
  λ e. cell_leaf form.fields spelled.readings (slice_get form.fields at) (slice_get spelled.readings at) (slice_get cells at) leaf (spelled.each at) e,
)

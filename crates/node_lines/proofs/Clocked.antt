-- The cell of a parameter is absent exactly where its clock is off.
use Rattle.std.specs.Prelude.{◌≡◌, refl, ℕ, zero, suc, ◌+◌, ◌<◌, ◌==◌, ◌&&◌, ◌⊎◌, Bool as Truth, true, false, not, if◌then◌else◌, List, [], ◌∷◌, ◌++◌, map, length, drop, slice_get, Option, None, Some, unwrap_or, MatchOption}
use Rattle.std.proofs.Common.{ap, ap₂, sym, ◌∙◌, subst, arith, inl, inr}
use Rattle.std.proofs.lemmas.Bool.{false≢true, and_parts}
use Rattle.std.proofs.lemmas.Bool.Decides.{nat_tests, Decides-int_eq}
use Rattle.std.proofs.lemmas.Slice.Eq.{bytes_eq-Decides}
use Rattle.std.proofs.lemmas.List.Elements.{All-nil, All-cons, All-head, All-tail}
use Rattle.std.proofs.lemmas.List.{length-map}
use Rattle.std.proofs.lemmas.Option.{slice_get_within, slice_get-get_or}
use Rattle.ls_base.specs.declared.Name.{Name}
use Rattle.ls_value.specs.declared.leaf.Leaf.{Leaf}
use Rattle.ls_value.specs.declared.leaf.Leaf.TheVariants.{Nil, Int, Bool, Char, Text, Enum, Unit as Nothing}
use Rattle.ls_value.specs.declared.leaf.Shape.{Shape}
use Rattle.line_io.specs.declared.form.Cell.{Cell}
use Rattle.line_io.specs.declared.form.Cell.TheVariants.{Absent, NotEmitted, Leaf as Given}
use Rattle.line_io.specs.declared.form.Field.{Field}
use Rattle.line_io.specs.declared.form.InputForm.{InputForm}
use Rattle.line_io.specs.declared.form.Reading.{Reading}
use Rattle.line_io.specs.declared.form.Reading.TheVariants.{Leaf as Holding}
use Rattle.line_io.specs.Cells.{IsOn, IsLine, CellAt, CellIs}
use Rattle.line_io.specs.Fields.{ReadsAs}
use Rattle.line_io.specs.Words.{words_of}
use Rattle.ls_terms.specs.declared.types.TypeTerm.{TypeTerm}
use Rattle.ls_terms.specs.declared.clocks.ClockTerm.{ClockTerm}
use Rattle.ls_sig.specs.declared.sigs.Sig.{Sig}
use Rattle.kahn_model.specs.declared.cell.Cell.{Cell as Argument}
use Rattle.node_lines.specs.Leaves.{is_unit, leaves, input_leaves, field_of}
use Rattle.node_lines.specs.Form.{asked, field, fields_from, fields, signal_number, signals_with, form}
use Rattle.node_lines.specs.Arguments.{is_same, holds, is_on, by_clock, by_fields, argument_of, argument}
use Rattle.node_lines.specs.Laws.{is_absent, AbsentByClock}
use Rattle.node_lines.proofs.Lists.{found}

-- ---- leaves

eqb_same : (x y : ℕ) → (x == y) ≡ true → x ≡ y
eqb_same x y e = grind (arith, e)

eqb_refl : (x : ℕ) → (x == x) ≡ true
eqb_refl x = grind (arith, nat_tests)

same : (a b : Leaf) → is_same a b ≡ true → a ≡ b
same (Int a) (Int b) e = ap Int ((Decides-int_eq a b).0 e)
same (Bool true) (Bool true) e = refl
same (Bool false) (Bool false) e = refl
same (Char a) (Char b) e = ap Char (eqb_same a b e)
same (Text a) (Text b) e = ap Text ((bytes_eq-Decides a b).0 e)
same (Enum t a) (Enum u b) e = by_name (t == u) refl e
  where
    by_name : (s : Truth) → (t == u) ≡ s → unwrap_or (if s then Some (a == b) else None) false ≡ true → Enum t a ≡ Enum u b
    by_name true same e' = ap₂ Enum (eqb_same t u same) (eqb_same a b e')
    by_name false same e' = absurd (false≢true e')
same Nothing Nothing e = refl
same _ _ e = absurd (false≢true e)

itself : (a : Leaf) → (a ≡ Nil → ⊥) → is_same a a ≡ true
itself Nil n = absurd (n refl)
itself (Int a) n = (Decides-int_eq a a).1 refl
itself (Bool true) n = refl
itself (Bool false) n = refl
itself (Char a) n = eqb_refl a
itself (Text a) n = (bytes_eq-Decides a a).1 refl
itself (Enum t a) n = ap (λ s. unwrap_or (if s then Some (a == a) else None) false) (eqb_refl t) ∙ eqb_refl a
itself Nothing n = refl

-- ---- lists

pub get_behind : {A : Type 0} (xs ys : List A) (i : ℕ) → slice_get (xs ++ ys) (length xs + i) ≡ slice_get ys i
get_behind [] ys i = ap (slice_get ys) (omega arith)
get_behind (x ∷ xs) ys i = ap (slice_get (x ∷ (xs ++ ys))) (one_behind (length xs) i) ∙ get_behind xs ys i
  where
    one_behind : (n i : ℕ) → suc n + i ≡ suc (n + i)
    one_behind n i = omega arith

pub dropped : {A : Type 0} (xs : List A) (i : ℕ) (x : A) → slice_get xs i ≡ Some x → (rest : List A) × (drop i xs ≡ x ∷ rest)
dropped [] i x e = absurd (cc)
dropped (y ∷ xs) zero x e = let d : y ≡ x = cc in (xs, ap (λ z. z ∷ xs) d)
dropped (y ∷ xs) (suc i) x e = dropped xs i x e

-- ---- a field of a line that is spelled

pub record AtField (fields : List Field) (readings : List Reading) (at : ℕ) (c : Cell) : Type 0 where
  pub field : Field
  pub reading : Reading
  pub has : slice_get fields at ≡ Some field
  pub reads : slice_get readings at ≡ Some reading
  pub is : CellIs fields readings field reading c

opened : (fields : List Field) (readings : List Reading) (at : ℕ) (c : Cell) (o : Option Field) (q : Option Reading) → slice_get fields at ≡ o → slice_get readings at ≡ q
    → MatchOption o ⊥ (λ f. MatchOption q ⊥ (λ r. CellIs fields readings f r c)) → AtField fields readings at c
opened fields readings at c (Some f) (Some r) e g is = record { field = f; reading = r; has = e; reads = g; is = is }
opened fields readings at c (Some f) None e g is = absurd is
opened fields readings at c None q e g is = absurd is

no_nil : (form : InputForm) (shape : Shape) (word : Option (List ℕ)) → ReadsAs form shape word (Holding Nil) → ⊥
no_nil form shape (Some w) h = h.1
no_nil form shape None h = h

read_no_nil : (form : InputForm) (text : List ℕ) (readings : List Reading) (at : ℕ) (f : Option Field) (r : Option Reading) → r ≡ Some (Holding Nil) → (fd : Field) → f ≡ Some fd
    → MatchOption f (Unit {0}) (λ field. MatchOption r ⊥ (λ reading. ReadsAs form field.shape (slice_get (words_of text) at) reading)) → ⊥
read_no_nil form text readings at (Some f) (Some r) e fd g h = let d : r ≡ Holding Nil = cc in no_nil form f.shape (slice_get (words_of text) at) (subst (λ z. ReadsAs form f.shape (slice_get (words_of text) at) z) d h)
read_no_nil form text readings at (Some f) None e fd g h = absurd h
read_no_nil form text readings at None r e fd g h = absurd (cc)

module _ (form : InputForm) (text : List ℕ) (line : List Cell) (h : IsLine form text line) where
  abbrev At : ℕ → Cell → Type 0
  At at c = AtField form.fields h.readings at c

  cell_at : (at : ℕ) (c : Cell) → slice_get line at ≡ Some c → At at c
  cell_at at c e = opened form.fields h.readings at c _ _ refl refl (subst (λ o. MatchOption o (Unit {0}) (λ cell. CellAt form.fields h.readings at cell)) e (h.each at))

  -- a field holds a leaf in its cell where it reads so
  holding_cell : (at : ℕ) (leaf : Leaf) → slice_get line at ≡ Some (Given leaf) → slice_get h.readings at ≡ Some (Holding leaf)
  holding_cell at leaf e = let a = cell_at at (Given leaf) e in a.reads ∙ ap Some a.is.2

  by_cell : (at : ℕ) (leaf : Leaf) (c : Cell) → At at c → slice_get h.readings at ≡ Some (Holding leaf) → c ≡ Given leaf
  by_cell at leaf Absent a e = absurd (cc (a.reads, e, a.is.1))
  by_cell at leaf NotEmitted a e = absurd (cc (a.reads, e, a.is.2))
  by_cell at leaf (Given own) a e = let g : own ≡ leaf = cc (a.reads, e, a.is.2) in ap Given g

  cell_there : (at : ℕ) (leaf : Leaf) → slice_get h.readings at ≡ Some (Holding leaf) → (c : Cell) × (slice_get line at ≡ Some c)
  cell_there at leaf e = (_, slice_get-get_or line at Absent (omega (arith, slice_get_within h.readings at (Holding leaf) e, h.reads.all, h.all)))

  holding_read : (at : ℕ) (leaf : Leaf) → slice_get h.readings at ≡ Some (Holding leaf) → slice_get line at ≡ Some (Given leaf)
  holding_read at leaf e = let c = cell_there at leaf e in c.1 ∙ ap Some (by_cell at leaf c.0 (cell_at at c.0 c.1) e)

  not_nil : (at : ℕ) → slice_get h.readings at ≡ Some (Holding Nil) → ⊥
  not_nil at e =
      let a = cell_at at (Given Nil) (holding_read at Nil e) in
      read_no_nil form text h.readings at (slice_get form.fields at) (slice_get h.readings at) e a.field a.has (h.reads.each at)

  -- ---- clocks

  held_cell : (c : Option Cell) (leaf : Leaf) → holds c leaf ≡ true → c ≡ Some (Given leaf)
  held_cell (Some (Given own)) leaf e = ap (λ z. Some (Given z)) (same own leaf e)
  held_cell (Some Absent) leaf e = absurd (false≢true e)
  held_cell (Some NotEmitted) leaf e = absurd (false≢true e)
  held_cell None leaf e = absurd (false≢true e)

  abbrev Asks : ℕ × Leaf → Type 0
  Asks a = slice_get h.readings a.0 ≡ Some (Holding a.1)

  on_read : (on : List (ℕ × Leaf)) → is_on line on ≡ true → IsOn h.readings on
  on_read [] e = All-nil Asks
  on_read (a ∷ on) e =
      let p = and_parts (holds (slice_get line a.0) a.1) (is_on line on) e in
      All-cons Asks a on (holding_cell a.0 a.1 (held_cell (slice_get line a.0) a.1 p.0)) (on_read on p.1)

  read_on : (on : List (ℕ × Leaf)) → IsOn h.readings on → is_on line on ≡ true
  read_on [] o = refl
  read_on (a ∷ on) o =
      let r = All-head Asks a on o in
      let held : holds (slice_get line a.0) a.1 ≡ true = ap (λ z. holds z a.1) (holding_read a.0 a.1 r) ∙ itself a.1 (λ z. not_nil a.0 (r ∙ ap (λ y. Some (Holding y)) z)) in
      ap (λ z. z && is_on line on) held ∙ read_on on (All-tail Asks a on o)

  -- ---- a parameter with a field

  off : (on : List (ℕ × Leaf)) → (IsOn h.readings on → ⊥) → true ≡ not (is_on line on)
  off on n = by (is_on line on) refl
    where
      by : (b : Truth) → is_on line on ≡ b → true ≡ not b
      by true e = absurd (n (on_read on e))
      by false e = refl

  on_of : (at : ℕ) (c : Cell) (a : At at c) (f : Field) (on : List (ℕ × Leaf)) → slice_get form.fields at ≡ Some f → f.on ≡ on → a.field.on ≡ on
  on_of at c a f on e g = let d : a.field ≡ f = cc (a.has, e) in ap (λ (z : Field). z.on) d ∙ g

  -- the cell that the first field gives
  by_first : (t : TypeTerm) (at : ℕ) (on : List (ℕ × Leaf)) (c : Cell) (rest : List Cell) → At at c → (f : Field) → slice_get form.fields at ≡ Some f → f.on ≡ on
      → is_absent (by_fields t (c ∷ rest)) ≡ not (is_on line on)
  by_first t at on Absent rest a f e g = off on (λ o. a.is.0 (subst (IsOn h.readings) (sym (on_of at Absent a f on e g)) o))
  by_first t at on NotEmitted rest a f e g = sym (ap not (read_on on (subst (IsOn h.readings) (on_of at NotEmitted a f on e g) a.is.0)))
  by_first t at on (Given leaf) rest a f e g = sym (ap not (read_on on (subst (IsOn h.readings) (on_of at (Given leaf) a f on e g) a.is.0)))

  by_field : (t : TypeTerm) (at : ℕ) (on : List (ℕ × Leaf)) (f : Field) → slice_get form.fields at ≡ Some f → f.on ≡ on → is_absent (by_fields t (drop at line)) ≡ not (is_on line on)
  by_field t at on f e g =
      let lt : at < length line = omega (arith, slice_get_within form.fields at f e, h.all) in
      let c = slice_get-get_or line at Absent lt in
      let d = dropped line at _ c in
      ap (λ z. is_absent (by_fields t z)) d.1 ∙ by_first t at on _ d.0 (cell_at at _ c) f e g

-- ---- where the fields of a parameter stand

pub first_field : (params ts : List TypeTerm) (cks : List ClockTerm) (before m : ℕ) (t : TypeTerm) (ck : ClockTerm) → slice_get ts m ≡ Some t → slice_get cks m ≡ Some ck
    → (shape : Shape) (rest : List Shape) → input_leaves t ≡ shape ∷ rest
    → (f : Field) × (slice_get (fields_from params ts cks before) (field_of ts m) ≡ Some f) × (f.on ≡ asked params ck)
first_field params [] cks before m t ck e g shape rest is = absurd (cc)
first_field params (u ∷ ts) [] before m t ck e g shape rest is = absurd (cc)
first_field params (u ∷ ts) (d ∷ cks) before zero t ck e g shape rest is =
    let same_type : u ≡ t = cc in
    let same_clock : d ≡ ck = cc in
    let own = field (asked params d) (signal_number u before) in
    (own shape, ap (λ xs. slice_get (map own xs ++ fields_from params ts cks (signals_with u before)) 0) (ap input_leaves same_type ∙ is), ap (asked params) same_clock)
first_field params (u ∷ ts) (d ∷ cks) before (suc m) t ck e g shape rest is =
    let r = first_field params ts cks (signals_with u before) m t ck e g shape rest is in
    let own = field (asked params d) (signal_number u before) in
    let more = fields_from params ts cks (signals_with u before) in
    (r.0, ap (λ n. slice_get (map own (input_leaves u) ++ more) (n + field_of ts m)) (sym (length-map (input_leaves u) own)) ∙ get_behind (map own (input_leaves u)) more (field_of ts m) ∙ r.1, r.2)

-- ---- the law

by_clock_absent : (b : Truth) → is_absent (by_clock b) ≡ not b
by_clock_absent true = refl
by_clock_absent false = refl

module _ (cases : List (List Name)) (names : List (List ℕ)) (sig : Sig) (text : List ℕ) (line : List Cell) (h : IsLine (form cases names sig) text line)
    (m : ℕ) (t : TypeTerm) (ck : ClockTerm) (e : slice_get sig.params m ≡ Some t) (g : slice_get sig.clocks m ≡ Some ck) where
  abbrev on : Truth
  on = is_on line (asked sig.params ck)

  abbrev cells : List Cell
  cells = drop (field_of sig.params m) line

  of_unit : is_unit t ≡ true → is_absent (argument_of t on cells) ≡ not on
  of_unit u = ap (λ b. is_absent (if b then by_clock on else by_fields t cells)) u ∙ by_clock_absent on

  with_leaf : (shapes : List Shape) → leaves t ≡ shapes → 0 < length shapes → is_unit t ≡ false → is_absent (argument_of t on cells) ≡ not on
  with_leaf [] s lt u = absurd (omega (arith, lt))
  with_leaf (shape ∷ rest) s lt u =
      let f = first_field sig.params sig.params sig.clocks 0 m t ck e g shape rest (ap (λ b. if b then [] else leaves t) u ∙ s) in
      ap (λ b. is_absent (if b then by_clock on else by_fields t cells)) u
      ∙ by_field (form cases names sig) text line h t (field_of sig.params m) (asked sig.params ck) f.0 f.1 f.2

  by_type : (b : Truth) → is_unit t ≡ b → (is_unit t ≡ true) ⊎ (0 < length (leaves t)) → is_absent (argument_of t on cells) ≡ not on
  by_type true u p = of_unit u
  by_type false u (inl v) = absurd (false≢true (sym u ∙ v))
  by_type false u (inr lt) = with_leaf (leaves t) refl lt u

  pub absent_by_clock : (is_unit t ≡ true) ⊎ (0 < length (leaves t)) → (c : Argument) → argument sig.params sig.clocks m line ≡ Some c → is_absent c ≡ not on
  absent_by_clock p c is =
      let made : Some (argument_of t on cells) ≡ argument sig.params sig.clocks m line = found sig.params sig.clocks m t ck (asked sig.params ck) (field_of sig.params m) line e g refl refl in
      let own : argument_of t on cells ≡ c = cc in
      ap is_absent (sym own) ∙ by_type (is_unit t) refl p

pub by_clocks : AbsentByClock
by_clocks cases names sig line fits m t ck e g p c is = absent_by_clock cases names sig fits.0 line fits.1 m t ck e g p c is

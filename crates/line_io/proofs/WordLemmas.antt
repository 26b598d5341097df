-- Lemmas on how a line is cut into fields.
use Rattle.std.proofs.Common.{◌≡◌, ℕ, ◌+◌, ◌<◌, ◌≤◌, Bool, true, false, List, [], ◌∷◌, ◌++◌, length, take, drop, get_or, refl, sym, ◌∙◌, ap, arith, append_assoc, add-one, drop-cons}
use Rattle.std.specs.Prelude.{if◌then◌else◌, ◌==◌, ◌||◌}
use Rattle.std.proofs.lemmas.List.{append-nil, take_all, drop_all, take_more}
use Rattle.line_io.specs.Line.{onto}
use Rattle.line_io.specs.Places.{inside, ends}
use Rattle.line_io.specs.Words.{is_blank, opened, quoted_on, words_of, words_from}
use Rattle.line_io.specs.declared.words.Place.{Place}
use Rattle.line_io.specs.declared.words.Place.TheVariants.{Gap, Bare, Quoted, Escaped}

-- a place in a field
abbrev pub IsInside : Place → Type 0
IsInside Gap = ⊥
IsInside Bare = Unit {0}
IsInside (Quoted quote) = Unit {0}
IsInside (Escaped quote) = Unit {0}

-- some bytes put before the first of the fields
abbrev pub joined : List ℕ → List (List ℕ) → List (List ℕ)
joined xs [] = xs ∷ []
joined xs (word ∷ words) = (xs ++ word) ∷ words

-- one byte more
joined_onto : (xs : List ℕ) (b : ℕ) (words : List (List ℕ)) → joined xs (onto b words) ≡ joined (xs ++ b ∷ []) words
joined_onto xs b [] = refl
joined_onto xs b (word ∷ words) = ap (λ (w : List ℕ). w ∷ words) (sym (append_assoc xs (b ∷ []) word))

-- a byte that does not end the field is put before what follows
goes_on : (place : Place) (b : ℕ) (bytes : List ℕ) → IsInside place → ends place b ≡ false → words_from place (b ∷ bytes) ≡ onto b (words_from (inside place b) bytes)
goes_on Gap b bytes h e = absurd h
goes_on Bare b bytes h e = rw e refl
goes_on (Quoted quote) b bytes h e = refl
goes_on (Escaped quote) b bytes h e = refl

-- a byte that ends the field
stops : (place : Place) (b : ℕ) (bytes : List ℕ) → IsInside place → ends place b ≡ true → words_from place (b ∷ bytes) ≡ [] ∷ words_of (b ∷ bytes)
stops Gap b bytes h e = absurd h
stops Bare b bytes h e = rw e refl
stops (Quoted quote) b bytes h e = absurd (cc)
stops (Escaped quote) b bytes h e = absurd (cc)

-- nothing follows
at_end : (place : Place) → IsInside place → words_from place [] ≡ [] ∷ []
at_end Gap h = absurd h
at_end Bare h = refl
at_end (Quoted quote) h = refl
at_end (Escaped quote) h = refl

-- what stands at a place, and behind it
pub drop_next : (text : List ℕ) (i : ℕ) → i < length text → drop i text ≡ get_or text i 0 ∷ drop (i + 1) text
drop_next text i lt = rw add-one (drop-cons text i 0 lt)

-- the scan of a field: what it has passed stands before what is left
pub record Scanned (text : List ℕ) (i : ℕ) (place : Place) : Type 0 where
  pub inner : IsInside place
  pub words : words_of text ≡ joined (take i text) (words_from place (drop i text))

opened_inside : (b : ℕ) → IsInside (opened b)
opened_inside b = by_test (b == 39 || b == 34)
  where
    by_test : (t : Bool) → IsInside (if t then Quoted b else Bare)
    by_test true = tt
    by_test false = tt

quoted_inside : (quote b : ℕ) → IsInside (quoted_on quote b)
quoted_inside quote b = by_test (b == 92) (b == quote)
  where
    by_test : (t u : Bool) → IsInside (if t then Escaped quote else (if u then Bare else Quoted quote))
    by_test true u = tt
    by_test false true = tt
    by_test false false = tt

stays_inside : (place : Place) (b : ℕ) → IsInside place → IsInside (inside place b)
stays_inside Gap b h = tt
stays_inside Bare b h = tt
stays_inside (Quoted quote) b h = quoted_inside quote b
stays_inside (Escaped quote) b h = tt

scan_words : (text : List ℕ) (b : ℕ) (rest : List ℕ) → text ≡ b ∷ rest → is_blank b ≡ false → words_of text ≡ joined (b ∷ []) (words_from (opened b) rest)
scan_words text b rest is e = ap words_of is ∙ rw e (onto_joined (words_from (opened b) rest))
  where
    onto_joined : (words : List (List ℕ)) → onto b words ≡ joined (b ∷ []) words
    onto_joined [] = refl
    onto_joined (w ∷ ws) = refl

pub scan_first : (text : List ℕ) → 0 < length text → is_blank (get_or text 0 0) ≡ false → Scanned text 1 (opened (get_or text 0 0))
scan_first text some e = record {
  inner = opened_inside (get_or text 0 0);
  words =
      let next = drop_next text 0 some in
      scan_words text (get_or text 0 0) (drop 1 text) next e
      ∙ ap (λ (xs : List ℕ). joined xs (words_from (opened (get_or text 0 0)) (drop 1 text))) (sym (take_more text 0 0 some));
}

pub scan_next : (text : List ℕ) (i : ℕ) (place : Place) → i < length text → ends place (get_or text i 0) ≡ false → Scanned text i place
    → Scanned text (i + 1) (inside place (get_or text i 0))
scan_next text i place lt e so = record {
  inner = stays_inside place (get_or text i 0) so.inner;
  words =
      so.words
      ∙ ap (λ (xs : List ℕ). joined (take i text) (words_from place xs)) (drop_next text i lt)
      ∙ ap (joined (take i text)) (goes_on place (get_or text i 0) (drop (i + 1) text) so.inner e)
      ∙ joined_onto (take i text) (get_or text i 0) (words_from (inside place (get_or text i 0)) (drop (i + 1) text))
      ∙ ap (λ (xs : List ℕ). joined xs (words_from (inside place (get_or text i 0)) (drop (i + 1) text))) (sym (take_more text i 0 lt));
}

-- the field ends before a byte
pub scan_stop : (text : List ℕ) (i : ℕ) (place : Place) → i < length text → ends place (get_or text i 0) ≡ true → Scanned text i place
    → words_of text ≡ take i text ∷ words_of (drop i text)
scan_stop text i place lt e so =
    so.words
    ∙ ap (λ (xs : List ℕ). joined (take i text) (words_from place xs)) (drop_next text i lt)
    ∙ ap (joined (take i text)) (stops place (get_or text i 0) (drop (i + 1) text) so.inner e)
    ∙ ap (λ (xs : List ℕ). xs ∷ words_of (get_or text i 0 ∷ drop (i + 1) text)) (append-nil (take i text))
    ∙ ap (λ (xs : List ℕ). take i text ∷ words_of xs) (sym (drop_next text i lt))

-- the field ends with the text
pub scan_end : (text : List ℕ) (i : ℕ) (place : Place) → length text ≤ i → Scanned text i place → words_of text ≡ take (length text) text ∷ words_of (drop (length text) text)
scan_end text i place all so =
    let none : drop i text ≡ [] = drop_all i text all in
    so.words
    ∙ ap (λ (xs : List ℕ). joined (take i text) (words_from place xs)) none
    ∙ ap (joined (take i text)) (at_end place so.inner)
    ∙ ap (λ (xs : List ℕ). xs ∷ []) (append-nil (take i text) ∙ take_all i text all ∙ sym (take_all (length text) text (omega arith)))
    ∙ ap (λ (xs : List ℕ). take (length text) text ∷ words_of xs) (sym (drop_all (length text) text (omega arith)))

-- blanks at the front make no difference
pub skip_blank : (text : List ℕ) (i : ℕ) → i < length text → is_blank (get_or text i 0) ≡ true → words_of (drop (i + 1) text) ≡ words_of (drop i text)
skip_blank text i lt e = sym (ap words_of (drop_next text i lt) ∙ rw e refl)

-- Lemmas on how a line is cut into words.
use Rattle.std.proofs.Common.{◌≡◌, ℕ, ◌+◌, ◌<◌, ◌≤◌, Bool, true, false, List, [], ◌∷◌, ◌++◌, length, take, drop, get_or, Option, None, Some, Bor, refl, sym, ◌∙◌, ap, append_assoc, add-one, drop-cons}
use Rattle.std.specs.Prelude.{if◌then◌else◌}
use Rattle.std.proofs.lemmas.List.{append-nil, take_all, drop_all, take_more}
use Rattle.line_io.specs.Line.{onto}
use Rattle.step_text.specs.Words.{ends, behind, words_of, words_from, words_left}
use Rattle.step_text.specs.declared.words.Place.{Place}
use Rattle.step_text.specs.declared.words.Place.TheVariants.{Front}

-- some bytes put before the first of the words
abbrev pub put : List ℕ → List (List ℕ) → List (List ℕ)
put xs [] = xs ∷ []
put xs (word ∷ words) = (xs ++ word) ∷ words

put_onto : (xs : List ℕ) (b : ℕ) (words : List (List ℕ)) → put xs (onto b words) ≡ put (xs ++ b ∷ []) words
put_onto xs b [] = refl
put_onto xs b (word ∷ words) = ap (λ (w : List ℕ). w ∷ words) (sym (append_assoc xs (b ∷ []) word))

nothing_onto : (b : ℕ) (words : List (List ℕ)) → put [] (onto b words) ≡ onto b words
nothing_onto b [] = refl
nothing_onto b (word ∷ words) = refl

nothing_put : (place : Place) (bytes : List ℕ) → put [] (words_from place bytes) ≡ words_from place bytes
nothing_put place [] = refl
nothing_put place (b ∷ bytes) = by_test (ends place b)
  where
    by_test : (t : Bool) → put [] (if t then ([] ∷ words_from Front bytes) else onto b (words_from (behind place b) bytes)) ≡ (if t then ([] ∷ words_from Front bytes) else onto b (words_from (behind place b) bytes))
    by_test true = refl
    by_test false = nothing_onto b (words_from (behind place b) bytes)

-- a line has one word at least
some_onto : (b : ℕ) (words : List (List ℕ)) → onto b words ≡ [] → ⊥
some_onto b [] e = cc
some_onto b (word ∷ words) e = cc

pub some_word : (place : Place) (bytes : List ℕ) → words_from place bytes ≡ [] → ⊥
some_word place [] e = cc
some_word place (b ∷ bytes) e = by_test (ends place b) e
  where
    by_test : (t : Bool) → (if t then ([] ∷ words_from Front bytes) else onto b (words_from (behind place b) bytes)) ≡ [] → ⊥
    by_test true e = cc
    by_test false e = some_onto b (words_from (behind place b) bytes) e

-- the scan of a word: what it has passed stands before what is left
pub record Scanned (text : List ℕ) (i : ℕ) (place : Place) : Type 0 where
  pub words : words_of text ≡ put (take i text) (words_from place (drop i text))

drop_next : (text : List ℕ) (i : ℕ) → i < length text → drop i text ≡ get_or text i 0 ∷ drop (i + 1) text
drop_next text i lt = rw add-one (drop-cons text i 0 lt)

goes_on : (place : Place) (b : ℕ) (bytes : List ℕ) → ends place b ≡ false → words_from place (b ∷ bytes) ≡ onto b (words_from (behind place b) bytes)
goes_on place b bytes e = rw e refl

stops : (place : Place) (b : ℕ) (bytes : List ℕ) → ends place b ≡ true → words_from place (b ∷ bytes) ≡ [] ∷ words_of bytes
stops place b bytes e = rw e refl

pub scan_first : (text : List ℕ) → Scanned text 0 Front
scan_first text = record { words = sym (nothing_put Front text) }

pub scan_next : (text : List ℕ) (i : ℕ) (place : Place) → i < length text → ends place (get_or text i 0) ≡ false → Scanned text i place
    → Scanned text (i + 1) (behind place (get_or text i 0))
scan_next text i place lt e so = record {
  words =
      so.words
      ∙ ap (λ (xs : List ℕ). put (take i text) (words_from place xs)) (drop_next text i lt)
      ∙ ap (put (take i text)) (goes_on place (get_or text i 0) (drop (i + 1) text) e)
      ∙ put_onto (take i text) (get_or text i 0) (words_from (behind place (get_or text i 0)) (drop (i + 1) text))
      ∙ ap (λ (xs : List ℕ). put xs (words_from (behind place (get_or text i 0)) (drop (i + 1) text))) (sym (take_more text i 0 lt));
}

-- the word ends before a byte
pub scan_stop : (text : List ℕ) (i : ℕ) (place : Place) → i < length text → ends place (get_or text i 0) ≡ true → Scanned text i place
    → words_of text ≡ take i text ∷ words_of (drop (i + 1) text)
scan_stop text i place lt e so =
    so.words
    ∙ ap (λ (xs : List ℕ). put (take i text) (words_from place xs)) (drop_next text i lt)
    ∙ ap (put (take i text)) (stops place (get_or text i 0) (drop (i + 1) text) e)
    ∙ ap (λ (xs : List ℕ). xs ∷ words_of (drop (i + 1) text)) (append-nil (take i text))

-- the word ends with the text
pub scan_end : (text : List ℕ) (i : ℕ) (place : Place) → length text ≤ i → Scanned text i place → words_of text ≡ text ∷ []
scan_end text i place all so =
    let none : drop i text ≡ [] = drop_all i text all in
    so.words
    ∙ ap (λ (xs : List ℕ). put (take i text) (words_from place xs)) none
    ∙ ap (λ (xs : List ℕ). xs ∷ []) (append-nil (take i text) ∙ take_all i text all)

-- no text is left where no word is
pub nothing_left : (rest : Option (Bor (List ℕ))) → words_left rest ≡ [] → rest ≡ None
nothing_left None e = refl
nothing_left (Some text) e = absurd (some_word Front text.now e)

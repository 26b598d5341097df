-- Lemmas on lines and texts.
use Rattle.std.proofs.Common.{◌≡◌, ℕ, ◌+◌, ◌*◌, ◌≤◌, Bool, true, false, List, [], ◌∷◌, ◌++◌, length, suc, zero, refl, sym, ◌∙◌, ap, arith, subst, append_assoc, length-append, All, if◌then◌else◌}
use Rattle.std.proofs.lemmas.Bool.{eqb-true}
use Rattle.std.proofs.lemmas.List.Elements.{All-append}
use Rattle.line_io.specs.Line.{NoNewline, onto, line_of}
use Rattle.line_io.proofs.LineLemmas.{line_of-cut}
use Rattle.step_text.specs.Entries.{keyword_text, keyword_of, tail_words, entry_words, entry_text, text_of}
use Rattle.step_text.specs.Words.{ends, behind, words_from, words_of, joined}
use Rattle.step_text.specs.declared.words.Place.{Place}
use Rattle.step_text.specs.declared.words.Place.TheVariants.{Front, Bare, Quoted, Escaped}
use Rattle.step_text.specs.declared.entry.Entry.{Entry}
use Rattle.step_text.specs.declared.entry.Keyword.{Keyword}
use Rattle.step_text.specs.declared.entry.Keyword.TheVariants as keyword
use Rattle.step_text.specs.Legal.{IsEntry}
use Rattle.step_text.specs.Next.{Leads, Takes, nothing_read}
use Rattle.step_text.specs.declared.reading.Reading.{Reading}
use Rattle.step_text.proofs.Sizes.{leads_more}
use Rattle.step_text.proofs.WordLemmas.{some_word}

-- ---- the words of a line, joined, are the line

is_space : (place : Place) (b : ℕ) → ends place b ≡ true → b ≡ 32
is_space Front b e = eqb-true b 32 e
is_space Bare b e = eqb-true b 32 e
is_space (Quoted quote) b e = absurd (cc)
is_space (Escaped quote) b e = absurd (cc)

joined_onto : (b : ℕ) (words : List (List ℕ)) → joined (onto b words) ≡ b ∷ joined words
joined_onto b [] = refl
joined_onto b (word ∷ []) = refl
joined_onto b (word ∷ (next ∷ words)) = refl

joined_empty : (words : List (List ℕ)) → (words ≡ [] → ⊥) → joined ([] ∷ words) ≡ 32 ∷ joined words
joined_empty [] some = absurd (some refl)
joined_empty (word ∷ words) some = refl

pub joined_words : (place : Place) (bytes : List ℕ) → joined (words_from place bytes) ≡ bytes
joined_words place [] = refl
joined_words place (b ∷ bytes) = by_test (ends place b) refl (joined_words Front bytes) (joined_words (behind place b) bytes)
  where
    by_test : (t : Bool) → ends place b ≡ t → joined (words_from Front bytes) ≡ bytes → joined (words_from (behind place b) bytes) ≡ bytes
        → joined (if t then ([] ∷ words_from Front bytes) else onto b (words_from (behind place b) bytes)) ≡ b ∷ bytes
    by_test true e front more =
        joined_empty (words_from Front bytes) (some_word Front bytes) ∙ ap (λ (xs : List ℕ). 32 ∷ xs) front
        ∙ ap (λ (c : ℕ). c ∷ bytes) (sym (is_space place b e))
    by_test false e front more = joined_onto b (words_from (behind place b) bytes) ∙ ap (λ (xs : List ℕ). b ∷ xs) more

-- a line that has the words of an entry, and the text of the entry
pub line_text : (line more : List ℕ) (e : Entry) → words_of line ≡ entry_words e → line ++ 10 ∷ more ≡ entry_text e ++ more
line_text line more e h =
    ap (λ (xs : List ℕ). xs ++ 10 ∷ more) (sym (joined_words Front line) ∙ ap joined h) ∙ sym (append_assoc (joined (entry_words e)) (10 ∷ []) more)

-- ---- the first line of a text

no_line : (line more : List ℕ) → NoNewline (line ++ 10 ∷ more) → ⊥
no_line [] more h = h 0 0 (omega arith) refl
no_line (c ∷ line) more h = no_line line more (λ k d lt. h (suc k) d (omega arith))

pub none_ends : (text line more : List ℕ) → NoNewline text → text ≡ line ++ 10 ∷ more → ⊥
none_ends text line more h e = no_line line more (subst NoNewline e h)

pub same_line : (text a x b y : List ℕ) → NoNewline a → NoNewline b → text ≡ a ++ 10 ∷ x → text ≡ b ++ 10 ∷ y → a ≡ b
same_line text a x b y ha hb ea eb = sym (line_of-cut a x ha) ∙ ap line_of (sym ea ∙ eb) ∙ line_of-cut b y hb

-- ---- the number of lines

long_joined : (word : List ℕ) (words : List (List ℕ)) → length word ≤ length (joined (word ∷ words))
long_joined word [] = omega arith
long_joined word (next ∷ words) = omega (arith, length-append {A = ℕ} word (32 ∷ joined (next ∷ words)))

long_keyword : (k : Keyword) → 2 ≤ length (keyword_text k)
long_keyword keyword.Lsc = omega arith
long_keyword keyword.Type = omega arith
long_keyword keyword.Slots = omega arith
long_keyword keyword.Slot = omega arith
long_keyword keyword.In = omega arith
long_keyword keyword.Out = omega arith
long_keyword keyword.Body = omega arith
long_keyword keyword.Code = omega arith
long_keyword keyword.End = omega arith
long_keyword keyword.Const = omega arith
long_keyword keyword.Copy = omega arith
long_keyword keyword.Op = omega arith
long_keyword keyword.Test = omega arith
long_keyword keyword.When = omega arith
long_keyword keyword.Call = omega arith

long_entry : (e : Entry) → 3 ≤ length (entry_text e)
long_entry e =
    let k : 2 ≤ length (keyword_text (keyword_of e)) = long_keyword (keyword_of e) in
    let j : length (keyword_text (keyword_of e)) ≤ length (joined (entry_words e)) = long_joined (keyword_text (keyword_of e)) (tail_words e) in
    omega (arith, length-append {A = ℕ} (joined (entry_words e)) (10 ∷ []))

-- a line has three bytes at least
pub lines_short : (entries : List Entry) → 3 * length entries ≤ length (text_of entries)
lines_short [] = omega arith
lines_short (e ∷ entries) =
    let h : 3 * length entries ≤ length (text_of entries) = lines_short entries in
    let k : 3 ≤ length (entry_text e) = long_entry e in
    omega (arith, length-append {A = ℕ} (entry_text e) (text_of entries))

-- one line more
pub text_more : (entries : List Entry) (e : Entry) → text_of (entries ++ e ∷ []) ≡ text_of entries ++ entry_text e
text_more [] e = append_nil (entry_text e)
  where
    append_nil : (xs : List ℕ) → xs ++ [] ≡ [] ++ xs
    append_nil [] = refl
    append_nil (x ∷ xs) = ap (λ (ys : List ℕ). x ∷ ys) (append_nil xs)
text_more (x ∷ entries) e = ap (λ (ys : List ℕ). entry_text x ++ ys) (text_more entries e) ∙ sym (append_assoc (entry_text x) (text_of entries) (entry_text e))

-- ---- how far a text was read

pub record IsSoFar (bytes : List ℕ) (r : Reading) (rest : List ℕ) (lines : ℕ) : Type 0 where
  pub entries : List Entry
  pub legal : All IsEntry entries
  pub text : bytes ≡ text_of entries ++ rest
  pub leads : Leads nothing_read entries r
  pub count : lines ≡ length entries

pub so_far_first : (bytes : List ℕ) (r : Reading) → r ≡ nothing_read → IsSoFar bytes r bytes 0
so_far_first bytes r e = record { entries = []; legal = λ k d lt. absurd (omega arith); text = refl; leads = sym e; count = refl }

pub so_far_more : (bytes : List ℕ) (old new : Reading) (rest more : List ℕ) (lines : ℕ) (e : Entry) → IsEntry e → rest ≡ entry_text e ++ more → Takes old e new → IsSoFar bytes old rest lines
    → IsSoFar bytes new more (lines + 1)
so_far_more bytes old new rest more lines e legal text t so = record {
  entries = so.entries ++ e ∷ [];
  legal = All-append IsEntry so.entries (e ∷ []) so.legal (one_legal e legal);
  text =
      so.text ∙ ap (λ (xs : List ℕ). text_of so.entries ++ xs) text ∙ sym (append_assoc (text_of so.entries) (entry_text e) more)
      ∙ ap (λ (xs : List ℕ). xs ++ more) (sym (text_more so.entries e));
  leads = leads_more nothing_read so.entries e old new so.leads t;
  count = let one : length (so.entries ++ e ∷ []) ≡ length so.entries + 1 = length-append so.entries (e ∷ []) in let k : lines ≡ length so.entries = so.count in omega arith;
}
  where
    one_legal : (e : Entry) → IsEntry e → All IsEntry (e ∷ [])
    one_legal e h zero d lt = h
    one_legal e h (suc k) d lt = absurd (omega arith)

pub so_far_short : (bytes : List ℕ) (r : Reading) (rest : List ℕ) (lines : ℕ) → IsSoFar bytes r rest lines → 3 * lines ≤ length bytes
so_far_short bytes r rest lines so =
    let h = lines_short so.entries in
    let k : lines ≡ length so.entries = so.count in
    let all : length bytes ≡ length (text_of so.entries) + length rest = ap length so.text ∙ length-append (text_of so.entries) rest in
    omega arith

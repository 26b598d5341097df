-- The keywords by their first letters are the keywords.
use Rattle.std.proofs.Common.{◌≡◌, ℕ, ◌++◌, map, subst, Bool, true, false, cond, List, [], ◌∷◌, Option, Some, None, find, refl, sym, ◌∙◌}
use Rattle.std.specs.Prelude.{◌==◌, ◌&&◌, if◌then◌else◌}
use Rattle.std.specs.Option.{option_map}
use Rattle.std.specs.Str.{bytes_eq}
use Rattle.std.proofs.lemmas.Slice.Eq.{bytes_eq-Decides}
use denote.Ref.{Bor}
use Rattle.ls_ops.specs.declared.kinds.Op.{Op}
use Rattle.ls_ops.specs.Signature.{is_prefix, symbol_of}
use Rattle.ls_ops.specs.Symbols.{all_operators}
use Rattle.ls_lexer.specs.declared.token.Fixed.{Fixed}
use Rattle.ls_lexer.specs.declared.keyword.Keyword.{Keyword}
use Rattle.ls_lexer.specs.declared.keyword.Keyword.TheVariants.{Fixed as Only, Prefix as Before}
use Rattle.ls_lexer.specs.Keywords.{words, word_in, is_prefix_word, keyword_or, keyword_of}
use Rattle.ls_lexer.specs.Letters.{Letter, letters, entries, first_in, keyword_in, keyword_from, by_letter}

text_is : (xs ys : List ℕ) → bytes_eq xs ys ≡ true → xs ≡ ys
text_is xs ys h = (bytes_eq-Decides xs ys).0 h

pub first_in-entries : (rows : List (Bor (List ℕ) × Keyword)) (word : List ℕ) → first_in rows word ≡ keyword_in (entries rows) word
first_in-entries [] word = refl
first_in-entries (row ∷ rest) word =
    elim (bytes_eq row.0.now word) as (λ b. option_map (λ row. row.1) (cond b (Some row) (find (λ row. bytes_eq row.0.now word) rest)) ≡ option_map (λ row. row.1) (cond b (Some (row.0.now, row.1)) (find (λ row. bytes_eq row.0 word) (entries rest)))) [
      | true ↦ refl
      | false ↦ first_in-entries rest word
    ]

-- a look-up gives for each row's word what the row has
abbrev Agrees : (List ℕ → Option Keyword) → List (List ℕ × Keyword) → Type 0
Agrees look [] = Unit {0}
Agrees look (row ∷ rest) = (look row.0 ≡ Some row.1) × Agrees look rest

-- then it gives for each word what a look-up in the rows gives
agrees_at : (look : List ℕ → Option Keyword) (rows : List (List ℕ × Keyword)) (word : List ℕ) (k : Keyword) → Agrees look rows → keyword_in rows word ≡ Some k → look word ≡ Some k
agrees_at look [] word k all h = absurd (cc)
agrees_at look (row ∷ rest) word k all h = at (agrees_at look rest word k all.1) (bytes_eq row.0 word) refl h
  where
    at : (keyword_in rest word ≡ Some k → look word ≡ Some k) → (b : Bool) → bytes_eq row.0 word ≡ b → option_map (λ row. row.1) (cond b (Some row) (find (λ row. bytes_eq row.0 word) rest)) ≡ Some k → look word ≡ Some k
    at later true same h = subst (λ w. look w ≡ Some k) (text_is row.0 word same) (all.0 ∙ h)
    at later false differ h = later h

-- the operators among some that are written before their operands, as rows
abbrev before_rows : List Op → List (List ℕ × Keyword)
before_rows [] = []
before_rows (op ∷ rest) = if is_prefix op then (symbol_of op, Before op) ∷ before_rows rest else before_rows rest

-- the keywords in the order of their definition
abbrev rows_of : List Op → List (List ℕ × Fixed) → List (List ℕ × Keyword)
rows_of ops rows = before_rows ops ++ map (λ row. (row.0, Only row.1)) rows

only_words : (word : List ℕ) (rows : List (List ℕ × Fixed)) → option_map Only (word_in rows word) ≡ keyword_in (rows_of [] rows) word
only_words word [] = refl
only_words word (row ∷ rest) =
    elim (bytes_eq row.0 word) as (λ b. option_map Only (option_map (λ row. row.1) (cond b (Some row) (find (λ row. bytes_eq row.0 word) rest))) ≡ option_map (λ row. row.1) (cond b (Some (row.0, Only row.1)) (find (λ row. bytes_eq row.0 word) (rows_of [] rest)))) [
      | true ↦ refl
      | false ↦ only_words word rest
    ]

in_order : (word : List ℕ) (ops : List Op) (rows : List (List ℕ × Fixed)) → keyword_or (find (is_prefix_word word) ops) (word_in rows word) ≡ keyword_in (rows_of ops rows) word
in_order word [] rows = only_words word rows
in_order word (op ∷ rest) rows = elim (is_prefix op) as (λ before. Step before (bytes_eq (symbol_of op) word)) [
  | false ↦ in_order word rest rows
  | true ↦ elim (bytes_eq (symbol_of op) word) as (λ same. keyword_or (cond same (Some op) (find (is_prefix_word word) rest)) (word_in rows word) ≡ option_map (λ row. row.1) (cond same (Some (symbol_of op, Before op)) (find (λ row. bytes_eq row.0 word) (rows_of rest rows)))) [
    | true ↦ refl
    | false ↦ in_order word rest rows
  ]
]
  where
    Step : Bool → Bool → Type 0
    Step before same = keyword_or (cond (before && same) (Some op) (find (is_prefix_word word) rest)) (word_in rows word) ≡ keyword_in ((if before then (symbol_of op, Before op) ∷ before_rows rest else before_rows rest) ++ map (λ row. (row.0, Only row.1)) rows) word

abbrev every_row : List (List ℕ × Keyword)
every_row = rows_of all_operators words

-- a look-up gives for each letter's rows what they have
abbrev AgreesOn : (List ℕ → Option Keyword) → List Letter → Type 0
AgreesOn look [] = Unit {0}
AgreesOn look (letter ∷ rest) = Agrees look letter.1 × AgreesOn look rest

agrees_from : (look : List ℕ → Option Keyword) (all : List Letter) (c : ℕ) (word : List ℕ) (k : Keyword) → AgreesOn look all → keyword_from all c word ≡ Some k → look word ≡ Some k
agrees_from look [] c word k agree h = absurd (cc)
agrees_from look (letter ∷ rest) c word k agree h = at (agrees_from look rest c word k agree.1) (c == letter.0) h
  where
    at : (keyword_from rest c word ≡ Some k → look word ≡ Some k) → (b : Bool) → (if b then keyword_in letter.1 word else keyword_from rest c word) ≡ Some k → look word ≡ Some k
    at later true h = agrees_at look letter.1 word k agree.0 h
    at later false h = later h

agrees_by_letter : (look : List ℕ → Option Keyword) (word : List ℕ) (k : Keyword) → AgreesOn look letters → by_letter word ≡ Some k → look word ≡ Some k
agrees_by_letter look [] k agree h = absurd (cc)
agrees_by_letter look (c ∷ cs) k agree h = agrees_from look letters c (c ∷ cs) k agree h

rows_by_letter : Agrees by_letter every_row
rows_by_letter = (refl, (refl, (refl, (refl, (refl, (refl, (refl, (refl, (refl, (refl, (refl, (refl, (refl, (refl, (refl, (refl, (refl, (refl, (refl, (refl, (refl, (refl, (refl, (refl, (refl, (refl, (refl, (refl, (refl, (refl, (refl, (refl, (refl, (refl, (refl, (refl, (refl, (refl, (refl, (refl, (refl, (refl, (refl, (refl, tt))))))))))))))))))))))))))))))))))))))))))))

letters_in_rows : AgreesOn (keyword_in every_row) letters
letters_in_rows = ((refl, (refl, tt)), ((refl, (refl, tt)), ((refl, (refl, tt)), ((refl, (refl, (refl, (refl, tt)))), ((refl, (refl, tt)), ((refl, (refl, (refl, (refl, (refl, tt))))), ((refl, (refl, tt)), ((refl, (refl, (refl, (refl, (refl, tt))))), ((refl, (refl, tt)), ((refl, (refl, tt)), ((refl, (refl, tt)), ((refl, (refl, (refl, tt))), ((refl, tt), ((refl, (refl, (refl, tt))), ((refl, (refl, tt)), ((refl, (refl, (refl, (refl, tt)))), ((refl, tt), tt)))))))))))))))))

one_answer : (x y : Option Keyword) → ((k : Keyword) → x ≡ Some k → y ≡ Some k) → ((k : Keyword) → y ≡ Some k → x ≡ Some k) → x ≡ y
one_answer None None f g = refl
one_answer (Some k) None f g = sym (f k refl)
one_answer x (Some k) f g = g k refl

pub by_letter-keyword_of : (word : List ℕ) → by_letter word ≡ keyword_of word
by_letter-keyword_of word =
    one_answer (by_letter word) (keyword_in every_row word)
    (λ k h. agrees_by_letter (keyword_in every_row) word k letters_in_rows h)
    (λ k h. agrees_at by_letter every_row word k rows_by_letter h)
    ∙ sym (in_order word all_operators words)

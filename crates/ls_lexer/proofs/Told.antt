-- What stands at the front of a text where its piece is of a kind.
use Rattle.std.proofs.Common.{◌≡◌, ℕ, suc, ◌+◌, ◌<◌, ◌≤◌, ◌^◌, lit<, Bool, true, false, ◌==◌, ◌&&◌, if◌then◌else◌, List, [], ◌∷◌, take, drop, Option, Some, None, Result, Ok, Err, OnOk, encode_utf8_all, refl, sym, ap, subst, ◌∙◌, arith}
use Rattle.std.specs.Prelude.{ℤ, pos, neg_ℤ, nat_lt, FitsSigned, SomeIff, MatchOption}
use Rattle.std.specs.Char.{digit_value}
use Rattle.std.specs.Str.Parse.{AllDigits, IsNumeral, digits_value, starts_with_minus}
use Rattle.std.proofs.lemmas.Bool.Decides.{nat_tests}
use Rattle.std.proofs.lemmas.Str.{encodes-IsAscii}
use Rattle.std.proofs.lemmas.Fmt.{IsAscii-from_digits}
use Rattle.ls_base.specs.declared.Line.{Line}
use Rattle.ls_value.specs.Reading.{digits_part, int_value, IsIntText, IsToken}
use Rattle.ls_lexer.specs.declared.token.Fixed.{Fixed}
use Rattle.ls_lexer.specs.declared.token.Fixed.TheVariants.{Underscore}
use Rattle.ls_lexer.specs.declared.fault.LexFault.{LexFault}
use Rattle.ls_lexer.specs.declared.fault.LexFault.TheVariants.{Bad, OpenComment}
use Rattle.ls_lexer.specs.declared.piece.Kind.{Kind}
use Rattle.ls_lexer.specs.declared.piece.Kind.TheVariants.{Blank, Comment, Word, Number, Char, Text, Symbol}
use Rattle.ls_lexer.specs.declared.piece.Piece.{Piece}
use Rattle.ls_lexer.specs.Characters.{is_blank, is_digit, begins_word, continues_word, front_len}
use Rattle.ls_lexer.specs.Keywords.{symbol_of_one, symbol_of_two}
use Rattle.ls_lexer.specs.Pieces.{behind, closing_len, comment_len, piece, piece_or, word_piece, symbol_piece, symbol_at, begins_comment, piece_at}
use Rattle.ls_lexer.specs.Lexing.{Adds, HasCharacters}
use Rattle.ls_lexer.specs.declared.token.Token.TheVariants.{Int}
use Rattle.ls_lexer.specs.declared.token.Tokens.{Tokens}
use Rattle.ls_lexer.proofs.Quotes.{token_from}
use mir.Syntax.{w64}

-- a fact of a kind, for the kinds that are told by what stands at the front
abbrev Tells : Kind → List ℕ → ℕ → Type 0
Tells Number text len = (c : ℕ) × (cs : List ℕ) × (text ≡ c ∷ cs) × (is_digit c ≡ true) × (len ≡ 1 + front_len is_digit cs)
Tells Text text len = (c : ℕ) × (cs : List ℕ) × (n : ℕ) × (text ≡ c ∷ cs) × (c ≡ 34) × (closing_len 34 false cs ≡ Some n) × (len ≡ 1 + n)
Tells Blank text len = Unit {0}
Tells Comment text len = Unit {0}
Tells Word text len = Unit {0}
Tells Char text len = Unit {0}
Tells (Symbol symbol) text len = Unit {0}

abbrev TellsPiece : List ℕ → Piece → Type 0
TellsPiece text p = Tells p.kind text p.len

same_piece : (text : List ℕ) (q p : Piece) → ◌≡◌ {A = Result Piece LexFault} (Ok q) (Ok p) → TellsPiece text q → TellsPiece text p
same_piece text q p e h = let same : q ≡ p = cc in subst (TellsPiece text) same h

word_tells : (lone : Bool) (more : ℕ) (text : List ℕ) → TellsPiece text (if lone then piece (Symbol Underscore) 1 else piece Word (1 + more))
word_tells true more text = tt
word_tells false more text = tt

symbol_tells : (line : Line) (two one : Option Fixed) (text : List ℕ) (p : Piece) → symbol_piece line two one ≡ Ok p → TellsPiece text p
symbol_tells line (Some two) one text p e = same_piece text (piece (Symbol two) 2) p e tt
symbol_tells line None (Some one) text p e = same_piece text (piece (Symbol one) 1) p e tt
symbol_tells line None None text p e = absurd (cc)

symbol_at_tells : (line : Line) (rest text : List ℕ) (p : Piece) → symbol_at line rest ≡ Ok p → TellsPiece text p
symbol_at_tells line [] text p e = absurd (cc)
symbol_at_tells line (c ∷ []) text p e = symbol_tells line None (symbol_of_one c) text p e
symbol_at_tells line (c ∷ d ∷ cs) text p e = symbol_tells line (symbol_of_two c d) (symbol_of_one c) text p e

char_tells : (f : LexFault) (o : Option ℕ) (text : List ℕ) (p : Piece) → piece_or f Char o ≡ Ok p → TellsPiece text p
char_tells f None text p e = absurd (cc)
char_tells f (Some n) text p e = same_piece text (piece Char n) p e tt

comment_tells : (f : LexFault) (o : Option ℕ) (text : List ℕ) (p : Piece) → piece_or f Comment o ≡ Ok p → TellsPiece text p
comment_tells f None text p e = absurd (cc)
comment_tells f (Some n) text p e = same_piece text (piece Comment n) p e tt

text_tells : (f : LexFault) (o : Option ℕ) (c : ℕ) (cs : List ℕ) (p : Piece) → closing_len 34 false cs ≡ o → c ≡ 34 → piece_or f Text (behind 1 o) ≡ Ok p → TellsPiece (c ∷ cs) p
text_tells f None c cs p is at e = absurd (cc)
text_tells f (Some n) c cs p is at e = same_piece (c ∷ cs) (piece Text (1 + n)) p e (c, cs, n, refl, at, is, refl)

-- one of seven answers, by the first test that passes
chosen : (b w d q s m : Bool) (B W N Q S C Y : Result Piece LexFault) (text : List ℕ) (p : Piece)
    → (b ≡ true → B ≡ Ok p → TellsPiece text p) → (w ≡ true → W ≡ Ok p → TellsPiece text p) → (d ≡ true → N ≡ Ok p → TellsPiece text p)
    → (q ≡ true → Q ≡ Ok p → TellsPiece text p) → (s ≡ true → S ≡ Ok p → TellsPiece text p) → (m ≡ true → C ≡ Ok p → TellsPiece text p)
    → (Y ≡ Ok p → TellsPiece text p)
    → (if b then B else (if w then W else (if d then N else (if q then Q else (if s then S else (if m then C else Y)))))) ≡ Ok p → TellsPiece text p
chosen true w d q s m B W N Q S C Y text p hb hw hd hq hs hm hy e = hb refl e
chosen false true d q s m B W N Q S C Y text p hb hw hd hq hs hm hy e = hw refl e
chosen false false true q s m B W N Q S C Y text p hb hw hd hq hs hm hy e = hd refl e
chosen false false false true s m B W N Q S C Y text p hb hw hd hq hs hm hy e = hq refl e
chosen false false false false true m B W N Q S C Y text p hb hw hd hq hs hm hy e = hs refl e
chosen false false false false false true B W N Q S C Y text p hb hw hd hq hs hm hy e = hm refl e
chosen false false false false false false B W N Q S C Y text p hb hw hd hq hs hm hy e = hy e

is_number : (a b : ℕ) → (a == b) ≡ true → a ≡ b
is_number a b h = grind (arith, nat_tests)

told : (line : Line) (text : List ℕ) (p : Piece) → piece_at line text ≡ Ok p → TellsPiece text p
told line [] p e = absurd (cc)
told line (c ∷ cs) p e =
    chosen (is_blank c) (begins_word c) (is_digit c) (c == 39) (c == 34) (begins_comment (c ∷ cs))
    (Ok (piece Blank 1)) (Ok (word_piece c (front_len continues_word cs))) (Ok (piece Number (1 + front_len is_digit cs)))
    (piece_or (Bad line) Char (behind 1 (closing_len 39 false cs))) (piece_or (Bad line) Text (behind 1 (closing_len 34 false cs)))
    (piece_or (OpenComment line) Comment (comment_len (c ∷ cs))) (symbol_at line (c ∷ cs)) (c ∷ cs) p
    (λ t h. same_piece (c ∷ cs) (piece Blank 1) p h tt)
    (λ t h. same_piece (c ∷ cs) (word_piece c (front_len continues_word cs)) p h (word_tells (c == 95 && front_len continues_word cs == 0) (front_len continues_word cs) (c ∷ cs)))
    (λ t h. same_piece (c ∷ cs) (piece Number (1 + front_len is_digit cs)) p h (c, cs, refl, t, refl))
    (λ t h. char_tells (Bad line) (behind 1 (closing_len 39 false cs)) (c ∷ cs) p h)
    (λ t h. text_tells (Bad line) (closing_len 34 false cs) c cs p refl (is_number c 34 t) h)
    (λ t h. comment_tells (OpenComment line) (comment_len (c ∷ cs)) (c ∷ cs) p h)
    (λ h. symbol_at_tells line (c ∷ cs) (c ∷ cs) p h)
    e

one_and : (n : ℕ) → 1 + n ≡ suc n
one_and n = omega arith

-- a string's spelling is a token of some characters
pub text_piece : (line : Line) (text : List ℕ) (p : Piece) → piece_at line text ≡ Ok p → p.kind ≡ Text
    → HasCharacters (take p.len text)
text_piece line text p e k =
    let K : Kind → Type 0 = λ kind. Tells kind text p.len in
    let h = subst K k (told line text p e) in
    let c = h.0 in
    let rest = h.1 in
    let n = h.2 in
    let spelling : take p.len text ≡ 34 ∷ take n rest = ap (λ k. take k text) (h.6 ∙ one_and n) ∙ ap (λ xs. take (suc n) xs) h.3 ∙ ap (λ x. x ∷ take n rest) h.4 in
    let P : List ℕ → Type 0 = λ xs. (cs : List ℕ) × IsToken 34 cs (encode_utf8_all xs) in
    subst P (sym spelling) (token_from 34 n rest (lit< tt) h.5)

digit_small : (c : ℕ) → is_digit c ≡ true → digit_value c < 10
digit_small c h = let in_range : 48 ≤ c = grind (arith, nat_tests) in let below : c ≤ 57 = grind (arith, nat_tests) in grind (arith, nat_tests)

front_digits : (cs : List ℕ) → AllDigits 10 (take (front_len is_digit cs) cs)
front_digits [] = tt
front_digits (c ∷ cs) =
    (elim (is_digit c) as (λ b. is_digit c ≡ b → AllDigits 10 (take (if b then 1 + front_len is_digit cs else 0) (c ∷ cs))) [
      | true ↦ λ t. let P : ℕ → Type 0 = λ n. AllDigits 10 (take n (c ∷ cs)) in subst P (sym (one_and (front_len is_digit cs))) (digit_small c t, front_digits cs)
      | false ↦ λ t. tt
    ]) refl

-- a number's spelling is digits
pub number_piece : (line : Line) (text : List ℕ) (p : Piece) → piece_at line text ≡ Ok p → p.kind ≡ Number → IsNumeral 10 (take p.len text)
number_piece line text p e k =
    let K : Kind → Type 0 = λ kind. Tells kind text p.len in
    let h = subst K k (told line text p e) in
    let n = front_len is_digit h.1 in
    let spelling : take p.len text ≡ h.0 ∷ take n h.1 = ap (λ k. take k text) (h.4 ∙ one_and n) ∙ ap (λ xs. take (suc n) xs) h.2 in
    subst (IsNumeral 10) (sym spelling) (omega arith, (digit_small h.0 h.3, front_digits h.1))

digits_bytes : (ds : List ℕ) → IsNumeral 10 ds → encode_utf8_all ds ≡ ds
digits_bytes ds h = encodes-IsAscii ds (IsAscii-from_digits ds h.1)

no_minus_byte : (d : ℕ) → digit_value d < 10 → (d == 45) ≡ false
no_minus_byte d h = by (d == 45) refl
  where
    by : (b : Bool) → (d == 45) ≡ b → (d == 45) ≡ false
    by true e = let P : ℕ → Type 0 = λ x. digit_value x < 10 in let big : digit_value 45 < 10 = subst P (is_number d 45 e) h in absurd (omega (arith, big))
    by false e = e

no_minus : (ds : List ℕ) → IsNumeral 10 ds → starts_with_minus ds ≡ false
no_minus [] h = absurd (omega (arith, h.0))
no_minus (d ∷ ds) h = let small : digit_value d < 10 = h.1.0 in no_minus_byte d small

value_of_digits : (ds : List ℕ) → IsNumeral 10 ds → int_value ds ≡ pos (digits_value 10 ds)
value_of_digits ds h =
    let e = no_minus ds h in
    λ i. if e i then neg_ℤ (pos (digits_value 10 (if e i then drop 1 ds else ds))) else pos (digits_value 10 (if e i then drop 1 ds else ds))

part_of_digits : (ds : List ℕ) → IsNumeral 10 ds → digits_part ds ≡ ds
part_of_digits ds h = let e = no_minus ds h in λ i. if e i then drop 1 ds else ds

fitting : (n : ℕ) → FitsSigned w64 (pos n) → n ≤ 9223372036854775807
fitting n h = let below : n < 2 ^ 63 = h.sfits in omega arith

is_below : (a b : ℕ) → nat_lt a b ≡ true → a < b
is_below a b h = grind (arith, nat_tests)

is_above : (a b : ℕ) → nat_lt a b ≡ false → b ≤ a
is_above a b h = grind (arith, nat_tests)

not_fitting : (n : ℕ) → (FitsSigned w64 (pos n) → ⊥) → 9223372036854775807 < n
not_fitting n h = by (nat_lt n (2 ^ 63)) refl
  where
    by : (b : Bool) → nat_lt n (2 ^ 63) ≡ b → 9223372036854775807 < n
    by true e = absurd (h (record { sfits = is_below n (2 ^ 63) e }))
    by false e = let above : 2 ^ 63 ≤ n = is_above n (2 ^ 63) e in omega arith

of_digits : (ds : List ℕ) (o : Option ℤ) → IsNumeral 10 ds → SomeIff o (IsIntText ds) (int_value ds)
    → MatchOption o (9223372036854775807 < digits_value 10 ds) (λ v. (digits_value 10 ds ≤ 9223372036854775807) × (v ≡ pos (digits_value 10 ds)))
of_digits ds (Some v) h r = (
  fitting (digits_value 10 ds) (subst (FitsSigned w64) (value_of_digits ds h) r.0.1),
  r.1 ∙ value_of_digits ds h,
)
of_digits ds None h r = not_fitting (digits_value 10 ds) (λ fits. r (
  subst (IsNumeral 10) (sym (part_of_digits ds h)) h,
  subst (FitsSigned w64) (sym (value_of_digits ds h)) fits,
))

-- what is read of digits is their value, where it is within 64 bits
pub number_read : (ds bytes : List ℕ) (o : Option ℤ) → IsNumeral 10 ds → bytes ≡ encode_utf8_all ds → SomeIff o (IsIntText bytes) (int_value bytes)
    → MatchOption o (9223372036854775807 < digits_value 10 ds) (λ v. (digits_value 10 ds ≤ 9223372036854775807) × (v ≡ pos (digits_value 10 ds)))
number_read ds bytes o h e r =
    let S : List ℕ → Type 0 = λ xs. SomeIff o (IsIntText xs) (int_value xs) in
    of_digits ds o h (subst S (e ∙ digits_bytes ds h) r)

-- a token that is added is the number's
pub number_added : {A : Type 0} (r : Result A LexFault) (line : Line) (u v : ℤ) (ds : List ℕ) (old new : Tokens) → OnOk r (Adds line (Int u) old new) → u ≡ v
    → (digits_value 10 ds ≤ 9223372036854775807) × (v ≡ pos (digits_value 10 ds))
    → OnOk r ((digits_value 10 ds ≤ 9223372036854775807) × Adds line (Int (pos (digits_value 10 ds))) old new)
number_added (Ok x) line u v ds old new h e k = let P : ℤ → Type 0 = λ z. Adds line (Int z) old new in (k.0, subst P (e ∙ k.1) h)
number_added (Err f) line u v ds old new h e k = tt

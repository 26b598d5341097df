-- The tokens of a file, or the first fault in it.
use Rattle.std.specs.Prelude.{◌≡◌, ℕ, zero, suc, ◌+◌, ◌<◌, ◌≤◌, ◌⊎◌, Bool, false, if◌then◌else◌, List, [], ◌∷◌, ◌++◌, length, take, drop, slice_get, Option, Some, None, Ok, Err, codes, encode_utf8_all, pos, All}
use Rattle.std.specs.Str.{IsUtf8, IsValidUpTo, chars}
use Rattle.ls_base.specs.declared.Line.{Line}
use Rattle.ls_base.specs.declared.Name.{Name}
use Rattle.ls_base.specs.declared.TheConstants.Name.{FALSE, TRUE}
use Rattle.ls_base.specs.Names.{with_name}
use Rattle.std.specs.Str.Parse.{digits_value}
use Rattle.ls_value.specs.Reading.{IsToken}
use Rattle.ls_lexer.specs.declared.token.Token.{Token}
use Rattle.ls_lexer.specs.declared.token.Token.TheVariants.{Id, Cons, Int, Char, Text, Prefix, Fixed}
use Rattle.ls_lexer.specs.declared.token.Tokens.{Tokens}
use Rattle.ls_lexer.specs.declared.fault.LexFault.{LexFault}
use Rattle.ls_lexer.specs.declared.fault.LexFault.TheVariants.{NotUtf8, Bad, LongText, WideInt}
use Rattle.ls_lexer.specs.declared.keyword.Keyword.{Keyword}
use Rattle.ls_lexer.specs.declared.keyword.Keyword.TheVariants.{Fixed as Only, Prefix as Before}
use Rattle.ls_lexer.specs.declared.piece.Kind.{Kind}
use Rattle.ls_lexer.specs.declared.piece.Kind.TheVariants.{Blank, Comment, Word, Number, Char as Quoted, Text as LongQuoted, Symbol}
use Rattle.ls_lexer.specs.declared.piece.Piece.{Piece}
use Rattle.ls_lexer.specs.Characters.{is_capital, newlines}
use Rattle.ls_lexer.specs.Keywords.{keyword_of}
use Rattle.ls_lexer.specs.Pieces.{piece_at}

abbrev pub begins_with_capital : List ℕ → Bool
begins_with_capital [] = false
begins_with_capital (c ∷ cs) = is_capital c

-- one token more, and the same names
abbrev pub Adds : Line → Token → Tokens → Tokens → Type 0
Adds line token old new = (new.list ≡ old.list ++ (line, token) ∷ []) × (new.names ≡ old.names)

-- one name more: the spelling has a number, and goes last among the names where it is a new one
abbrev pub AddsName : Line → List ℕ → Tokens → Tokens → Type 0
AddsName line spelling old new = (name : Name)
    × (new.names ≡ with_name old.names (encode_utf8_all spelling))
    × (slice_get new.names name.0 ≡ Some (encode_utf8_all spelling))
    × (new.list ≡ old.list ++ (line, if begins_with_capital spelling then Cons name else Id name) ∷ [])

-- a word is the keyword that it spells, else an identifier or a constructor
abbrev pub AddsWord : Option Keyword → Line → List ℕ → Tokens → Tokens → Type 0
AddsWord (Some (Only word)) line spelling old new = Adds line (Fixed word) old new
AddsWord (Some (Before op)) line spelling old new = Adds line (Prefix op) old new
AddsWord None line spelling old new = AddsName line spelling old new

-- what a piece of this kind and spelling adds to the tokens
abbrev pub AddsPiece : Kind → Line → List ℕ → Tokens → Tokens → Type 0
AddsPiece Blank line spelling old new = new ≡ old
AddsPiece Comment line spelling old new = new ≡ old
AddsPiece Word line spelling old new = AddsWord (keyword_of (encode_utf8_all spelling)) line spelling old new
AddsPiece Number line spelling old new = (digits_value 10 spelling ≤ 9223372036854775807) × Adds line (Int (pos (digits_value 10 spelling))) old new
AddsPiece Quoted line spelling old new = (c : ℕ) × IsToken 39 (c ∷ []) (encode_utf8_all spelling) × Adds line (Char c) old new
AddsPiece LongQuoted line spelling old new = (t : List ℕ) × IsToken 34 t (encode_utf8_all spelling) × (length t ≤ 63) × Adds line (Text t) old new
AddsPiece (Symbol symbol) line spelling old new = Adds line (Fixed symbol) old new

-- a string's spelling stands for some characters
abbrev pub HasCharacters : List ℕ → Type 0
HasCharacters spelling = (cs : List ℕ) × IsToken 34 cs (encode_utf8_all spelling)

-- a piece of this kind and spelling is no token: the integer is over the greatest one, there is not
-- one character between the quotes, or the string has more than 63
abbrev pub IsNoToken : Kind → Line → List ℕ → LexFault → Type 0
IsNoToken Number line spelling fault = (9223372036854775807 < digits_value 10 spelling) × (fault ≡ WideInt line)
IsNoToken Quoted line spelling fault = ((c : ℕ) → ¬ IsToken 39 (c ∷ []) (encode_utf8_all spelling)) × (fault ≡ Bad line)
IsNoToken LongQuoted line spelling fault = ((cs : List ℕ) × IsToken 34 cs (encode_utf8_all spelling) × (63 < length cs)) × (fault ≡ LongText line)
IsNoToken Blank line spelling fault = ⊥
IsNoToken Comment line spelling fault = ⊥
IsNoToken Word line spelling fault = ⊥
IsNoToken (Symbol symbol) line spelling fault = ⊥

-- how far a text is read: the line that what is left begins on, what is left, and the tokens so far
pub record State : Type 0 where
  pub line : Line
  pub left : List ℕ
  pub tokens : Tokens

-- the piece at the front of what is left is read, with all that it adds
abbrev pub ReadsPiece : Line → List ℕ → ℕ → Tokens → Tokens → Type 0
ReadsPiece line left len old new = (piece : Piece)
    × (piece_at line left ≡ Ok piece)
    × (piece.len ≡ len)
    × AddsPiece piece.kind line (take len left) old new

abbrev pub IsStep : State → State → Type 0
IsStep s t = (len : ℕ)
    × ReadsPiece s.line s.left len s.tokens t.tokens
    × (t.left ≡ drop len s.left)
    × (t.line.0 ≡ s.line.0 + newlines (take len s.left))

-- so many pieces lead from one state to another
abbrev pub Leads : ℕ → State → State → Type 0
Leads zero s t = s ≡ t
Leads (suc n) s t = (m : State) × IsStep s m × Leads n m t

-- before the first piece: line 1, and the names `false` and `true`
abbrev pub start : List ℕ → State
start text = record {
  line = record { 0 = 1 };
  left = text;
  tokens = record { list = []; names = codes "false" ∷ codes "true" ∷ [] };
}

-- the text is a row of pieces, and these are its tokens
abbrev pub HasTokens : List ℕ → Tokens → Type 0
HasTokens text tokens = (n : ℕ) × (end : State) × Leads n (start text) end × (end.left ≡ []) × (end.tokens ≡ tokens)

-- no piece stands at the front of what is left, or one that is none of a token
abbrev pub FaultsHere : Line → List ℕ → LexFault → Type 0
FaultsHere line left fault = (piece_at line left ≡ Err fault)
    ⊎ ((piece : Piece) × (piece_at line left ≡ Ok piece) × IsNoToken piece.kind line (take piece.len left) fault)

-- a row of pieces leads to a place that has the fault
abbrev pub HasFault : List ℕ → LexFault → Type 0
HasFault text fault = (n : ℕ) × (end : State) × Leads n (start text) end × (0 < length end.left) × FaultsHere end.line end.left fault

-- where a token has a name, the name's number has a spelling
abbrev pub IsNamed : List (List ℕ) → Token → Type 0
IsNamed names (Id name) = (spelling : List ℕ) × (slice_get names name.0 ≡ Some spelling)
IsNamed names (Cons name) = (spelling : List ℕ) × (slice_get names name.0 ≡ Some spelling)
IsNamed names (Int n) = Unit {0}
IsNamed names (Char c) = Unit {0}
IsNamed names (Text t) = Unit {0}
IsNamed names (Prefix op) = Unit {0}
IsNamed names (Fixed word) = Unit {0}

-- `false` and `true` are the first names, and each token's name is one of them all
abbrev pub HasNames : Tokens → Type 0
HasNames tokens = (slice_get tokens.names FALSE.0 ≡ Some (codes "false"))
    × (slice_get tokens.names TRUE.0 ≡ Some (codes "true"))
    × All (λ entry. IsNamed tokens.names entry.1) tokens.list

-- the tokens of a file
abbrev pub Lexes : List ℕ → Tokens → Type 0
Lexes bytes tokens = IsUtf8 bytes × HasTokens (chars bytes) tokens

-- the bytes are no UTF-8, and this is the line of the first one that begins no character
abbrev pub IsNotUtf8 : List ℕ → LexFault → Type 0
IsNotUtf8 bytes fault = (n : ℕ) × (line : Line) × IsValidUpTo bytes n × (line.0 ≡ 1 + newlines (take n bytes)) × (fault ≡ NotUtf8 line)

-- the first fault of a file
abbrev pub IsLexFault : List ℕ → LexFault → Type 0
IsLexFault bytes fault = IsNotUtf8 bytes fault ⊎ (IsUtf8 bytes × HasFault (chars bytes) fault)

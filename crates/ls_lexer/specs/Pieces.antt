-- The piece at the front of a text: a blank, a comment, or the longest spelling of a token.
use Rattle.std.specs.Prelude.{ℕ, ◌+◌, ◌-◌, Bool, true, false, ◌==◌, ◌&&◌, nat_le, is_some, if◌then◌else◌, List, [], ◌∷◌, Option, Some, None, Result, Ok, Err}
use Rattle.std.specs.Option.{option_map}
use Rattle.ls_base.specs.declared.Line.{Line}
use Rattle.ls_value.specs.Reading.{escape_value, plain_value}
use Rattle.ls_lexer.specs.declared.token.Fixed.{Fixed}
use Rattle.ls_lexer.specs.declared.token.Fixed.TheVariants.{Underscore}
use Rattle.ls_lexer.specs.declared.fault.LexFault.{LexFault}
use Rattle.ls_lexer.specs.declared.fault.LexFault.TheVariants.{Bad, OpenComment}
use Rattle.ls_lexer.specs.declared.scan.Turn.{Turn}
use Rattle.ls_lexer.specs.declared.scan.Turn.TheVariants.{Opens, Closes, Passes}
use Rattle.ls_lexer.specs.declared.scan.Inside.{Inside}
use Rattle.ls_lexer.specs.declared.scan.Inside.TheVariants.{Plain, Backslash, Quote, Wrong}
use Rattle.ls_lexer.specs.declared.piece.Kind.{Kind}
use Rattle.ls_lexer.specs.declared.piece.Kind.TheVariants.{Blank, Comment, Word, Number, Char, Text, Symbol}
use Rattle.ls_lexer.specs.declared.piece.Piece.{Piece}
use Rattle.ls_lexer.specs.Characters.{is_blank, is_digit, begins_word, continues_word, front_len}
use Rattle.ls_lexer.specs.Keywords.{symbol_of_one, symbol_of_two}

-- a length, with what stands before
abbrev pub behind : ℕ → Option ℕ → Option ℕ
behind n len = option_map (λ rest. n + rest) len

-- whether a character, with the one before it, is `(*` or `*)`
abbrev pub turn_of : ℕ → ℕ → Turn
turn_of before c = if before == 40 && c == 42 then Opens else (if before == 42 && c == 41 then Closes else Passes)

-- what a turn makes of the lengths that follow from one more, one fewer and as many open comments
abbrev pub after_turn : Turn → ℕ → Option ℕ → Option ℕ → Option ℕ → Option ℕ
after_turn Opens depth more fewer same = behind 1 more
after_turn Closes depth more fewer same = if nat_le depth 1 then Some 1 else behind 1 fewer
after_turn Passes depth more fewer same = behind 1 same

-- the length up to the end of so many nested comments; `before` is the character that stands before,
-- unless it is part of a `(*` or `*)`
abbrev pub comments_len : ℕ → ℕ → List ℕ → Option ℕ
comments_len depth before [] = None
comments_len depth before (c ∷ cs) =
    after_turn (turn_of before c) depth (comments_len (depth + 1) 0 cs) (comments_len (depth - 1) 0 cs) (comments_len depth c cs)

-- the length of the comment that begins a text that begins with `(*`
abbrev pub comment_len : List ℕ → Option ℕ
comment_len text = comments_len 0 0 text

-- what a character is between quotes, where `after` says that a `\` stands before it
abbrev pub inside_of : ℕ → Bool → ℕ → Inside
inside_of quote true c = if is_some (escape_value c) then Plain else Wrong
inside_of quote false c =
    if c == quote then Quote else (if c == 92 then Backslash else (if is_some (plain_value quote c) then Plain else Wrong))

-- what a character makes of the lengths that follow from no `\` and from a `\`
abbrev pub after_inside : Inside → Option ℕ → Option ℕ → Option ℕ
after_inside Plain plain escaped = behind 1 plain
after_inside Backslash plain escaped = behind 1 escaped
after_inside Quote plain escaped = Some 1
after_inside Wrong plain escaped = None

-- the length up to the quote that closes, over characters and escapes
abbrev pub closing_len : ℕ → Bool → List ℕ → Option ℕ
closing_len quote after [] = None
closing_len quote after (c ∷ cs) = after_inside (inside_of quote after c) (closing_len quote false cs) (closing_len quote true cs)

abbrev pub piece : Kind → ℕ → Piece
piece kind len = record { kind = kind; len = len }

-- a piece of this kind where there is a length, else a fault
abbrev pub piece_or : LexFault → Kind → Option ℕ → Result Piece LexFault
piece_or fault kind None = Err fault
piece_or fault kind (Some len) = Ok (piece kind len)

-- a lone `_` is a token of its own
abbrev pub word_piece : ℕ → ℕ → Piece
word_piece c more = if c == 95 && more == 0 then piece (Symbol Underscore) 1 else piece Word (1 + more)

abbrev pub symbol_piece : Line → Option Fixed → Option Fixed → Result Piece LexFault
symbol_piece line (Some two) one = Ok (piece (Symbol two) 2)
symbol_piece line None (Some one) = Ok (piece (Symbol one) 1)
symbol_piece line None None = Err (Bad line)

-- the symbol at the front, the longest one
abbrev pub symbol_at : Line → List ℕ → Result Piece LexFault
symbol_at line [] = Err (Bad line)
symbol_at line (c ∷ []) = symbol_piece line None (symbol_of_one c)
symbol_at line (c ∷ d ∷ cs) = symbol_piece line (symbol_of_two c d) (symbol_of_one c)

-- `(*` stands at the front
abbrev pub begins_comment : List ℕ → Bool
begins_comment [] = false
begins_comment (c ∷ []) = false
begins_comment (c ∷ d ∷ cs) = c == 40 && d == 42

-- the piece at the front of a text that begins on a line, or the fault there
abbrev pub piece_at : Line → List ℕ → Result Piece LexFault
piece_at line [] = Err (Bad line)
piece_at line (c ∷ cs) =
    if is_blank c then Ok (piece Blank 1)
    else (if begins_word c then Ok (word_piece c (front_len continues_word cs))
    else (if is_digit c then Ok (piece Number (1 + front_len is_digit cs))
    else (if c == 39 then piece_or (Bad line) Char (behind 1 (closing_len 39 false cs))
    else (if c == 34 then piece_or (Bad line) Text (behind 1 (closing_len 34 false cs))
    else (if begins_comment (c ∷ cs) then piece_or (OpenComment line) Comment (comment_len (c ∷ cs))
    else symbol_at line (c ∷ cs))))))

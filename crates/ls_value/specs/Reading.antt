-- How the fields of a line and the tokens of a program spell ints, characters and strings.
use Rattle.std.specs.Prelude.{◌≡◌, ℕ, Bool, true, false, ◌==◌, ◌&&◌, ◌||◌, not, nat_le, if◌then◌else◌, List, [], ◌∷◌, ◌++◌, drop, ℤ, pos, neg_ℤ, FitsSigned, Option, None, Some}
use Rattle.std.specs.Str.Parse.{starts_with_minus, digits_value, IsNumeral}
use mir.Syntax.{w64}

-- what stands behind an optional `-`
abbrev pub digits_part : List ℕ → List ℕ
digits_part bytes = if starts_with_minus bytes then drop 1 bytes else bytes

abbrev pub int_value : List ℕ → ℤ
int_value bytes = let size = pos (digits_value 10 (digits_part bytes)) in if starts_with_minus bytes then neg_ℤ size else size

-- an optional `-` and one or more digits, within 64 bits
abbrev pub IsIntText : List ℕ → Type 0
IsIntText bytes = IsNumeral 10 (digits_part bytes) × FitsSigned w64 (int_value bytes)

-- the character that `\` and c stand for: `\n` a newline, `\t` a tab, `\\`, `\'` and `\"` the second
abbrev pub escape_value : ℕ → Option ℕ
escape_value c = if c == 110 then Some 10 else (if c == 116 then Some 9 else (if c == 92 || c == 39 || c == 34 then Some c else None))

-- a character that stands for itself between quotes: ASCII 32 to 126 but `\` and the quote
abbrev pub plain_value : ℕ → ℕ → Option ℕ
plain_value quote c = if nat_le 32 c && nat_le c 126 && not (c == 92 || c == quote) then Some c else None

-- a character before others
abbrev pub before : Option ℕ → Option (List ℕ) → Option (List ℕ)
before (Some c) (Some cs) = Some (c ∷ cs)
before (Some c) None = None
before None cs = None

-- the characters that bytes stand for between quotes, where `after` says that a `\` stands before them
abbrev pub characters_after : ℕ → Bool → List ℕ → Option (List ℕ)
characters_after quote true [] = None
characters_after quote false [] = Some []
characters_after quote true (c ∷ cs) = before (escape_value c) (characters_after quote false cs)
characters_after quote false (c ∷ cs) = if c == 92 then characters_after quote true cs else before (plain_value quote c) (characters_after quote false cs)

abbrev pub characters_of : ℕ → List ℕ → Option (List ℕ)
characters_of quote bytes = characters_after quote false bytes

-- the bytes are a token of these characters: between two quotes what stands for them
abbrev pub IsToken : ℕ → List ℕ → List ℕ → Type 0
IsToken quote characters bytes = (body : List ℕ) × (bytes ≡ quote ∷ body ++ quote ∷ []) × (characters_of quote body ≡ Some characters)

-- Classes of characters, and the longest front of a class.
use Rattle.std.specs.Prelude.{ℕ, ◌+◌, Bool, ◌==◌, nat_le, ◌&&◌, ◌||◌, if◌then◌else◌, List, [], ◌∷◌, count_by}
use Rattle.unicode_ident.specs.Ident.{is_xid_start, is_xid_continue}
use Rattle.ls_lexer.specs.declared.scan.Class.{Class}
use Rattle.ls_lexer.specs.declared.scan.Class.TheVariants.{Word, Digit}

-- a space, a tab, a carriage return or a newline
abbrev pub is_blank : ℕ → Bool
is_blank c = c == 32 || c == 9 || c == 13 || c == 10

-- an ASCII digit
abbrev pub is_digit : ℕ → Bool
is_digit c = nat_le 48 c && nat_le c 57

-- an ASCII capital letter, which begins a constructor
abbrev pub is_capital : ℕ → Bool
is_capital c = nat_le 65 c && nat_le c 90

-- what begins a word: `_`, or a character that begins an identifier of Unicode (UAX 31)
abbrev pub begins_word : ℕ → Bool
begins_word c = c == 95 || is_xid_start c

-- what goes on with a word: `'`, or a character that goes on with an identifier of Unicode (UAX 31)
abbrev pub continues_word : ℕ → Bool
continues_word c = c == 39 || is_xid_continue c

abbrev pub is_in : Class → ℕ → Bool
is_in Word c = continues_word c
is_in Digit c = is_digit c

-- the length of the longest front of characters that pass the test
abbrev pub front_len : (ℕ → Bool) → List ℕ → ℕ
front_len test [] = 0
front_len test (c ∷ cs) = if test c then 1 + front_len test cs else 0

-- the number of newlines
abbrev pub newlines : List ℕ → ℕ
newlines text = count_by (λ c. c == 10) text

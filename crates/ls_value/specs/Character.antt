-- The characters of the language, and its strings.
use Rattle.std.specs.Prelude.{ℕ, Bool, ◌==◌, nat_le, ◌&&◌, ◌||◌, IsTrue, List, length, ◌≤◌}
use Rattle.std.specs.List.{list_all}

-- ASCII 32 to 126, a tab (9) and a newline (10)
abbrev pub is_character : ℕ → Bool
is_character byte = (nat_le 32 byte && nat_le byte 126) || byte == 9 || byte == 10

abbrev pub IsCharacter : ℕ → Type 0
IsCharacter byte = IsTrue (is_character byte)

-- each is a character
abbrev pub AreCharacters : List ℕ → Type 0
AreCharacters bytes = IsTrue (list_all is_character bytes)

-- a string: at most 63 characters
abbrev pub IsText : List ℕ → Type 0
IsText bytes = (length bytes ≤ 63) × AreCharacters bytes

-- The words after the first: those that are positional, and the value of the one option, `--max`.
use Rattle.std.specs.Prelude.{ℕ, Bool, true, false, List, [], ◌∷◌, Option, Some, None, is_some, codes, slice_get, option_map, option_and_then, if◌then◌else◌}
use Rattle.std.specs.Str.{bytes_eq, chars}
use Rattle.clap.specs.Lexer.{long_of, short_of}

abbrev pub Text : Type 0
Text = List ℕ

-- What a word is before the word `--`: that word; `--max`, with its value where `=` and the value stand
-- behind it; another word that begins with `-`, but for `-` itself; a positional word.
pub data Kind : Type 0 where
  Ends : Kind
  Max : Option Text → Kind
  Unknown : Kind
  Plain : Kind

-- at least one character stands behind the `-`
abbrev pub has_flags : Option Text → Bool
has_flags None = false
has_flags (Some flags) = is_some (slice_get (chars flags) 0)

-- a word by what stands behind its `--`, if it is no `--` alone and begins so
abbrev pub long_kind : Option (Text × Option Text) → Text → Kind
long_kind (Some named) word = if bytes_eq (codes "max") named.0 then Max named.1 else Unknown
long_kind None word = if has_flags (short_of word) then Unknown else Plain

abbrev pub kind_of : Text → Kind
kind_of word = if bytes_eq word (codes "--") then Ends else long_kind (long_of word) word

-- the positional words in order, and the value of `--max`
pub record Given : Type 0 where
  pub words : List Text
  pub max : Option Text

abbrev pub only_words : List Text → Given
only_words words = record { words = words; max = None }

abbrev pub with_word : Text → Given → Given
with_word word given = record { words = word ∷ given.words; max = given.max }

-- `--max` stands at most once
abbrev pub max_once : Text → Option Text → List Text → Option Given
max_once value None words = Some (record { words = words; max = Some value })
max_once value (Some other) words = None

abbrev pub with_max : Text → Given → Option Given
with_max value given = max_once value given.max given.words

-- A word is read, and then the rest. Where `--max` waits for its value, the word is the value if it could be a
-- positional word, and else the words are of no form.
abbrev pub met : Bool → Kind → Text → List Text → (Bool → Option Given) → Option Given
met waits Ends word rest next = if waits then None else Some (only_words rest)
met waits (Max None) word rest next = if waits then None else next true
met waits (Max (Some value)) word rest next = if waits then None else option_and_then (with_max value) (next false)
met waits Unknown word rest next = None
met waits Plain word rest next =
    if waits then option_and_then (with_max word) (next false) else option_map (with_word word) (next false)

abbrev pub read : Bool → List Text → Option Given
read waits [] = if waits then None else Some (only_words [])
read waits (word ∷ rest) = met waits (kind_of word) word rest (λ still. read still rest)

-- what the words after the first give, if they do
abbrev pub given_of : List Text → Option Given
given_of words = read false words

-- How a line is cut into words: each space ends one, but for those inside a token, which stands between quotes and begins its
-- word. So a character and a string are one word, with the spaces inside them.
use Rattle.std.specs.Prelude.{ℕ, Bool, ◌==◌, ◌||◌, false, if◌then◌else◌, List, [], ◌∷◌, ◌++◌, Option, None, Some}
use denote.Ref.{Bor}
use Rattle.line_io.specs.Line.{onto}
use Rattle.step_text.specs.declared.words.Place.{Place}
use Rattle.step_text.specs.declared.words.Place.TheVariants.{Front, Bare, Quoted, Escaped}

-- the byte ends the word
abbrev pub ends : Place → ℕ → Bool
ends Front b = b == 32
ends Bare b = b == 32
ends (Quoted quote) b = false
ends (Escaped quote) b = false

-- the place behind the first byte of a word: a quote opens a token
abbrev pub opened : ℕ → Place
opened b = if b == 39 || b == 34 then Quoted b else Bare

-- the place behind one more byte of a token: a `\` takes the byte behind it into the token, and the same quote closes the token
abbrev pub quoted_on : ℕ → ℕ → Place
quoted_on quote b = if b == 92 then Escaped quote else (if b == quote then Bare else Quoted quote)

-- the place behind a byte that does not end the word
abbrev pub behind : Place → ℕ → Place
behind Front b = opened b
behind Bare b = Bare
behind (Quoted quote) b = quoted_on quote b
behind (Escaped quote) b = Quoted quote

-- the words of what is left of a line from a place on, of which the first may have begun already
abbrev pub words_from : Place → List ℕ → List (List ℕ)
words_from place [] = [] ∷ []
words_from place (b ∷ bytes) = if ends place b then ([] ∷ words_from Front bytes) else onto b (words_from (behind place b) bytes)

-- the words of a line
abbrev pub words_of : List ℕ → List (List ℕ)
words_of line = words_from Front line

-- the words of what is left of a line, if there is something
abbrev pub words_left : Option (Bor (List ℕ)) → List (List ℕ)
words_left None = []
words_left (Some text) = words_of text.now

-- words with one space between them
abbrev pub joined : List (List ℕ) → List ℕ
joined [] = []
joined (word ∷ []) = word
joined (word ∷ (next ∷ words)) = word ++ 32 ∷ joined (next ∷ words)

-- How a line is cut into fields.
use Rattle.std.specs.Prelude.{ℕ, Bool, ◌==◌, ◌||◌, if◌then◌else◌, List, [], ◌∷◌}
use Rattle.line_io.specs.Line.{onto}
use Rattle.line_io.specs.declared.words.Place.{Place}
use Rattle.line_io.specs.declared.words.Place.TheVariants.{Gap, Bare, Quoted, Escaped}

-- a space, a tab or a carriage return
abbrev pub is_blank : ℕ → Bool
is_blank b = b == 32 || b == 9 || b == 13

-- the place behind the first byte of a field: a quote opens a token
abbrev pub opened : ℕ → Place
opened b = if b == 39 || b == 34 then Quoted b else Bare

-- the place behind one more byte of a token: a `\` takes the byte behind it into the token, and the same quote closes the token
abbrev pub quoted_on : ℕ → ℕ → Place
quoted_on quote b = if b == 92 then Escaped quote else (if b == quote then Bare else Quoted quote)

-- the fields of what is left of a line from a place on, of which the first may have begun already: fields are
-- separated by blanks; one that begins with a quote has the blanks inside its token
abbrev pub words_from : Place → List ℕ → List (List ℕ)
words_from Gap [] = []
words_from Bare [] = [] ∷ []
words_from (Quoted quote) [] = [] ∷ []
words_from (Escaped quote) [] = [] ∷ []
words_from Gap (b ∷ bytes) = if is_blank b then words_from Gap bytes else onto b (words_from (opened b) bytes)
words_from Bare (b ∷ bytes) = if is_blank b then ([] ∷ words_from Gap bytes) else onto b (words_from Bare bytes)
words_from (Quoted quote) (b ∷ bytes) = onto b (words_from (quoted_on quote b) bytes)
words_from (Escaped quote) (b ∷ bytes) = onto b (words_from (Quoted quote) bytes)

-- the fields of a line
abbrev pub words_of : List ℕ → List (List ℕ)
words_of line = words_from Gap line

-- How a scan of a field goes on.
use Rattle.std.specs.Prelude.{ℕ, Bool, false}
use Rattle.line_io.specs.Words.{is_blank, quoted_on}
use Rattle.line_io.specs.declared.words.Place.{Place}
use Rattle.line_io.specs.declared.words.Place.TheVariants.{Gap, Bare, Quoted, Escaped}

-- the place behind a byte of a field that does not end it
abbrev pub inside : Place → ℕ → Place
inside Gap b = Bare
inside Bare b = Bare
inside (Quoted quote) b = quoted_on quote b
inside (Escaped quote) b = Quoted quote

-- the byte ends the field: it is a blank outside a token
abbrev pub ends : Place → ℕ → Bool
ends Gap b = is_blank b
ends Bare b = is_blank b
ends (Quoted quote) b = false
ends (Escaped quote) b = false

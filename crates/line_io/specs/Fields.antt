-- What a field of a line holds.
use Rattle.std.specs.Prelude.{◌≡◌, ◌≢◌, ℕ, ◌≤◌, Bool as Truth, false, List, [], ◌∷◌, Option, None, Some, length, codes, slice_get, MatchOption, position}
use Rattle.std.specs.Str.{bytes_eq}
use Rattle.ls_base.specs.declared.Name.{Name}
use Rattle.ls_value.specs.Reading.{IsIntText, int_value, IsToken}
use Rattle.ls_value.specs.Spelling.{truth_code}
use Rattle.ls_value.specs.declared.leaf.Leaf.{Leaf}
use Rattle.ls_value.specs.declared.leaf.Leaf.TheVariants.{Nil, Int, Bool, Char, Text, Enum, Unit as Nothing}
use Rattle.ls_value.specs.declared.leaf.Shape.{Shape}
use Rattle.ls_value.specs.declared.leaf.Shape.TheVariants.{Int as Ints, Bool as Bools, Char as Chars, Text as Texts, Enum as Enums, Unit as Units}
use Rattle.line_io.specs.declared.form.InputForm.{InputForm}
use Rattle.line_io.specs.declared.form.Reading.{Reading}
use Rattle.line_io.specs.declared.form.Reading.TheVariants.{Dot, Leaf as Holding, Bad}
use Rattle.line_io.specs.Words.{words_of}

-- the spelling is the word
abbrev pub is_spelled : Option (List ℕ) → List ℕ → Truth
is_spelled None word = false
is_spelled (Some spelling) word = bytes_eq spelling word

-- the name is spelled as the word is
abbrev pub is_named : List (List ℕ) → List ℕ → Name → Truth
is_named names word name = is_spelled (slice_get names name.0) word

-- the word is the name of the constructor at a place of an enumeration, and of none before it
abbrev pub IsCase : InputForm → ℕ → ℕ → List ℕ → Type 0
IsCase form enumeration place word =
    MatchOption (slice_get form.cases enumeration) ⊥ (λ cases. position (is_named form.names word) cases ≡ Some place)

-- the word spells the leaf, which is of the shape: an int in decimal, leading zeros allowed; `true` or `false`; a
-- character or a string as a token of a program; a constructor by its name; `()`; and nothing spells Nil
abbrev pub Spells : InputForm → Shape → List ℕ → Leaf → Type 0
Spells form shape word Nil = ⊥
Spells form shape word (Int n) = (shape ≡ Ints) × IsIntText word × (n ≡ int_value word)
Spells form shape word (Bool b) = (shape ≡ Bools) × (word ≡ truth_code b)
Spells form shape word (Char c) = (shape ≡ Chars) × IsToken 39 (c ∷ []) word
Spells form shape word (Text text) = (shape ≡ Texts) × IsToken 34 text word × (length text ≤ 63)
Spells form shape word (Enum enumeration place) = (shape ≡ Enums enumeration) × IsCase form enumeration place word
Spells form shape word Nothing = (shape ≡ Units) × (word ≡ codes "()")

-- what a field reads as, by its word, where it has one: as `.`, as the leaf that its word spells, or as neither
abbrev pub ReadsAs : InputForm → Shape → Option (List ℕ) → Reading → Type 0
ReadsAs form shape word Dot = word ≡ Some (46 ∷ [])
ReadsAs form shape word (Holding leaf) = MatchOption word ⊥ (λ w. (w ≢ 46 ∷ []) × Spells form shape w leaf)
ReadsAs form shape word Bad = MatchOption word (Unit {0}) (λ w. (w ≢ 46 ∷ []) × ((leaf : Leaf) → ¬ Spells form shape w leaf))

-- what the fields of a form read as in a line
pub record Reads (form : InputForm) (line : List ℕ) (readings : List Reading) : Type 0 where
  pub all : length readings ≡ length form.fields
  pub each : (k : ℕ) → MatchOption (slice_get form.fields k) (Unit {0}) (λ field. MatchOption (slice_get readings k) ⊥ (λ reading. ReadsAs form field.shape (slice_get (words_of line) k) reading))

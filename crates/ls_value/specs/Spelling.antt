-- The one spelling of a leaf in step code, and the leaves of a shape.
use Rattle.std.specs.Prelude.{◌≡◌, ℕ, ◌<◌, ◌^◌, ◌==◌, ◌||◌, if◌then◌else◌, List, [], ◌∷◌, ◌++◌, Bool as Truth, codes, decimal, FitsSigned, Option, None, Some, MatchOption, ⊤}
use Rattle.std.specs.Fmt.{signed_decimal}
use Rattle.std.specs.List.{flat_map}
use Rattle.ls_value.specs.Character.{IsCharacter, IsText}
use Rattle.ls_value.specs.declared.leaf.Leaf.{Leaf}
use Rattle.ls_value.specs.declared.leaf.Leaf.TheVariants.{Nil, Int, Bool, Char, Text, Enum, Unit as Nothing}
use Rattle.ls_value.specs.declared.leaf.Shape.{Shape}
use Rattle.ls_value.specs.declared.leaf.Shape.TheVariants.{Int as Ints, Bool as Bools, Char as Chars, Text as Texts, Enum as Enums, Unit as Units}
use mir.Syntax.{w64}

-- a character between quotes: a newline is `\n`, a tab `\t`, and `\` and the quote follow a `\`
abbrev pub escape : ℕ → ℕ → List ℕ
escape quote c = if c == 10 then codes "\\n" else (if c == 9 then codes "\\t" else (if c == 92 || c == quote then 92 ∷ c ∷ [] else c ∷ []))

abbrev pub escaped : ℕ → List ℕ → List ℕ
escaped quote characters = flat_map (escape quote) characters

abbrev pub quoted : ℕ → List ℕ → List ℕ
quoted quote characters = quote ∷ escaped quote characters ++ quote ∷ []

-- `#T.K` for the constructor at place K of enumeration T
abbrev pub constructor_code : ℕ → ℕ → List ℕ
constructor_code enumeration place = 35 ∷ decimal enumeration ++ 46 ∷ decimal place

abbrev pub truth_code : Truth → List ℕ
truth_code b = if b then codes "true" else codes "false"

abbrev pub code_of : Leaf → List ℕ
code_of Nil = codes "nil"
code_of (Int n) = signed_decimal n
code_of (Bool b) = truth_code b
code_of (Char c) = quoted 39 (c ∷ [])
code_of (Text t) = quoted 34 t
code_of (Enum enumeration place) = constructor_code enumeration place
code_of Nothing = codes "()"

-- the shape of a leaf; Nil has none
abbrev pub shape_of : Leaf → Option Shape
shape_of Nil = None
shape_of (Int n) = Some Ints
shape_of (Bool b) = Some Bools
shape_of (Char c) = Some Chars
shape_of (Text t) = Some Texts
shape_of (Enum enumeration place) = Some (Enums enumeration)
shape_of Nothing = Some Units

-- Nil fits every shape
abbrev pub Fits : Leaf → Shape → Type 0
Fits leaf shape = MatchOption (shape_of leaf) ⊤ (λ own. own ≡ shape)

-- the numbers of a leaf are in range: 64 bits for an int, 32 bits for an enumeration and a place
abbrev pub IsLeaf : Leaf → Type 0
IsLeaf Nil = ⊤
IsLeaf (Int n) = FitsSigned w64 n
IsLeaf (Bool b) = ⊤
IsLeaf (Char c) = IsCharacter c
IsLeaf (Text t) = IsText t
IsLeaf (Enum enumeration place) = (enumeration < 2 ^ 32) × (place < 2 ^ 32)
IsLeaf Nothing = ⊤

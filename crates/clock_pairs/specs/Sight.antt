-- The first of some numbers.
use Rattle.std.specs.Prelude.{ℕ, min, List, [], ◌∷◌, Option, Some, None}

-- the earlier of two numbers, where there is one
abbrev pub earlier : Option ℕ → Option ℕ → Option ℕ
earlier None c = c
earlier (Some a) None = Some a
earlier (Some a) (Some c) = Some (min a c)

-- the last of some items, and another where there is none
abbrev pub last_of : {A : Type 0} → Option A → List A → Option A
last_of o [] = o
last_of o (a ∷ p) = last_of (Some a) p

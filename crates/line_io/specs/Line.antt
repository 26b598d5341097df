-- How a row of bytes is split into lines, and what a buffer of lines holds.
use Rattle.std.specs.Prelude.{◌≡◌, ◌≢◌, ℕ, ◌-◌, ◌≤◌, ◌==◌, if◌then◌else◌, List, [], ◌∷◌, ◌++◌, Option, length, take, drop, All}
use Rattle.std.specs.Option.{option_map}
use Rattle.line_io.specs.declared.buffer.Next.{Next}
use Rattle.line_io.specs.declared.buffer.Next.TheVariants.{Line, End, LongLine, ReadFault}

-- the bytes before the first newline, or all of them where there is none
abbrev pub line_of : List ℕ → List ℕ
line_of [] = []
line_of (b ∷ bytes) = if b == 10 then [] else (b ∷ line_of bytes)

-- what follows the first newline; nothing where there is none
abbrev pub rest_of : List ℕ → List ℕ
rest_of [] = []
rest_of (b ∷ bytes) = if b == 10 then bytes else rest_of bytes

-- lines whose first one begins with one byte more
abbrev pub onto : ℕ → List (List ℕ) → List (List ℕ)
onto b [] = (b ∷ []) ∷ []
onto b (line ∷ lines) = (b ∷ line) ∷ lines

-- an input as lines: each newline ends one, and a last nonempty rest without newline is one, too
abbrev pub lines_of : List ℕ → List (List ℕ)
lines_of [] = []
lines_of (b ∷ bytes) = if b == 10 then ([] ∷ lines_of bytes) else onto b (lines_of bytes)

-- no byte is a newline
abbrev pub NoNewline : List ℕ → Type 0
NoNewline bytes = All (λ b. b ≢ 10) bytes

-- the part of some bytes from one place up to another
abbrev pub part : List ℕ → ℕ → ℕ → List ℕ
part bytes from to = take (to - from) (drop from bytes)

-- what contracts see of a buffer of lines: the line that it gave last, and the bytes that it holds after it
pub record Buffer : Type 0 where
  pub line : List ℕ
  pub held : List ℕ

-- the bytes that are still to come: those held, and then those left in the source, where it tells them
abbrev pub ahead : List ℕ → Option (List ℕ) → Option (List ℕ)
ahead held left = option_map (λ rest. held ++ rest) left

-- What was held when the last read of a call was made, where the source tells its bytes: it held these
-- bytes at entry and those that its earlier reads gave, and was still without a whole line and not full.
-- So it was at each read before.
pub record IsShort (held : List ℕ) (old new : Option (List ℕ)) (gave : ℕ) : Type 0 where
  pub before : List ℕ
  pub piece : List ℕ
  pub taken : old ≡ option_map (λ rest. before ++ (piece ++ rest)) new
  pub last : length piece ≡ gave
  pub no_line : NoNewline (held ++ before)
  pub room : length (held ++ before) ≤ 65536

-- some bytes were taken from the source's front
abbrev pub TakesFront : Option (List ℕ) → Option (List ℕ) → Type 0
TakesFront old new = (taken : List ℕ) × (old ≡ option_map (λ rest. taken ++ rest) new)

-- a fact where the answer is a line
abbrev pub OnLine : Next → Type 0 → Type 0
OnLine Line fact = fact
OnLine End fact = Unit {0}
OnLine LongLine fact = Unit {0}
OnLine ReadFault fact = Unit {0}

-- a fact where the answer is the end
abbrev pub OnEnd : Next → Type 0 → Type 0
OnEnd Line fact = Unit {0}
OnEnd End fact = fact
OnEnd LongLine fact = Unit {0}
OnEnd ReadFault fact = Unit {0}

-- a fact where the answer is that the line is too long
abbrev pub OnLongLine : Next → Type 0 → Type 0
OnLongLine Line fact = Unit {0}
OnLongLine End fact = Unit {0}
OnLongLine LongLine fact = fact
OnLongLine ReadFault fact = Unit {0}

-- a fact where the answer is a fault
abbrev pub OnReadFault : Next → Type 0 → Type 0
OnReadFault Line fact = Unit {0}
OnReadFault End fact = Unit {0}
OnReadFault LongLine fact = Unit {0}
OnReadFault ReadFault fact = fact

-- a fact where the answer is no line
abbrev pub OnNoLine : Next → Type 0 → Type 0
OnNoLine Line fact = Unit {0}
OnNoLine End fact = fact
OnNoLine LongLine fact = fact
OnNoLine ReadFault fact = fact

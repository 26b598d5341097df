-- What calls of the outside leave: counts of faults, and bytes that were written.
use Rattle.std.specs.Prelude.{◌≡◌, ℕ, ◌<◌, ◌≤◌, ◌⊎◌, List, ◌++◌, Option, length, take}
use Rattle.std.specs.Option.{option_map}

-- A count of faults grew, or stands at its last value.
abbrev pub Rose : ℕ → ℕ → Type 0
Rose old new = (old < new) ⊎ (18446744073709551615 ≤ new)

-- What contracts see of a source that tells no bytes: its faults so far, and how many bytes its last read gave.
pub record ReadState : Type 0 where
  pub faults : ℕ
  pub gave : ℕ

-- Some front of the text was written after what had been written before, and nothing else.
abbrev pub WritesFront : Option (List ℕ) → List ℕ → Option (List ℕ) → Type 0
WritesFront old text new = (n : ℕ) × (n ≤ length text) × (new ≡ option_map (λ before. before ++ take n text) old)

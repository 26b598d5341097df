-- The length of escaped characters.
use Rattle.std.proofs.Common.{ℕ, ◌+◌, ◌≤◌, Bool, true, false, ◌==◌, ◌||◌, if◌then◌else◌, List, [], ◌∷◌, length, codes, arith, length-append}
use Rattle.ls_value.specs.Spelling.{escape, escaped}

one_or_two : (a b d : Bool) (c : ℕ) → length (if a then codes "\\n" else (if b then codes "\\t" else (if d then 92 ∷ c ∷ [] else c ∷ []))) ≤ 2
one_or_two true b d c = omega arith
one_or_two false true d c = omega arith
one_or_two false false true c = omega arith
one_or_two false false false c = omega arith

pub escape_short : (quote c : ℕ) → length (escape quote c) ≤ 2
escape_short quote c = one_or_two (c == 10) (c == 9) (c == 92 || c == quote) c

pub escaped_short : (quote : ℕ) (xs : List ℕ) → length (escaped quote xs) ≤ length xs + length xs
escaped_short quote [] = omega arith
escaped_short quote (x ∷ xs) =
    omega (arith, escape_short quote x, escaped_short quote xs, length-append {A = ℕ} (escape quote x) (escaped quote xs))

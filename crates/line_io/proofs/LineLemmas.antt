-- Lemmas on the first line of some bytes, and on what follows it.
use Rattle.std.proofs.Common.{◌≡◌, ◌≢◌, ℕ, ◌≤◌, Bool, true, false, List, [], ◌∷◌, ◌++◌, length, refl, sym, ◌∙◌, ap, arith, length-append}
use Rattle.std.specs.Prelude.{◌==◌, if◌then◌else◌}
use Rattle.std.specs.List.{AllByRecursion}
use Rattle.std.proofs.lemmas.Bool.{ne_eqb}
use Rattle.std.proofs.lemmas.List.{append-nil}
use Rattle.std.proofs.lemmas.List.Elements.{recursion_from_All}
use Rattle.line_io.specs.Line.{line_of, rest_of, lines_of, onto, NoNewline}

-- bytes without newline at the front are the front of the first line
line_of_front : (xs ys : List ℕ) → AllByRecursion (λ b. b ≢ 10) xs → line_of (xs ++ ys) ≡ xs ++ line_of ys
line_of_front [] ys h = refl
line_of_front (x ∷ xs) ys h =
    let e : (x == 10) ≡ false = ne_eqb x 10 h.0 in
    rw e (ap (λ zs. x ∷ zs) (line_of_front xs ys h.1))

-- what follows the first line is not changed by bytes without newline at the front
rest_of_front : (xs ys : List ℕ) → AllByRecursion (λ b. b ≢ 10) xs → rest_of (xs ++ ys) ≡ rest_of ys
rest_of_front [] ys h = refl
rest_of_front (x ∷ xs) ys h =
    let e : (x == 10) ≡ false = ne_eqb x 10 h.0 in
    rw e (rest_of_front xs ys h.1)

-- the first line ends at the first newline
pub line_of-cut : (line after : List ℕ) → NoNewline line → line_of (line ++ 10 ∷ after) ≡ line
line_of-cut line after h = line_of_front line (10 ∷ after) (recursion_from_All (λ b. b ≢ 10) line h) ∙ append-nil line

-- what follows the first newline
pub rest_of-cut : (line after : List ℕ) → NoNewline line → rest_of (line ++ 10 ∷ after) ≡ after
rest_of-cut line after h = rest_of_front line (10 ∷ after) (recursion_from_All (λ b. b ≢ 10) line h)

-- bytes without newline are one line
pub line_of-quiet : (line : List ℕ) → NoNewline line → line_of line ≡ line
line_of-quiet line h =
    ap line_of (sym (append-nil line)) ∙ line_of_front line [] (recursion_from_All (λ b. b ≢ 10) line h) ∙ append-nil line

-- nothing follows bytes without newline
pub rest_of-quiet : (line : List ℕ) → NoNewline line → rest_of line ≡ []
rest_of-quiet line h = ap rest_of (sym (append-nil line)) ∙ rest_of_front line [] (recursion_from_All (λ b. b ≢ 10) line h)

-- at least the bytes without newline at the front are the first line
pub length-line_of-front : (xs ys : List ℕ) → NoNewline xs → length xs ≤ length (line_of (xs ++ ys))
length-line_of-front xs ys h =
    let e = line_of_front xs ys (recursion_from_All (λ b. b ≢ 10) xs h) in
    omega (arith, ap length e, length-append xs (line_of ys))

-- one byte before some lines, whether it is a newline or not
split_by_test : (b : ℕ) (bytes : List ℕ) (t : Bool) → onto b (lines_of bytes) ≡ (b ∷ line_of bytes) ∷ lines_of (rest_of bytes)
    → (if t then ([] ∷ lines_of bytes) else onto b (lines_of bytes)) ≡ (if t then [] else (b ∷ line_of bytes)) ∷ lines_of (if t then bytes else rest_of bytes)
split_by_test b bytes true h = refl
split_by_test b bytes false h = h

-- an input that is not empty is its first line, and then the lines of the rest
pub lines_of-split : (b : ℕ) (bytes : List ℕ) → lines_of (b ∷ bytes) ≡ line_of (b ∷ bytes) ∷ lines_of (rest_of (b ∷ bytes))
lines_of-split b [] = split_by_test b [] (b == 10) refl
lines_of-split b (c ∷ rest) = split_by_test b (c ∷ rest) (b == 10) (ap (onto b) (lines_of-split c rest))

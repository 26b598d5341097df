-- Lemmas on parts of the bytes of a buffer, and on newlines.
use Rattle.std.proofs.Common.{◌≡◌, ◌≢◌, ℕ, ◌+◌, ◌-◌, ◌<◌, ◌≤◌, List, ◌∷◌, ◌++◌, length, take, drop, Option, sym, ◌∙◌, ap, subst, arith, length-drop, append_assoc, add_assoc}
use Rattle.std.proofs.Math.Nat.{sub-zero}
use Rattle.std.proofs.Math.Seq.{take-add, drop-append_seam, take-take}
use Rattle.std.proofs.lemmas.List.{length-take-le, drop-take, take-append-le}
use Rattle.std.proofs.lemmas.List.Elements.{All-append}
use Rattle.std.proofs.lemmas.Grind.{common_steps}
use Rattle.std.specs.Option.{option_map}
use Rattle.line_io.specs.Line.{NoNewline, part}

-- dropping twice
pub drop-drop : {X : Type 0} (n m : ℕ) (xs : List X) → drop m (drop n xs) ≡ drop (n + m) xs
drop-drop n m xs = grind (arith, common_steps)

-- two parts side by side are one
pub parts_join : (xs : List ℕ) (a m b : ℕ) → a ≤ m → m ≤ b → part xs a m ++ part xs m b ≡ part xs a b
parts_join xs a m b am mb =
    let e : b - a ≡ (m - a) + (b - m) = omega arith in
    let f : a + (m - a) ≡ m = omega arith in
    sym (ap (λ n. take n (drop a xs)) e ∙ take-add (m - a) (b - m) (drop a xs) ∙ ap (λ ys. take (m - a) (drop a xs) ++ take (b - m) ys) (drop-drop a (m - a) xs ∙ ap (λ n. drop n xs) f))

-- the length of a part
pub length-part : (xs : List ℕ) (a b : ℕ) → b ≤ length xs → length (part xs a b) ≡ b - a
length-part xs a b bx = length-take-le (b - a) (drop a xs) (omega (arith, length-drop a xs))

-- a part without its first bytes
pub drop_part : (xs : List ℕ) (m b n : ℕ) → m + n ≤ b → part xs (m + n) b ≡ drop n (part xs m b)
drop_part xs m b n h =
    let e : n + (b - (m + n)) ≡ b - m = omega arith in
    ap (λ ys. take (b - (m + n)) ys) (sym (drop-drop m n xs)) ∙ sym (drop-take n (b - (m + n)) (drop m xs)) ∙ ap (λ k. drop n (take k (drop m xs))) e

-- a part without what follows its first bytes
pub take_part : (xs : List ℕ) (m b n : ℕ) → m + n ≤ b → take n (part xs m b) ≡ part xs m (m + n)
take_part xs m b n h = grind (arith, common_steps)

-- two parts without newline side by side
pub quiet_join : (xs : List ℕ) (a m b : ℕ) → a ≤ m → m ≤ b → NoNewline (part xs a m) → NoNewline (part xs m b) → NoNewline (part xs a b)
quiet_join xs a m b am mb h k = subst NoNewline (parts_join xs a m b am mb) (All-append (λ x. x ≢ 10) (part xs a m) (part xs m b) h k)

-- a part that ends before a newline, the newline, and the part after it
pub part_cut : (xs : List ℕ) (a m b at : ℕ) → a ≤ m → m + at < b → drop at (part xs m b) ≡ 10 ∷ drop (at + 1) (part xs m b)
    → part xs a b ≡ part xs a (m + at) ++ 10 ∷ part xs (m + at + 1) b
part_cut xs a m b at am lt e =
    let f : part xs (m + at) b ≡ drop at (part xs m b) = drop_part xs m b at (omega arith) in
    let h : part xs (m + at + 1) b ≡ drop (at + 1) (part xs m b) = ap (λ n. part xs n b) (add_assoc m at 1) ∙ drop_part xs m b (at + 1) (omega arith) in
    sym (parts_join xs a (m + at) b (omega arith) (omega arith)) ∙ ap (λ ys. part xs a (m + at) ++ ys) (f ∙ e ∙ ap (λ ys. 10 ∷ ys) (sym h))

-- the first newline of the bytes is at this place
abbrev pub NewlineAt : List ℕ → ℕ → Type 0
NewlineAt bytes at = (at < length bytes) × NoNewline (take at bytes) × (drop at bytes ≡ 10 ∷ drop (at + 1) bytes)

-- bytes taken from a source, under another name
pub taken_as : (old new : Option (List ℕ)) (a b : List ℕ) → old ≡ option_map (λ rest. a ++ rest) new → a ≡ b → old ≡ option_map (λ rest. b ++ rest) new
taken_as old new a b e same = subst (λ (x : List ℕ). old ≡ option_map (λ rest. x ++ rest) new) same e

-- what a read put behind the bytes held, which stand at the front
pub read_part : (before into after rest : List ℕ) (h s n len : ℕ) → h ≡ s → s ≡ length before → n ≤ length into → s + length into ≤ len
    → take n into ≡ drop h (part (take len ((before ++ (into ++ after)) ++ rest)) 0 (s + n))
read_part before into after rest h s n len hs is few fits =
    let whole : List ℕ = (before ++ (into ++ after)) ++ rest in
    let e : s + (len - s) ≡ len = omega arith in
    let plain : part (take len whole) 0 (s + n) ≡ take (s + n) (take len whole) = ap (λ k. take k (take len whole)) (sub-zero (s + n)) in
    let behind : drop s whole ≡ into ++ (after ++ rest) =
    ap (drop s) (append_assoc before (into ++ after) rest) ∙ ap (λ k. drop k (before ++ ((into ++ after) ++ rest))) is ∙ drop-append_seam before ((into ++ after) ++ rest) ∙ append_assoc into after rest in
    sym
    (ap (λ k. drop k (part (take len whole) 0 (s + n))) hs
    ∙ ap (drop s) plain
    ∙ drop-take s n (take len whole)
    ∙ ap (take n) (ap (λ k. drop s (take k whole)) (sym e) ∙ drop-take s (len - s) whole)
    ∙ take-take n (len - s) (drop s whole) (omega arith)
    ∙ ap (take n) behind
    ∙ take-append-le n into (after ++ rest) few)

-- Bytes as lines: a line more, and what is whole.
use Rattle.std.proofs.Common.{◌≡◌, ◌≢◌, ℕ, ◌<◌, List, [], ◌∷◌, ◌++◌, Option, Some, None, Bool, true, false, length, refl, sym, ◌∙◌, ap, arith, append_assoc, length-append, ◌⊎◌, inl, inr}
use Rattle.std.specs.Prelude.{if◌then◌else◌, ◌==◌}
use Rattle.std.specs.List.{AllByRecursion}
use Rattle.std.specs.Option.{IfSome}
use Rattle.std.proofs.lemmas.Bool.Decides.{nat_tests}
use Rattle.std.proofs.lemmas.List.{append-nil}
use Rattle.std.proofs.lemmas.List.Elements.{All-from_recursion}
use Rattle.line_io.specs.Line.{NoNewline, lines_of, line_of, rest_of, ahead}
use Rattle.line_io.proofs.LineLemmas.{lines_of-split, length-line_of-front, line_of-cut, rest_of-cut}
use Rattle.run_text.specs.Progress.{AreWhole}

-- so many bytes without newline begin a line that is too long
pub long-ahead : (held : List ℕ) (left : Option (List ℕ)) → length held ≡ 65537 → NoNewline held → IfSome (ahead held left) (λ bytes. 65536 < length (line_of bytes))
long-ahead held None full quiet = tt
long-ahead held (Some rest) full quiet = omega (arith, length-line_of-front held rest quiet, full)

-- the first line, and what follows it
abbrev Parts : ℕ → List ℕ → Bool → Type 0
Parts b bytes t = (b ∷ bytes ≡ (if t then [] else (b ∷ line_of bytes)) ++ 10 ∷ (if t then bytes else rest_of bytes))
    ⊎ ((b ∷ bytes ≡ (if t then [] else (b ∷ line_of bytes))) × ((if t then bytes else rest_of bytes) ≡ []))

is_ten : (b : ℕ) → (b == 10) ≡ true → b ≡ 10
is_ten b h = grind (arith, nat_tests)

not_ten : (b : ℕ) → (b == 10) ≡ false → b ≢ 10
not_ten b h e = grind (arith, nat_tests)

parts_at : (b : ℕ) (bytes : List ℕ) (t : Bool) → (b == 10) ≡ t
    → (bytes ≡ line_of bytes ++ 10 ∷ rest_of bytes) ⊎ ((bytes ≡ line_of bytes) × (rest_of bytes ≡ [])) → Parts b bytes t
parts_at b bytes true e ih = inl (ap (λ c. c ∷ bytes) (is_ten b e))
parts_at b bytes false e (inl h) = inl (ap (λ zs. b ∷ zs) h)
parts_at b bytes false e (inr h) = inr (ap (λ zs. b ∷ zs) h.0, h.1)

-- the bytes are their first line and what follows it
pub parts : (bytes : List ℕ) → (bytes ≡ line_of bytes ++ 10 ∷ rest_of bytes) ⊎ ((bytes ≡ line_of bytes) × (rest_of bytes ≡ []))
parts [] = inr (refl, refl)
parts (b ∷ bytes) = parts_at b bytes (b == 10) refl (parts bytes)

quiet_at : (b : ℕ) (line : List ℕ) (t : Bool) → (b == 10) ≡ t → AllByRecursion (λ c. c ≢ 10) line → AllByRecursion (λ c. c ≢ 10) (if t then [] else (b ∷ line))
quiet_at b line true e ih = tt
quiet_at b line false e ih = (not_ten b e, ih)

quiet : (bytes : List ℕ) → AllByRecursion (λ c. c ≢ 10) (line_of bytes)
quiet [] = tt
quiet (b ∷ bytes) = quiet_at b (line_of bytes) (b == 10) refl (quiet bytes)

no_newline : (bytes : List ℕ) → NoNewline (line_of bytes)
no_newline bytes = All-from_recursion (λ c. c ≢ 10) (line_of bytes) (quiet bytes)

-- the first line and the others
pub split_lines : (rest : List ℕ) → 0 < length rest → lines_of rest ≡ line_of rest ∷ lines_of (rest_of rest)
split_lines [] h = absurd (omega arith)
split_lines (b ∷ rest) h = lines_of-split b rest

-- a line and its newline, and then other lines
cut_lines : (line rest : List ℕ) → NoNewline line → lines_of (line ++ 10 ∷ rest) ≡ line ∷ lines_of rest
cut_lines line rest h =
    split_lines (line ++ 10 ∷ rest) (omega (arith, length-append line (10 ∷ rest)))
    ∙ (λ i. line_of-cut line rest h i ∷ lines_of (rest_of-cut line rest h i))

-- One more line is done: the bytes done with it, and what they are as lines.
pub record OneMore (done rest : List ℕ) : Type 0 where
  pub bytes : List ℕ
  pub taken : done ++ rest ≡ bytes ++ rest_of rest
  pub whole : AreWhole bytes ⊎ (rest_of rest ≡ [])
  pub lines : lines_of bytes ≡ lines_of done ++ line_of rest ∷ []

still_whole : (done line : List ℕ) → AreWhole done → NoNewline line → lines_of (done ++ (line ++ 10 ∷ [])) ≡ lines_of done ++ line ∷ []
still_whole done line w h = w (line ++ 10 ∷ []) ∙ ap (λ zs. lines_of done ++ zs) (cut_lines line [] h)

all_whole : (done line : List ℕ) → AreWhole done → NoNewline line → AreWhole (done ++ (line ++ 10 ∷ []))
all_whole done line w h more =
    ap lines_of (append_assoc done (line ++ 10 ∷ []) more ∙ ap (λ zs. done ++ zs) (append_assoc line (10 ∷ []) more))
    ∙ w (line ++ 10 ∷ more) ∙ ap (λ zs. lines_of done ++ zs) (cut_lines line more h)
    ∙ sym (append_assoc (lines_of done) (line ∷ []) (lines_of more)) ∙ sym (ap (λ zs. zs ++ lines_of more) (still_whole done line w h))

-- one more line
pub one_more : (done rest : List ℕ) → AreWhole done → 0 < length rest
    → (rest ≡ line_of rest ++ 10 ∷ rest_of rest) ⊎ ((rest ≡ line_of rest) × (rest_of rest ≡ [])) → OneMore done rest
one_more done rest w some (inl h) = record {
  bytes = done ++ (line_of rest ++ 10 ∷ []);
  taken = ap (λ zs. done ++ zs) (h ∙ sym (append_assoc (line_of rest) (10 ∷ []) (rest_of rest))) ∙ sym (append_assoc done (line_of rest ++ 10 ∷ []) (rest_of rest));
  whole = inl (all_whole done (line_of rest) w (no_newline rest));
  lines = still_whole done (line_of rest) w (no_newline rest);
}
one_more done rest w some (inr h) = record {
  bytes = done ++ rest;
  taken = sym (append-nil (done ++ rest)) ∙ ap (λ zs. (done ++ rest) ++ zs) (sym h.1);
  whole = inr h.1;
  lines = w rest ∙ ap (λ zs. lines_of done ++ zs) (split_lines rest some ∙ ap (λ zs. line_of rest ∷ lines_of zs) h.1);
}

some_rest : (rest : List ℕ) → 0 < length rest → rest ≡ [] → ⊥
some_rest [] some e = omega arith
some_rest (b ∷ rest) some e = cc

-- where something is left, the other case holds
pub rest_not_empty : (rest : List ℕ) (P : Type 0) → 0 < length rest → P ⊎ (rest ≡ []) → P
rest_not_empty rest P some (inl p) = p
rest_not_empty rest P some (inr e) = absurd (some_rest rest some e)

-- lines that are whole and the rest, as lines
pub joined : (lines bytes rest : List ℕ) → bytes ≡ lines ++ rest → AreWhole lines ⊎ (rest ≡ []) → lines_of bytes ≡ lines_of lines ++ lines_of rest
joined lines bytes rest is (inl w) = ap lines_of is ∙ w rest
joined lines bytes rest is (inr e) =
    ap lines_of (is ∙ ap (λ zs. lines ++ zs) e ∙ append-nil lines) ∙ sym (append-nil (lines_of lines)) ∙ ap (λ zs. lines_of lines ++ lines_of zs) (sym e)

-- a line that is too long is there
pub long_some : (rest : List ℕ) → 65536 < length (line_of rest) → 0 < length rest
long_some [] s = absurd (omega arith)
long_some (b ∷ rest) s = omega arith

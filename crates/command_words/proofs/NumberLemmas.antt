-- A number of digits alone.
use Rattle.std.proofs.Common.{◌≡◌, ℕ, ◌<◌, ◌^◌, Bool, true, false, List, [], ◌∷◌, length, Some, None, refl, sym, ◌∙◌, ap, arith}
use Rattle.std.specs.Prelude.{Result, Ok, Err, MatchResult, OkIff, nat_lt, nat_le, ◌&&◌, if◌then◌else◌}
use Rattle.std.specs.Char.{is_ascii_digit}
use Rattle.std.specs.List.{list_all}
use Rattle.std.specs.Str.{all_ascii_digits}
use Rattle.std.specs.Str.Parse.{digits_value, ParsesUnsigned}
use Rattle.std.proofs.lemmas.Bool.Decides.{nat_tests}
use Rattle.std.proofs.lemmas.Str.Parse.{parse_digits, numerals_by_value, tells_all_ascii_digits}
use Rattle.command_words.specs.Forms.{within, number_of}

and_false : (b : Bool) → (b && false) ≡ false
and_false true = refl
and_false false = refl

by_length : (least most : ℕ) (text : List ℕ) → list_all is_ascii_digit text ≡ true → (some : Bool) → nat_lt 0 (length text) ≡ some
    → number_of least most text ≡ (if true && some then within least most (digits_value 10 text) else None)
by_length least most text digits some is = λ i. if digits i && is i then within least most (digits_value 10 text) else None

too_great : (least most n : ℕ) → most < n → within least most n ≡ None
too_great least most n great =
    let past : nat_le n most ≡ false = grind (arith, nat_tests) in
    (λ i. if nat_le least n && past i then Some n else None) ∙ (λ i. if and_false (nat_le least n) i then Some n else None)

no_number : (least most : ℕ) (text : List ℕ) → most < 2 ^ 32 → list_all is_ascii_digit text ≡ true → ((0 < length text) × (digits_value 10 text < 2 ^ 32) → ⊥)
    → (some : Bool) → nat_lt 0 (length text) ≡ some → number_of least most text ≡ None
no_number least most text small digits none false is = by_length least most text digits false is
no_number least most text small digits none true is =
    let there : 0 < length text = grind (arith, nat_tests) in
    let great : most < digits_value 10 text = below (digits_value 10 text) (λ fits. none (there, fits)) in
    by_length least most text digits true is ∙ too_great least most (digits_value 10 text) great
  where
    below : (n : ℕ) → (n < 2 ^ 32 → ⊥) → most < n
    below n past = omega (arith, past)

some_number : {E : Type 0} (least most : ℕ) (text : List ℕ) (r : Result ℕ E) → most < 2 ^ 32 → list_all is_ascii_digit text ≡ true
    → OkIff r ((0 < length text) × (digits_value 10 text < 2 ^ 32)) (digits_value 10 text)
    → MatchResult r (λ n. within least most n ≡ number_of least most text) (λ _. None ≡ number_of least most text)
some_number least most text (Ok n) small digits h =
    let some : 0 < length text = h.0.0 in
    let there : nat_lt 0 (length text) ≡ true = grind (arith, nat_tests) in
    ap (within least most) h.1 ∙ sym (by_length least most text digits true there)
some_number least most text (Err e) small digits h = sym (no_number least most text small digits h (nat_lt 0 (length text)) refl)

same_digits : (text : List ℕ) → list_all is_ascii_digit text ≡ all_ascii_digits text
same_digits [] = refl
same_digits (c ∷ cs) = ap (λ b. is_ascii_digit c && b) (same_digits cs)

pub number-read : {E : Type 0} (least most : ℕ) (text : List ℕ) (r : Result ℕ E) → most < 2 ^ 32 → list_all is_ascii_digit text ≡ true → ParsesUnsigned 32 10 text r
    → MatchResult r (λ n. within least most n ≡ number_of least most text) (λ _. None ≡ number_of least most text)
number-read least most text r small digits parses =
    some_number least most text r small digits (parse_digits (numerals_by_value _ tells_all_ascii_digits) 32 text r parses (sym (same_digits text) ∙ digits))

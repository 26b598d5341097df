-- Printed numbers are read back.
use Rattle.std.proofs.Common.{◌≡◌, ℕ, ◌<◌, ◌^◌, ◌+◌, ◌++◌, Bool, true, false, ◌==◌, List, [], ◌∷◌, length, refl, sym, ◌∙◌, ap, arith, subst, decimal, drop, ℤ, pos, negsuc, FitsSigned, append_assoc, length-append, length-drop, suc, take, ◌-◌}
use Rattle.std.proofs.Math.Seq.{take-length}
use Rattle.std.specs.Fmt.{signed_decimal}
use Rattle.std.specs.Char.{digit_value}
use Rattle.std.specs.Str.{IsUtf8}
use Rattle.std.specs.Str.Parse.{IsNumeral, digits_value, starts_with_minus}
use Rattle.std.proofs.lemmas.Bool.{eqb-true}
use Rattle.std.proofs.lemmas.Fmt.{decimal_is_IsNumeral, IsAscii-decimal}
use Rattle.std.proofs.lemmas.List.{drop_at}
use Rattle.std.proofs.lemmas.Str.{IsUtf8-from_ascii}
use Rattle.ls_value.specs.Reading.{IsIntText, int_value, digits_part}
use Rattle.ls_value.specs.Spelling.{constructor_code}
use mir.Syntax.{w64}

no_minus : (c : ℕ) (b : Bool) → (c == 45) ≡ b → digit_value c < 10 → b ≡ false
no_minus c true e d =
    let P : ℕ → Type 0 = λ n. digit_value n < 10 in
    let h : digit_value 45 < 10 = subst P (eqb-true c 45 e) d in
    absurd (omega arith)
no_minus c false e d = refl

numeral_no_minus : (ds : List ℕ) → IsNumeral 10 ds → starts_with_minus ds ≡ false
numeral_no_minus [] n = absurd (omega (arith, n.0))
numeral_no_minus (c ∷ cs) n = no_minus c (c == 45) refl n.1.0

pub record IsTextOf (z : ℤ) (bytes : List ℕ) : Type 0 where
  pub int : IsIntText bytes
  pub value : int_value bytes ≡ z

plain_text : (n : ℕ) (ds : List ℕ) → FitsSigned w64 (pos n) → IsNumeral 10 ds × (digits_value 10 ds ≡ n) → starts_with_minus ds ≡ false → IsTextOf (pos n) ds
plain_text n ds f h e =
    let part : digits_part ds ≡ ds = rw e refl in
    let value : int_value ds ≡ pos n = rw (e, h.1) refl in
    let P : ℤ → Type 0 = λ z. FitsSigned w64 z in
    record { int = (rw part h.0, subst P (sym value) f); value = value }

minus_text : (n : ℕ) (ds : List ℕ) → FitsSigned w64 (negsuc n) → IsNumeral 10 ds × (digits_value 10 ds ≡ suc n) → IsTextOf (negsuc n) (45 ∷ ds)
minus_text n ds f h =
    let value : int_value (45 ∷ ds) ≡ negsuc n = rw h.1 refl in
    let P : ℤ → Type 0 = λ z. FitsSigned w64 z in
    record { int = (h.0, subst P (sym value) f); value = value }

pub int_text : (z : ℤ) → FitsSigned w64 z → IsTextOf z (signed_decimal z)
int_text (pos n) f =
    let h = decimal_is_IsNumeral n (omega (arith, f.sfits)) in
    plain_text n (decimal n) f h (numeral_no_minus (decimal n) h.0)
int_text (negsuc n) f = minus_text n (decimal (suc n)) f (decimal_is_IsNumeral (suc n) (omega (arith, f.sfits)))

pub number_utf8 : (n : ℕ) (bytes : List ℕ) → n < 2 ^ 32 → bytes ≡ decimal n → IsUtf8 bytes
number_utf8 n bytes h e = rw e (IsUtf8-from_ascii (decimal n) (IsAscii-decimal n (omega arith)))

pub place_digits : (enumeration place : ℕ) (bytes : List ℕ) (n : ℕ) → bytes ≡ constructor_code enumeration place → n ≡ length (decimal enumeration) + 2 → drop n bytes ≡ decimal place
place_digits enumeration place bytes n e k =
    let front : List ℕ = 35 ∷ decimal enumeration ++ 46 ∷ [] in
    let whole : bytes ≡ front ++ decimal place = e ∙ ap (λ (xs : List ℕ). 35 ∷ xs) (sym (append_assoc (decimal enumeration) (46 ∷ []) (decimal place))) in
    let long : length front ≡ n = omega (arith, length-append {A = ℕ} (decimal enumeration) (46 ∷ [])) in
    ap (drop n) whole ∙ drop_at front (decimal place) n long

pub to_the_end : (bytes : List ℕ) (start : ℕ) → take (length bytes - start) (drop start bytes) ≡ drop start bytes
to_the_end bytes start = rw (← length-drop {A = ℕ} start bytes) (take-length (drop start bytes))

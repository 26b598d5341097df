-- Lemmas on numbers and symbols in a line.
use Rattle.std.proofs.Common.{◌≡◌, ℕ, ◌+◌, ◌<◌, ◌^◌, ◌==◌, Bool, true, false, List, [], ◌∷◌, ◌++◌, length, Some, refl, ◌∙◌, ap, arith, subst, decimal, position, nat_lt, IsAscii}
use Rattle.std.specs.List.{position_from}
use Rattle.std.specs.Char.{digit_value}
use Rattle.std.specs.Str.{IsUtf8}
use Rattle.std.specs.Str.Parse.{AllDigits}
use Rattle.std.proofs.lemmas.Bool.{eqb-true, ltb-true}
use Rattle.std.proofs.lemmas.Fmt.{decimal_is_IsNumeral}
use Rattle.std.proofs.lemmas.Iterator.Adapters.{position_from-zero}
use Rattle.std.proofs.lemmas.Str.{IsUtf8-from_ascii}
use Rattle.std.proofs.lemmas.Str.Ascii.{IsAscii-nil, IsAscii-cons}
use Rattle.ls_ops.specs.Signature.{symbol_of}
use Rattle.ls_ops.specs.declared.kinds.Op.{Op}
use Rattle.ls_ops.specs.declared.kinds.Op.TheVariants.{Add, Sub, Mul, Div, Rem, Neg, Less, LessEq, Greater, GreaterEq, Equal, Differ, Not, And, Or, Xor, Choose, Min, Max, Sign, Odd, IntOfChar, IsDigit, IsLetter}

abbrev pub is_dot : ℕ → Bool
is_dot b = b == 46

no_dot_by : (c : ℕ) (b : Bool) → (c == 46) ≡ b → digit_value c < 10 → b ≡ false
no_dot_by c true e d =
    let P : ℕ → Type 0 = λ n. digit_value n < 10 in
    let h : digit_value 46 < 10 = subst P (eqb-true c 46 e) d in
    absurd (omega arith)
no_dot_by c false e d = refl

no_dot : (c : ℕ) → digit_value c < 10 → (c == 46) ≡ false
no_dot c d = no_dot_by c (c == 46) refl d

dot_from : (digits rest : List ℕ) (i : ℕ) → AllDigits 10 digits → position_from is_dot i (digits ++ 46 ∷ rest) ≡ Some (i + length digits)
dot_from [] rest i h = ap (λ (n : ℕ). Some n) (omega arith)
dot_from (c ∷ digits) rest i h = rw (no_dot c h.0) (dot_from digits rest (i + 1) h.1 ∙ ap (λ (n : ℕ). Some n) (omega arith))

-- the first `.` stands behind the digits
pub dot_behind : (t : ℕ) (word rest : List ℕ) → t < 2 ^ 32 → word ≡ decimal t ++ 46 ∷ rest → position is_dot word ≡ Some (length (decimal t))
dot_behind t word rest h e =
    ap (position is_dot) e ∙ position_from-zero is_dot (decimal t ++ 46 ∷ rest)
    ∙ dot_from (decimal t) rest 0 (decimal_is_IsNumeral t (omega arith)).0.1 ∙ ap (λ (n : ℕ). Some n) (omega arith)

-- each byte is ASCII
abbrev AreAscii : List ℕ → Type 0
AreAscii [] = Unit {0}
AreAscii (c ∷ cs) = (nat_lt c 128 ≡ true) × AreAscii cs

ascii : (cs : List ℕ) → AreAscii cs → IsAscii cs
ascii [] h = IsAscii-nil
ascii (c ∷ cs) h = IsAscii-cons c cs (omega (arith, ltb-true c 128 h.0)) (ascii cs h.1)

utf8 : (cs : List ℕ) → AreAscii cs → IsUtf8 cs
utf8 cs h = IsUtf8-from_ascii cs (ascii cs h)

pub symbol_utf8 : (op : Op) → IsUtf8 (symbol_of op)
symbol_utf8 Add = utf8 (symbol_of Add) (refl, tt)
symbol_utf8 Sub = utf8 (symbol_of Sub) (refl, tt)
symbol_utf8 Mul = utf8 (symbol_of Mul) (refl, tt)
symbol_utf8 Div = utf8 (symbol_of Div) (refl, tt)
symbol_utf8 Rem = utf8 (symbol_of Rem) (refl, (refl, (refl, tt)))
symbol_utf8 Neg = utf8 (symbol_of Neg) (refl, (refl, tt))
symbol_utf8 Less = utf8 (symbol_of Less) (refl, tt)
symbol_utf8 LessEq = utf8 (symbol_of LessEq) (refl, (refl, tt))
symbol_utf8 Greater = utf8 (symbol_of Greater) (refl, tt)
symbol_utf8 GreaterEq = utf8 (symbol_of GreaterEq) (refl, (refl, tt))
symbol_utf8 Equal = utf8 (symbol_of Equal) (refl, tt)
symbol_utf8 Differ = utf8 (symbol_of Differ) (refl, (refl, tt))
symbol_utf8 Not = utf8 (symbol_of Not) (refl, (refl, (refl, tt)))
symbol_utf8 And = utf8 (symbol_of And) (refl, tt)
symbol_utf8 Or = utf8 (symbol_of Or) (refl, (refl, tt))
symbol_utf8 Xor = utf8 (symbol_of Xor) (refl, (refl, (refl, tt)))
symbol_utf8 Choose = utf8 (symbol_of Choose) (refl, (refl, tt))
symbol_utf8 Min = utf8 (symbol_of Min) (refl, (refl, (refl, tt)))
symbol_utf8 Max = utf8 (symbol_of Max) (refl, (refl, (refl, tt)))
symbol_utf8 Sign = utf8 (symbol_of Sign) (refl, (refl, (refl, (refl, tt))))
symbol_utf8 Odd = utf8 (symbol_of Odd) (refl, (refl, (refl, tt)))
symbol_utf8 IntOfChar = utf8 (symbol_of IntOfChar) (refl, (refl, (refl, (refl, (refl, (refl, (refl, (refl, (refl, (refl, (refl, tt)))))))))))
symbol_utf8 IsDigit = utf8 (symbol_of IsDigit) (refl, (refl, (refl, (refl, (refl, (refl, (refl, (refl, tt))))))))
symbol_utf8 IsLetter = utf8 (symbol_of IsLetter) (refl, (refl, (refl, (refl, (refl, (refl, (refl, (refl, (refl, tt)))))))))

-- An int's text is ASCII.
use Rattle.std.proofs.Common.{◌≡◌, ℕ, Bool, true, false, ◌==◌, if◌then◌else◌, List, [], ◌∷◌, refl, arith, IsAscii}
use Rattle.std.specs.Str.Parse.{AllDigits}
use Rattle.std.specs.Str.{IsUtf8}
use Rattle.std.proofs.lemmas.Fmt.{IsAscii-from_digits}
use Rattle.std.proofs.lemmas.Str.Ascii.{IsAscii-nil, IsAscii-cons}
use Rattle.std.proofs.lemmas.Str.{IsUtf8-from_ascii}
use Rattle.ls_value.specs.Reading.{IsIntText}
use borrow.Author.Tests.{eqb-true}

signed_ascii : (c : ℕ) (cs : List ℕ) (b : Bool) → (c == 45) ≡ b → AllDigits 10 (if b then cs else (c ∷ cs)) → IsAscii (c ∷ cs)
signed_ascii c cs true e d =
    let is : c ≡ 45 = eqb-true c 45 e in
    IsAscii-cons c cs (omega arith) (IsAscii-from_digits cs d)
signed_ascii c cs false e d = IsAscii-from_digits (c ∷ cs) d

int_ascii : (bytes : List ℕ) → IsIntText bytes → IsAscii bytes
int_ascii [] h = IsAscii-nil
int_ascii (c ∷ cs) h = signed_ascii c cs (c == 45) refl h.0.1

pub int_utf8 : (bytes : List ℕ) → IsIntText bytes → IsUtf8 bytes
int_utf8 bytes h = IsUtf8-from_ascii bytes (int_ascii bytes h)

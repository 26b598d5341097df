-- A string's bytes followed by zeros are a `Text`.
use Rattle.std.proofs.Common.{ℕ, List, length, drop, replicate, refl, arith, length-append, length-drop}
use Rattle.std.proofs.Math.Seq.{take-append_seam}
use Rattle.ls_value.specs.Character.{IsText}
use Rattle.ls_value.specs.TextBytes.{IsPadded, padded}

pub padded_text : (text : List ℕ) → IsText text → IsPadded (record { bytes = padded text; len = length text })
padded_text text t = record {
  room = omega (arith, length-append {A = ℕ} text (drop (length text) (replicate 63 0)), length-drop {A = ℕ} (length text) (replicate 63 0), t.0);
  short = t.0;
  rest = rw take-append_seam refl;
  characters = rw take-append_seam t.1;
}

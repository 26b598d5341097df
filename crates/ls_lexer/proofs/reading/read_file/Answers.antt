use Rattle.std.proofs.Common.{ℕ, ◌≤◌, ◌≡◌, List, length, ap, subst, ◌∙◌, arith}
use Rattle.std.specs.Str.{chars}
use Rattle.std.proofs.lemmas.Str.{length-le-encodes, encodes-chars}
use Rattle.ls_lexer.proofs.reading.read_file.Goals as goal

-- a text has no more characters than bytes
pub read-requires : goal.read-requires
read-requires c =
    let bytes = c.args.bytes.now in
    let few = let P : List ℕ → Type 0 = λ text. length (chars bytes) ≤ length text in
    subst P (encodes-chars bytes c.in-Ok.ensures.cases.1) (length-le-encodes (chars bytes)) in
    let read : c.as_slice.result.now ≡ chars bytes = c.as_slice.ensures.value ∙ c.in_ok-characters.ensures.value ∙ ap chars c.in-Ok.ensures.cases.0 in
    omega (arith, few, ap length read, c.requires.short)

use Rattle.std.proofs.Common.{Some, None, refl, sym, ◌∙◌, subst, to_z, of_z}
use Rattle.std.specs.Prelude.{FitsSigned}
use Rattle.std.proofs.lemmas.Int.{to_z-of_z}
use Rattle.ls_lexer.proofs.Told.{number_read, number_added}
use Rattle.ls_lexer.proofs.reading.add_number.Goals as goal
use mir.Syntax.{w64}

pub returns-in-Some-clause-number : goal.returns-in-Some-clause-number
returns-in-Some-clause-number c =
    let ds = c.args.spelling.now in
    let v = c.in-Some.value in
    let read = c.in-Some.ensures in
    let back = to_z-of_z w64 v (subst (FitsSigned w64) (sym read.1) read.0.1) in
    number_added c.add.result c.args.line (to_z w64 (of_z w64 v)) v ds c.args.tokens.now c.add.new.tokens c.add.ensures.token back
    (number_read ds c.as_bytes.result.now (Some v) c.requires.digits (c.as_bytes.ensures.value ∙ c.in_ok-text.ensures) read)

pub returns-clause-fault : goal.returns-clause-fault
returns-clause-fault c = λ given. (
  number_read c.args.spelling.now c.as_bytes.result.now None c.requires.digits (c.as_bytes.ensures.value ∙ c.in_ok-text.ensures) c.in-None.ensures,
  refl,
)
